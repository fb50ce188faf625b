-- A fire, and all that a turn fires: the relay goes on standing, whatever the hooks ask.
use Rattle.std.proofs.Common.{◌≡◌, inl, inr, ◌+◌, ◌≤◌, Bool, true, false, ◌||◌, if◌then◌else◌, List, [], ◌∷◌, ◌++◌, length, Option, Some}
use Rattle.std.proofs.Common.{None, refl, sym, ◌∙◌, ap, subst, arith, append_assoc, append-nil}
use Rattle.std.specs.List.{list_any}
use Rattle.token_bucket.specs.declared.limit.Dir.TheVariants as dir
use Rattle.ev_types.specs.declared.side.SideId.{SideId}
use Rattle.ev_types.specs.declared.act.Act.{Act}
use Rattle.ev_types.specs.declared.act.Act.TheVariants as act
use Rattle.ev_types.specs.declared.answer.AskAnswer.{AskAnswer}
use Rattle.ev_types.specs.declared.answer.AskAnswer.TheVariants as ask
use Rattle.ev_types.specs.declared.entry.Entry.TheVariants as entry
use Rattle.ev_types.specs.Trace.{Trace}
use Rattle.relay_model.specs.Due.{Reason, without_reasons}
use Rattle.relay_model.specs.Asks.{refusal, most_asks}
use Rattle.relay_model.specs.Stages.{Fire, Stage, begun, after_ask}
use Rattle.relay_model.specs.Turn.{after_fire}
use Rattle.relay_model.proofs.RatesTold.{refusal-not_ok}
use Rattle.relay_state.specs.State.{State}
use Rattle.relay_state.specs.Asking.{asked, ask_events, left_to_fire, Answered, AsksAll, stops}
use Rattle.relay_steps.specs.Meaning.{StandsFor}
use Rattle.relay_steps.specs.HookLaws.{fire_asked, AsksAreStoodFor, FiresAreStoodFor}
use Rattle.relay_steps.proofs.AskSteps.{more, stage_after, refused-stands, lacking-stands, asked-stands, fired-stands, fire_ends-stands}

-- where a fire stands behind asks
abbrev fire_behind : Fire → List (Act × AskAnswer) → Fire
fire_behind x [] = x
fire_behind x (y ∷ ys) = fire_behind (fire_asked x y) ys

or-no : (b : Bool) → (b || false) ≡ b
or-no true = refl
or-no false = refl

or-yes : (b : Bool) → (b || true) ≡ true
or-yes true = refl
or-yes false = refl

or-join : (a b c : Bool) → ((a || b) || c) ≡ (a || (b || c))
or-join true b c = refl
or-join false b c = refl

still_stopped : (x : Fire) (a : Act) (r : AskAnswer) → stops (a, r) ≡ false → more x ≡ fire_asked x (a, r)
still_stopped x a r h = let q = sym (ap (λ b. x.stopped || b) h ∙ or-no x.stopped) in λ i. record x { asks = x.asks + 1; stopped = q i }

now_stopped : (x : Fire) → record (more x) { stopped = true } ≡ fire_asked x (act.Stop, ask.Ok)
now_stopped x = let q = sym (or-yes x.stopped) in λ i. record x { asks = x.asks + 1; stopped = q i }

behind-asks : (x : Fire) (ys : List (Act × AskAnswer)) → (fire_behind x ys).asks ≡ x.asks + length ys
behind-asks x [] = omega arith
behind-asks x (y ∷ ys) = let h = behind-asks (fire_asked x y) ys in omega (arith, h)

behind-side : (x : Fire) (ys : List (Act × AskAnswer)) → (fire_behind x ys).side ≡ x.side
behind-side x [] = refl
behind-side x (y ∷ ys) = behind-side (fire_asked x y) ys

behind-stopped : (x : Fire) (ys : List (Act × AskAnswer)) → (fire_behind x ys).stopped ≡ (x.stopped || list_any stops ys)
behind-stopped x [] = sym (or-no x.stopped)
behind-stopped x (y ∷ ys) = behind-stopped (fire_asked x y) ys ∙ or-join x.stopped (stops y) (list_any stops ys)

-- an answer by which nothing was done: the hook's fire goes on, one ask further
refused-stage : (x : Fire) (rs : List Reason) (a : Act) (r : AskAnswer) → (r ≡ ask.Ok → ⊥) →
    after_ask (more x) rs a r ≡ Stage.Firing (fire_asked x (a, r)) rs
refused-stage x rs a ask.Ok h = absurd (h refl)
refused-stage x rs act.Stop r h = ap (λ z. Stage.Firing z rs) (still_stopped x act.Stop r refl)
refused-stage x rs (act.Free e) r h = ap (λ z. Stage.Firing z rs) (still_stopped x (act.Free e) r refl)
refused-stage x rs a r h = ap (λ z. Stage.Firing z rs) (still_stopped x a r refl)

-- what is left to fire behind an ask that was done
where_raised : (b : Bool) (s raised : State) → raised.batch ≡ s.batch → (if b then raised else s).batch ≡ s.batch
where_raised true s raised h = h
where_raised false s raised h = refl

done-stage : (x : Fire) (s : State) (a : Act) → stage_after x s.batch a ask.Ok ≡ Stage.Firing (fire_asked x (a, ask.Ok)) (asked a s).batch
done-stage x s (act.Free e) = ap (λ z. Stage.Firing z (without_reasons e s.batch)) (still_stopped x (act.Free e) ask.Ok refl)
done-stage x s act.Stop = ap (λ z. Stage.Firing z s.batch) (now_stopped x)
done-stage x s (act.Rate e cfg) = ap (λ z. Stage.Firing z s.batch) (still_stopped x (act.Rate e cfg) ask.Ok refl)
done-stage x s (act.Join e n) = ap (λ z. Stage.Firing z s.batch) (still_stopped x (act.Join e n) ask.Ok refl)
done-stage x s (act.Leave e) = ap (λ z. Stage.Firing z s.batch) (still_stopped x (act.Leave e) ask.Ok refl)
done-stage x s (act.Trigger e dir.Read) =
    let a = act.Trigger e dir.Read in
    ap (λ z. Stage.Firing z s.batch) (still_stopped x a ask.Ok refl)
    ∙ ap (Stage.Firing (fire_asked x (a, ask.Ok))) (sym (where_raised _ s _ refl))
done-stage x s (act.Trigger e dir.Write) =
    let a = act.Trigger e dir.Write in
    ap (λ z. Stage.Firing z s.batch) (still_stopped x a ask.Ok refl)
    ∙ ap (Stage.Firing (fire_asked x (a, ask.Ok))) (sym (where_raised _ s _ refl))
done-stage x s a = ap (λ z. Stage.Firing z s.batch) (still_stopped x a ask.Ok refl)

-- an answer other than Ok leaves one entry
refused-entry : (me : SideId) (s : State) (a : Act) (r : AskAnswer) → (r ≡ ask.Ok → ⊥) → ask_events me s a r ≡ (entry.Asked me a r, []) ∷ []
refused-entry me s a ask.Ok h = absurd (h refl)
refused-entry me s (act.Free e) r h = refl
refused-entry me s a r h = refl

-- One ask, whatever it is and however it is answered: the relay goes on standing for the trace with its entries.
pub asks_are_stood_for : AsksAreStoodFor
asks_are_stood_for t s new x a r added k few h =
    subst (λ z. StandsFor (t ++ z) (Stage.Firing (fire_asked x (a, r)) new.batch) new) (sym h.entries)
    (by_refusal (refusal s.settings s.plain a) refl h.answered)
  where
    as_it_was : (r ≡ ask.Ok → ⊥) → new ≡ s → StandsFor (t ++ (entry.Asked x.side a r, []) ∷ []) (after_ask (more x) s.batch a r) s →
        StandsFor (t ++ ask_events x.side s a r) (Stage.Firing (fire_asked x (a, r)) new.batch) new
    as_it_was not_ok same stands =
        subst (λ z. StandsFor (t ++ ask_events x.side s a r) (Stage.Firing (fire_asked x (a, r)) z.batch) z) (sym same)
        (subst (λ z. StandsFor (t ++ z) (Stage.Firing (fire_asked x (a, r)) s.batch) s) (sym (refused-entry x.side s a r not_ok))
        (subst (λ z. StandsFor (t ++ (entry.Asked x.side a r, []) ∷ []) z s) (refused-stage x s.batch a r not_ok) stands))

    by_refusal : (o : Option AskAnswer) → refusal s.settings s.plain a ≡ o → Answered o s a r new →
        StandsFor (t ++ ask_events x.side s a r) (Stage.Firing (fire_asked x (a, r)) new.batch) new
    by_refusal (Some refused) is q =
        let why : refusal s.settings s.plain a ≡ Some r = is ∙ ap Some (sym q.0) in
        as_it_was (refusal-not_ok s.settings s.plain a r why) q.1 (refused-stands t s x s.batch k few a r why)
    by_refusal None is q = elim q [
      | inl done ↦
          subst (λ z. StandsFor (t ++ ask_events x.side s a z) (Stage.Firing (fire_asked x (a, z)) new.batch) new) (sym done.0)
          (subst (λ z. StandsFor (t ++ ask_events x.side s a ask.Ok) (Stage.Firing (fire_asked x (a, ask.Ok)) z.batch) z) (sym done.1)
          (subst (λ z. StandsFor (t ++ ask_events x.side s a ask.Ok) z (asked a s)) (done-stage x s a)
          (asked-stands t s x s.batch a k few is)))
      | inr lacks ↦
          as_it_was (λ bad. let no_ok : ask.Ok ≡ ask.Memory = sym bad ∙ lacks.0 in absurd (cc)) lacks.2
          (subst (λ z. StandsFor (t ++ (entry.Asked x.side a z, []) ∷ []) (after_ask (more x) s.batch a z) s) (sym lacks.0)
          (lacking-stands t s x s.batch k few a is lacks.1))
    ]

-- Asks in a row.
all-stand : (xs : List (Act × AskAnswer)) (t : Trace) (s new : State) (x : Fire) (added : Trace) →
    StandsFor t (Stage.Firing x s.batch) s → x.asks + length xs ≤ most_asks → AsksAll x.side xs s added new →
    StandsFor (t ++ added) (Stage.Firing (fire_behind x xs) new.batch) new
all-stand [] t s new x added k few h =
    subst (λ z. StandsFor z (Stage.Firing x new.batch) new) (sym (ap (λ a. t ++ a) h.0 ∙ append-nil t))
    (subst (λ z. StandsFor t (Stage.Firing x z.batch) z) (sym h.1) k)
all-stand (y ∷ ys) t s new x added k few h =
    let mid = h.0 in
    let front = h.1 in
    let back = h.2 in
    let one = asks_are_stood_for t s mid x y.0 y.1 front k (omega (arith, few)) h.3 in
    subst (λ z. StandsFor z (Stage.Firing (fire_behind x (y ∷ ys)) new.batch) new) (append_assoc t front back ∙ ap (λ z. t ++ z) (sym h.5))
    (all-stand ys (t ++ front) mid new (fire_asked x y) back one (omega (arith, few)) h.4)

-- A reason is fired, and its hook asks what it asks; behind that the next is fired, or the run is over.
pub fires_are_stood_for : FiresAreStoodFor
fires_are_stood_for stopped t s new added k h =
    let e = h.side in
    let u : Trace = t ++ (entry.Fired e h.reason, []) ∷ [] in
    let start = fired-stands t s e h.reason h.rest (subst (λ z. StandsFor t (Stage.Dispatching z) s) h.first k) h.live in
    let asks = all-stand h.asks u (left_to_fire h.rest s) new (begun e) h.behind start (let a = h.few in omega (arith, a)) h.does in
    let ended = fire_ends-stands (u ++ h.behind) new (fire_behind (begun e) h.asks) new.batch asks in
    let a = behind-side (begun e) h.asks in
    let b = behind-stopped (begun e) h.asks ∙ sym h.stops in
    let c = behind-asks (begun e) h.asks in
    subst (λ z. StandsFor z (after_fire (record { side = e; stopped = stopped; asks = length h.asks }) new.batch) new)
    (append_assoc t ((entry.Fired e h.reason, []) ∷ []) h.behind ∙ ap (λ z. t ++ z) (sym h.entries))
    (subst (λ z. StandsFor (u ++ h.behind) (after_fire z new.batch) new) (λ i. record { side = a i; stopped = b i; asks = c i }) ended)
