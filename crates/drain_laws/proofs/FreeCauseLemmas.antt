-- In a run over a script that can be drained each free is of a side that is done: no other cause can come.
use Rattle.std.proofs.Common.{◌≡◌, ℕ, zero, suc, ◌+◌, ◌<◌, ◌≤◌, Bool, true, false, ◌||◌, not, List, [], ◌∷◌, ◌++◌, length, ◌⊎◌, inl, inr}
use Rattle.std.proofs.Common.{refl, sym, ◌∙◌, ap, subst, arith, append_assoc, length-append}
use Rattle.std.specs.List.{list_any}
use Rattle.std.proofs.lemmas.Bool.{or_cases, or_left, or_right}
use Rattle.std.proofs.lemmas.List.Folds.{list_any-append}
use Rattle.token_bucket.specs.declared.limit.Dir.{Dir}
use Rattle.token_bucket.specs.declared.limit.Dir.TheVariants as dir
use Rattle.ev_types.specs.declared.side.Side.{Side}
use Rattle.ev_types.specs.declared.side.Side.TheVariants.{In, Out}
use Rattle.ev_types.specs.declared.side.SideId.{SideId}
use Rattle.ev_types.specs.declared.why.Cause.{Cause}
use Rattle.ev_types.specs.declared.why.Cause.TheVariants as cause
use Rattle.ev_types.specs.declared.entry.Entry.TheVariants as entry
use Rattle.ev_types.specs.ScriptTurn.{ScriptTurn, lines_of}
use Rattle.ev_types.specs.Sides.{peer}
use Rattle.ev_types.specs.Trace.{Event, Trace}
use Rattle.ev_types.specs.Usual.{no_timeouts}
use Rattle.relay_model.specs.Trace.{write_closed_by, is_write_closed}
use Rattle.relay_model.specs.Settings.{Settings, timeouts_set}
use Rattle.relay_model.specs.Plain.{Plain, PlainSide, side_at, is_live}
use Rattle.relay_model.specs.Moments.{timeout_of}
use Rattle.relay_model.specs.Close.{CloseStep}
use Rattle.relay_model.specs.Stages.{Stage, State, Fire, at, Between, Freeing, Closing}
use Rattle.relay_model.specs.Due.{Reason}
use Rattle.relay_model.specs.Turn.{Reaches, IsLegal}
use Rattle.relay_model.specs.Plays.{IsAnswered}
use Rattle.relay_model.specs.Told.{freed_by, is_freed, is_freeing, failed_by}
use Rattle.relay_model.specs.Causes.{HasCause, InThisTurn}
use Rattle.relay_model.proofs.CalledLemmas.{frees_are_called_for}
use Rattle.relay_model.proofs.CauseLemmas.{frees_have_causes}
use Rattle.relay_model.proofs.EndLemmas.{peer-peer, same_end-eq}
use Rattle.relay_model.proofs.HooklessLemmas.{Asleep, asleep}
use Rattle.relay_model.proofs.LeftLemmas.{in_of, out_of, in-or-out}
use Rattle.relay_model.proofs.PlacedLemmas.{live-there}
use Rattle.relay_model.proofs.ToldLemmas.{Kept, kept}
use Rattle.relay_laws.specs.Links.{done_by, is_done}
use Rattle.relay_laws.proofs.DoneOrder.{IsOutNext, Ended}
use Rattle.relay_laws.proofs.DoneLemmas.{joined}
use Rattle.relay_laws.proofs.SideLemmas.{Looks, all-hold}
use Rattle.drain_laws.specs.CanDrain.{CanDrain, NoneBehind}
use Rattle.drain_laws.specs.DrainBound.{FreesAreOfDone}
use Rattle.drain_laws.proofs.UnfailedLemmas.{found, any-there, no-end-fails}
use Rattle.drain_laws.proofs.GoodByteLemmas.{not-met}

-- Tests of a trace

any-more : (p q : Event → Bool) → ((y : Event) → p y ≡ true → q y ≡ true) → (t : Trace) → list_any p t ≡ true → list_any q t ≡ true
any-more p q less [] h = absurd (cc)
any-more p q less (y ∷ t) h = elim (or_cases (p y) (list_any p t) h) [
  | inl now ↦ or_left (q y) (list_any q t) (less y now)
  | inr later ↦ or_right (q y) (list_any q t) (any-more p q less t later)
]

done-freed : (e : SideId) (y : Event) → done_by e y ≡ true → freed_by e y ≡ true
done-freed e (entry.Freed side cause.Done moved given, bytes) h = h
done-freed e _ h = absurd (cc)

-- what holds of a beginning holds of the whole
any-later : (p : Event → Bool) (t before more : Trace) → t ≡ before ++ more → list_any p before ≡ true → list_any p t ≡ true
any-later p t before more is h = ap (list_any p) is ∙ list_any-append p before more ∙ or_left (list_any p before) (list_any p more) h

-- Both sides of a link

-- what is so of a side and of its peer is so of In and of Out, and the other way round
both-sides : (P : SideId → Type 0) (e : SideId) → P e → P (peer e) → P (in_of e.link) × P (out_of e.link)
both-sides P e near far = go (in-or-out e)
  where
    go : (e ≡ in_of e.link) ⊎ (e ≡ out_of e.link) → P (in_of e.link) × P (out_of e.link)
    go (inl same) = (subst P same near, subst P (ap peer same) far)
    go (inr same) = (subst P (ap peer same) far, subst P same near)

of-sides : (P : SideId → Type 0) (e : SideId) → P (in_of e.link) → P (out_of e.link) → P e × P (peer e)
of-sides P e i o = go (in-or-out e)
  where
    go : (e ≡ in_of e.link) ⊎ (e ≡ out_of e.link) → P e × P (peer e)
    go (inl same) = (subst P (sym same) i, subst P (sym (ap peer same)) o)
    go (inr same) = (subst P (sym same) o, subst P (sym (ap peer same)) i)

-- No timeouts

abbrev Untimed : ℕ → SideId → Looks → Type 0
Untimed n e x = x.timeouts ≡ no_timeouts

none-set : (g : Settings) (turns : List ScriptTurn) → CanDrain g turns → (x : Side) → timeouts_set g x ≡ no_timeouts
none-set g turns can In = can.in_timeouts
none-set g turns can Out = can.out_timeouts

untimed : (g : Settings) (turns : List ScriptTurn) → CanDrain g turns → (t : Trace) (s : State) → Reaches g t s → (e : SideId) →
    (side_at s.plain e).timeouts ≡ no_timeouts
untimed g turns can t s r = all-hold g Untimed (record {
  later = λ n m e x le h. h;
  unopened = λ n e. refl;
  fresh = λ n turn e connected. none-set g turns can e.side;
  was_read = λ n e x h. h;
  written = λ n e x h. h;
  connected = λ n e x h. h;
  asked = λ n e x r w hooked a b h. absurd (hooked can.hooks);
}) t s r

untimely : (x : PlainSide) (d : Dir) → x.timeouts ≡ no_timeouts → 1 ≤ timeout_of x d → ⊥
untimely x dir.Read h le = let none = ap (λ z. z.read_ms) h in absurd (omega (arith, none, le))
untimely x dir.Write h le = let none = ap (λ z. z.write_ms) h in absurd (omega (arith, none, le))

-- No hooks
not-freeing : (g : Settings) (x : Stage) (s : Plain) → Asleep g x s → (e : SideId) (f : Fire) (rs : List Reason) → x ≡ Freeing e f rs → ⊥
not-freeing g x s h e f rs is = let k = subst (λ z. Asleep g z s) is h in absurd k.idle

module _ (g : Settings) (turns : List ScriptTurn) (step : ℕ) (t : Trace) (can : CanDrain g turns)
    (ordered : NoneBehind (lines_of turns)) (legal : IsLegal g t)
    (answered : IsAnswered turns step t) where
  -- among the first events, so many, each free is of a side that is done
  abbrev DoneBelow : ℕ → Type 0
  DoneBelow n = (before after : Trace) (e : SideId) (why : Cause) (moved given : ℕ) (bytes : List ℕ) → length before < n →
      t ≡ before ++ (entry.Freed e why moved given, bytes) ∷ after → why ≡ cause.Done

  -- A peer that is gone was done, and so was the side

  -- where the peer was freed as done, writing was ended at both
  record PeerDone (before : Trace) (e : SideId) : Type 0 where
    near : is_write_closed e before ≡ true
    far : is_write_closed (peer e) before ≡ true

  peer-done : (n : ℕ) → DoneBelow n → (before rest : Trace) (e : SideId) → length before ≤ n → t ≡ before ++ rest →
      is_freed (peer e) before ≡ true → PeerDone before e
  peer-done n earlier before rest e le is freed =
      let f = found (freed_by (peer e)) before freed in by_event f.before f.event f.after f.is f.passes
    where
      by_event : (b : Trace) (y : Event) (a : Trace) → before ≡ b ++ y ∷ a → freed_by (peer e) y ≡ true → PeerDone before e
      by_event b (entry.Freed side why moved given, bytes) a split w =
          let y : Event = (entry.Freed side why moved given, bytes) in
          let whole : t ≡ b ++ y ∷ (a ++ rest) = is ∙ ap (λ z. z ++ rest) split ∙ append_assoc b (y ∷ a) rest in
          let size = ap length split in
          let sum = length-append b (y ∷ a) in
          let done = earlier b (a ++ rest) side why moved given bytes (omega (arith, size, sum, le)) whole in
          let as_done : t ≡ b ++ (entry.Freed side cause.Done moved given, bytes) ∷ (a ++ rest) =
          whole ∙ ap (λ v. b ++ (entry.Freed side v moved given, bytes) ∷ (a ++ rest)) done in
          let closed = frees_have_causes g t b (a ++ rest) side cause.Done moved given bytes legal as_done in
          let same : side ≡ peer e = same_end-eq side (peer e) w in
          record {
            near = any-later (write_closed_by e) before b (y ∷ a) split
                (ap (λ z. is_write_closed z b) (sym (ap peer same ∙ peer-peer e)) ∙ closed.1);
            far = any-later (write_closed_by (peer e)) before b (y ∷ a) split (ap (λ z. is_write_closed z b) (sym same) ∙ closed.0);
          }
      by_event b _ a split w = absurd (cc)

  dead-if : (live freed freeing : Bool) → live ≡ not (freed || freeing) → freed ≡ true → live ≡ true → ⊥
  dead-if live true freeing is h k = let dead : live ≡ false = is in cc
  dead-if live false freeing is h k = cc

  -- a live side whose peer is dead isn't of a link at both of whose sides writing was ended
  no-half : (before : Trace) (x : Stage) (s : Plain) (e : SideId) (left : List CloseStep) → Reaches g before (at x s) →
      x ≡ Closing (CloseStep.PeerGone e ∷ left) → is_live s e ≡ true → is_live s (peer e) ≡ false → PeerDone before e → ⊥
  no-half before x s e left r stage live dead closed = go ((joined g before (at x s) r).each e.link here ended.0 ended.1)
    where
      told : Kept g before x s
      told = kept g before (at x s) r

      here : e.link < s.opened
      here = live-there s e told.counts.shape.sides live

      ended : ((side_at s (in_of e.link)).write_ended ≡ true) × ((side_at s (out_of e.link)).write_ended ≡ true)
      ended = both-sides (λ z. (side_at s z).write_ended ≡ true) e ((told.each e here).write_ended ∙ closed.near)
          ((told.each (peer e) here).write_ended ∙ closed.far)

      go : Ended e.link before x s → ⊥
      go (Ended.joining i o j) = let both = of-sides (λ z. is_live s z ≡ true) e i o in let alive = both.1 in cc
      go (Ended.half_done i j) = absurd (subst (λ z. IsOutNext e.link z) stage j)
      go (Ended.all_done i o) =
          let both = of-sides (λ z. is_done z before ≡ true) e i o in
          dead-if (is_live s e) (is_freed e before) (is_freeing x e) (told.each e here).live
          (any-more (done_by e) (freed_by e) (done-freed e) before both.0) live

  -- Each cause

  not-peer_gone : (n : ℕ) → DoneBelow n → (before after : Trace) (e : SideId) (moved given : ℕ) (bytes : List ℕ) → length before ≤ n →
      t ≡ before ++ (entry.Freed e cause.PeerGone moved given, bytes) ∷ after → ⊥
  not-peer_gone n earlier before after e moved given bytes le is =
      let k = frees_are_called_for g t before after e cause.PeerGone moved given bytes legal is in
      let why = frees_have_causes g t before after e cause.PeerGone moved given bytes legal is in
      let c = k.called in
      no-half before k.stage k.plain e c.0 k.reached c.1 c.2 c.4
      (peer-done n earlier before ((entry.Freed e cause.PeerGone moved given, bytes) ∷ after) e le is why.0)

  not-failed : (before rest : Trace) (e : SideId) → t ≡ before ++ rest → InThisTurn (failed_by e) before → ⊥
  not-failed before rest e is h =
      let there = any-later (failed_by e) t before rest is (any-there (failed_by e) before h.early h.since h.event h.is h.passes) in
      let none = no-end-fails g turns step can ordered t answered e in cc

  below : (n : ℕ) → DoneBelow n
  below zero before after e why moved given bytes lt is = absurd (omega (arith, lt))
  below (suc n) before after e why moved given bytes lt is =
      go (below n) why is (frees_have_causes g t before after e why moved given bytes legal is)
    where
      go : DoneBelow n → (w : Cause) → t ≡ before ++ (entry.Freed e w moved given, bytes) ∷ after → HasCause g before e w → w ≡ cause.Done
      go earlier cause.Done is h = refl
      go earlier cause.Failed is h = absurd (not-failed before ((entry.Freed e cause.Failed moved given, bytes) ∷ after) e is h.2)
      go earlier cause.PeerGone is h = absurd (not-peer_gone n earlier before after e moved given bytes (omega (arith, lt)) is)
      go earlier cause.Hook is h =
          let k = frees_are_called_for g t before after e cause.Hook moved given bytes legal is in
          let c = k.called in
          absurd (not-freeing g k.stage k.plain (asleep g before (at k.stage k.plain) can.hooks k.reached) e c.0 c.1 c.2)
      go earlier cause.Timeout is h =
          let o = h.3 in
          absurd (untimely (side_at o.before e) o.dir (untimed g turns can o.early (at Between o.before) o.reached e)
          o.overdue.has_timeout)
      go earlier (cause.Filter place) is h =
          absurd (not-met g turns step can ordered t answered before ((entry.Freed e (cause.Filter place) moved given, bytes) ∷ after) is
          (at (Closing (CloseStep.Faulty e ∷ h.5.0)) h.0) e place h.5.1)

pub frees_are_of_done : FreesAreOfDone
frees_are_of_done g turns step t can ordered legal answered before after e why moved given bytes is =
    below g turns step t can ordered legal answered (length before + 1) before after e why moved given bytes (omega arith) is
