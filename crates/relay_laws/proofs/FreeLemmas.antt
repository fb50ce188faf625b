-- Why sides are freed where there are no hooks, no timeouts and no filters.
use Rattle.std.proofs.Common.{◌≡◌, ℕ, ◌-◌, ◌≤◌, Bool, true, false, List, [], ◌∷◌, ◌++◌, length, Some, None, inl, inr, refl, sym, ◌∙◌, ap}
use Rattle.std.proofs.Common.{subst, arith, append_assoc, if◌then◌else◌, Option}
use Rattle.std.specs.Prelude.{All, option_map}
use Rattle.std.proofs.lemmas.List.Elements.{All-nil, All-push}
use Rattle.token_bucket.specs.declared.limit.Dir.{Dir}
use Rattle.token_bucket.specs.declared.limit.Dir.TheVariants as dir
use Rattle.ev_types.specs.declared.side.SideId.{SideId}
use Rattle.ev_types.specs.declared.filter.FilterKind.{FilterKind}
use Rattle.ev_types.specs.declared.filter.FilterKind.TheVariants as kind
use Rattle.ev_types.specs.declared.why.Cause.{Cause}
use Rattle.ev_types.specs.declared.why.Cause.TheVariants as cause
use Rattle.ev_types.specs.declared.act.Act.{Act}
use Rattle.ev_types.specs.declared.act.Act.TheVariants as act
use Rattle.ev_types.specs.declared.answer.AskAnswer.{AskAnswer}
use Rattle.ev_types.specs.declared.answer.AskAnswer.TheVariants as ask
use Rattle.ev_types.specs.declared.entry.Entry.{Entry}
use Rattle.ev_types.specs.declared.entry.Entry.TheVariants as entry
use Rattle.ev_types.specs.Sides.{peer}
use Rattle.ev_types.specs.Trace.{Event, Trace}
use Rattle.relay_model.specs.Trace.{bytes_read, moved_at_free}
use Rattle.filter_model.specs.Filter.{filter_of}
use Rattle.relay_model.specs.Flow.{Flow, output}
use Rattle.relay_model.specs.Settings.{Settings, HasNoHooks}
use Rattle.ev_types.specs.Usual.{no_timeouts}
use Rattle.relay_model.specs.Plain.{Plain, PlainSide, side_at, flow_at}
use Rattle.relay_model.specs.Past.{Past, past}
use Rattle.relay_model.specs.Rooms.{read_kind, write_kind, output_at, output_length}
use Rattle.relay_model.specs.Moments.{timeout_of}
use Rattle.relay_model.specs.Close.{CloseStep, fault}
use Rattle.relay_model.specs.Stages.{Stage, State, at, Between, Dispatching}
use Rattle.relay_model.specs.Turn.{Puts, Reaches, IsLegal}
use Rattle.relay_model.specs.Causes.{IsFirstBad, IsBadPlace, HasCause}
use Rattle.relay_model.proofs.TotalLemmas.{frees_tell_totals}
use Rattle.relay_model.proofs.CauseLemmas.{frees_have_causes}
use Rattle.relay_model.proofs.QuietLemmas.{there}
use Rattle.relay_model.proofs.KindLemmas.{ClosedKind, closed-kind, PutKind, put-kind}
use Rattle.relay_model.proofs.ToldLemmas.{kept}
use Rattle.relay_model.proofs.HooklessLemmas.{Asleep, asleep}
use Rattle.relay_laws.specs.Plainly.{HasNoFilters}
use Rattle.relay_laws.specs.Frees.{IsFreedFor, FreesAreFor, is_of_hook, NothingIsOfHooks}
use Rattle.relay_laws.proofs.PlainlyLemmas.{read_kind-none, write_kind-none}
use Rattle.relay_laws.proofs.PlainlyLemmas as plain
use Rattle.relay_laws.proofs.ByteLemmas.{all-at}
use Rattle.relay_laws.proofs.SettledLemmas.{untimed}
use Rattle.relay_laws.proofs.OrderLemmas.{AllInOrder, raw_output_at-length, in_order}

-- No hook runs

closed-unasked : (g : Settings) (p : Past) (s : Plain) (c : CloseStep) (e : Entry) → ClosedKind g p s c e → is_of_hook (e, []) ≡ false
closed-unasked g p s c e (ClosedKind.faulty a b) = refl
closed-unasked g p s c e (ClosedKind.write_ended a b) = refl
closed-unasked g p s c e (ClosedKind.in_done a b d f) = refl
closed-unasked g p s c e ClosedKind.out_done = refl
closed-unasked g p s c e (ClosedKind.peer_gone a b d) = refl
closed-unasked g p s c e (ClosedKind.shut a b) = refl

put-unasked : (g : Settings) (t : Trace) (s : Plain) (x : Stage) (y : Event) (new : State) → PutKind g t s x y new →
    Puts g t x s y.0 y.1 new →
    Asleep g x s → is_of_hook y ≡ false
put-unasked g t s x y new (PutKind.turned a b) put h = refl
put-unasked g t s x y new PutKind.polled put h = refl
put-unasked g t s x y new (PutKind.wanted a) put h = refl
put-unasked g t s x y new PutKind.poll_failed put h = refl
put-unasked g t s x y new (PutKind.readied a) put h = refl
put-unasked g t s x y new PutKind.opened put h = refl
put-unasked g t s x y new (PutKind.checked a) put h = refl
put-unasked g t s x y new (PutKind.was_read left a b) put h = refl
put-unasked g t s x y new (PutKind.written a b c) put h = refl
put-unasked g t s x y new (PutKind.fired {rs = rs} a) put h =
    let none : rs ≡ [] = h.idle in absurd (subst (λ z. Puts g t (Dispatching z) s y.0 y.1 new) none put)
put-unasked g t s x y new (PutKind.frees a same) put h = absurd h.idle
put-unasked g t s x y new (PutKind.asked same k l) put h = absurd h.idle
put-unasked g t s x y new PutKind.recorded put h = refl
put-unasked g t s x y new (PutKind.closed {c = c} {e = e} a) put h = closed-unasked g (past g t) s c e (closed-kind g (past g t) s c e a)

all-unasked : (g : Settings) → HasNoHooks g → (t : Trace) (s : State) → Reaches g t s → All (λ y. is_of_hook y ≡ false) t
all-unasked g none t s Reaches.begins = All-nil (λ y. is_of_hook y ≡ false)
all-unasked g none t new (Reaches.goes {t = u} {s = old} r h) = all-unasked g none u old r
all-unasked g none t new (Reaches.puts {t = u} {s = old} e bytes r h) =
    let y : Event = (e, bytes) in
    All-push (λ z. is_of_hook z ≡ false) u y (all-unasked g none u old r)
    (put-unasked g u old.plain old.stage y new (put-kind g u old.stage old.plain e bytes new (kept g u old r).placed h) h
    (asleep g u old none r))

pub nothing_is_of_hooks : NothingIsOfHooks
nothing_is_of_hooks g t none legal = all-unasked g none t legal.0 legal.1

-- no free is asked for
not_asked : (g : Settings) → HasNoHooks g → (t : Trace) → IsLegal g t → (before early : Trace) (me : SideId) (a : Act) →
    (answer : AskAnswer) (y : Event) (after : Trace) → before ≡ early ++ (entry.Asked me a answer, []) ∷ [] → t ≡ before ++ y ∷ after → ⊥
not_asked g none t legal before early me a answer y after split is =
    let asked : Event = (entry.Asked me a answer, []) in
    let whole = is ∙ ap (λ z. z ++ y ∷ after) split ∙ append_assoc early (asked ∷ []) (y ∷ after) in
    let unasked = all-at (λ z. is_of_hook z ≡ false) early asked (y ∷ after)
    (subst (All (λ z. is_of_hook z ≡ false)) whole (nothing_is_of_hooks g t none legal)) in cc

-- No side times out, and no place is bad

untimely : (x : PlainSide) (d : Dir) → x.timeouts ≡ no_timeouts → 1 ≤ timeout_of x d → ⊥
untimely x dir.Read h le = let none = ap (λ z. z.read_ms) h in absurd (omega (arith, none, le))
untimely x dir.Write h le = let none = ap (λ z. z.write_ms) h in absurd (omega (arith, none, le))

no_first_bad : (k : FilterKind) (xs : List ℕ) (over : Bool) (place : ℕ) → k ≡ kind.None → IsFirstBad (filter_of k) xs over place → ⊥
no_first_bad k xs over place e h =
    let none : (filter_of kind.None).bad_at_end xs ≡ Some place = ap (λ z. (filter_of z).bad_at_end xs) (sym e) ∙ h.at_end in cc

no_bad_place : (g : Settings) → HasNoFilters g → (t : Trace) (s : Plain) (e : SideId) (place : ℕ) → IsBadPlace g t s e place → ⊥
no_bad_place g unset t s e place (inl h) = no_first_bad (read_kind g e.side) _ _ place (read_kind-none g unset e.side) h
no_bad_place g unset t s e place (inr h) = no_first_bad (write_kind g e.side) _ _ place (write_kind-none g unset e.side) h

-- Nothing waits for a side whose peer is gone

module _ (g : Settings) (unset : HasNoFilters g) where
  output-taken : (t : Trace) (s : Plain) (e : SideId) → AllInOrder t s →
      length (output_at g (past g t) s e) ≡ (flow_at s (peer e)).moved - (flow_at s (peer e)).turned
  output-taken t s e h =
      let f : Flow = flow_at s (peer e) in
      let read : List ℕ = bytes_read (peer e) t in
      let k = h (peer e) in
      ap (λ z. length (output (filter_of z) read f)) (read_kind-none g unset (peer e).side)
      ∙ plain.output-length read f k.used k.moved k.turned

  all-given : (t : Trace) (s : State) (e : SideId) → Reaches g t s → output_length g (past g t) s.plain e ≡ 0 →
      (flow_at s.plain (peer e)).moved ≡ (flow_at s.plain (peer e)).given
  all-given t s e r h =
      let o = in_order g unset t s r in
      let k = o (peer e) in
      let a = k.turned in let b = k.given in
      let c = output-taken t s.plain e o in
      let d = raw_output_at-length g unset t e s.plain o in
      omega (arith, a, b, c, d, h)

  -- a fault is no peer that is gone
  not-gone : (x : PlainSide) (why : Cause) → fault x ≡ Some why → why ≡ cause.PeerGone → ⊥
  not-gone x why h k = go x.failed x.expired x.bad (h ∙ ap Some k)
    where
      go : (a b : Bool) (o : Option ℕ) →
          (if a then Some cause.Failed else (if b then Some cause.Timeout else option_map cause.Filter o)) ≡ Some cause.PeerGone → ⊥
      go true b o h = cc
      go false true o h = cc
      go false false (Some place) h = cc
      go false false None h = cc

  gone-given : (t : Trace) (s : Plain) (x : Stage) (y : Event) (new : State) → Reaches g t (at x s) → PutKind g t s x y new →
      (e : SideId) (moved given : ℕ) → y.0 ≡ entry.Freed e cause.PeerGone moved given →
      All (λ told. told ≡ given) (moved_at_free (peer e) t)
  gone-given t s x y new r (PutKind.turned a b) e moved given h = absurd (cc)
  gone-given t s x y new r PutKind.polled e moved given h = absurd (cc)
  gone-given t s x y new r (PutKind.wanted a) e moved given h = absurd (cc)
  gone-given t s x y new r PutKind.poll_failed e moved given h = absurd (cc)
  gone-given t s x y new r (PutKind.readied a) e moved given h = absurd (cc)
  gone-given t s x y new r PutKind.opened e moved given h = absurd (cc)
  gone-given t s x y new r (PutKind.checked a) e moved given h = absurd (cc)
  gone-given t s x y new r (PutKind.was_read left a b) e moved given h = absurd (cc)
  gone-given t s x y new r (PutKind.written a b c) e moved given h = absurd (cc)
  gone-given t s x y new r (PutKind.fired a) e moved given h = absurd (cc)
  gone-given t s x y new r (PutKind.frees a same) e moved given h = absurd (cc)
  gone-given t s x y new r (PutKind.asked same k l) e moved given h = absurd (cc)
  gone-given t s x y new r PutKind.recorded e moved given h = absurd (cc)
  gone-given t s x y new r (PutKind.closed {c = c} {e = v} a) e moved given h = by_kind c v (closed-kind g (past g t) s c v a) h
    where
      by_kind : (c : CloseStep) (v : Entry) → ClosedKind g (past g t) s c v → v ≡ entry.Freed e cause.PeerGone moved given →
          All (λ told. told ≡ given) (moved_at_free (peer e) t)
      by_kind c v (ClosedKind.faulty {z = z} {why = w} a b) h =
          absurd (not-gone (side_at s z) w b (let w_is : w ≡ cause.PeerGone = cc in w_is))
      by_kind c v (ClosedKind.write_ended a b) h = absurd (cc)
      by_kind c v (ClosedKind.in_done a b d f) h = absurd (cc)
      by_kind c v ClosedKind.out_done h = absurd (cc)
      by_kind c v (ClosedKind.peer_gone {z = z} a b d) h =
          let one : z ≡ e = cc in
          let two : (flow_at s (peer z)).given ≡ given = cc in
          let told = (frees_tell_totals g t x s (peer z) r).moved in
          let same = all-given t (at x s) z r d ∙ two in
          subst (λ k. All (λ told. told ≡ given) (moved_at_free (peer k) t)) one
          (subst (λ n. All (λ told. told ≡ n) (moved_at_free (peer z) t)) same told)
      by_kind c v (ClosedKind.shut a b) h = absurd (cc)

pub frees_are_for : FreesAreFor
frees_are_for g t before after e why moved given bytes unset legal is =
    go why is (frees_have_causes g t before after e why moved given bytes legal is)
  where
    go : (w : Cause) → t ≡ before ++ (entry.Freed e w moved given, bytes) ∷ after → HasCause g before e w → IsFreedFor before e w given
    go cause.Done is h = (h.0, h.1)
    go cause.Failed is h = h.2
    go cause.PeerGone is h =
        let k = there g t legal.0 legal.1 before (entry.Freed e cause.PeerGone moved given, bytes) after is in
        (h.0, gone-given g unset.filters before k.old.plain k.old.stage _ k.new k.reached k.kind e moved given refl)
    go cause.Hook is h =
        not_asked g unset.hooks t legal before h.early h.me (act.Free e) ask.Ok (entry.Freed e cause.Hook moved given, bytes) after h.is is
    go cause.Timeout is h =
        let o = h.3 in
        untimely (side_at o.before e) o.dir (untimed g unset o.early (at Between o.before) o.reached e) o.overdue.has_timeout
    go (cause.Filter place) is h = no_bad_place g unset.filters before h.0 e place h.4
