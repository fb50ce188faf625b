-- Each free is put from a state that calls for it, and a faulty side is freed.
use Rattle.std.proofs.Common.{◌≡◌, ℕ, true, if◌then◌else◌, List, ◌∷◌, Some, None, ◌⊎◌, inl, inr, refl, sym, ◌∙◌, ap, subst}
use Rattle.std.specs.Prelude.{option_map}
use Rattle.std.proofs.lemmas.Bool.{not-true}
use Rattle.ev_types.specs.declared.side.Side.TheVariants.{In, Out}
use Rattle.ev_types.specs.declared.side.SideId.{SideId}
use Rattle.ev_types.specs.declared.why.Cause.{Cause}
use Rattle.ev_types.specs.declared.why.Cause.TheVariants as cause
use Rattle.ev_types.specs.declared.entry.Entry.{Entry}
use Rattle.ev_types.specs.declared.entry.Entry.TheVariants as entry
use Rattle.ev_types.specs.Sides.{peer}
use Rattle.ev_types.specs.Trace.{Event, Trace}
use Rattle.relay_model.specs.Settings.{Settings}
use Rattle.relay_model.specs.Plain.{Plain, PlainSide, side_at, is_live}
use Rattle.relay_model.specs.Past.{past}
use Rattle.relay_model.specs.Close.{CloseStep, fault, freed_entry, closing_entry}
use Rattle.relay_model.specs.Stages.{Stage, State, at, Freeing, Closing}
use Rattle.relay_model.specs.Turn.{Reaches}
use Rattle.relay_model.specs.Causes.{IsCalledFor, PutFor, FreesAreCalledFor, FailedAreFreedSo, FaultsAreAnswered}
use Rattle.relay_model.proofs.PlacedLemmas.{live-there}
use Rattle.relay_model.proofs.ToldLemmas.{kept}
use Rattle.relay_model.proofs.HeldLemmas.{held}
use Rattle.relay_model.proofs.KindLemmas.{ClosedKind, closed-kind, put-kind}
use Rattle.relay_model.proofs.EntryKinds.{EndKind, end-kind}
use Rattle.relay_model.proofs.SplitLemmas.{reaches_split}
use Rattle.relay_model.proofs.CauseLemmas.{FaultCase, fault-case}
use Rattle.relay_model.proofs.OrderLemmas.{ordered, faultless}

-- Each free is called for

fault-called : (g : Settings) (t : Trace) (s : Plain) (e : SideId) (cs : List CloseStep) (why : Cause) → is_live s e ≡ true →
    fault (side_at s e) ≡ Some why → FaultCase (side_at s e) why → IsCalledFor g t (Closing (CloseStep.Faulty e ∷ cs)) s e why
fault-called g t s e cs why live h (FaultCase.by_failure a) = (cs, refl, live, h)
fault-called g t s e cs why live h (FaultCase.by_timeout a b) = (cs, refl, live, h)
fault-called g t s e cs why live h (FaultCase.by_filter a b d) = (cs, refl, live, h)

pub closed-called : (g : Settings) (t : Trace) (s : Plain) (c : CloseStep) (cs : List CloseStep) (y : Entry) →
    Reaches g t (at (Closing (c ∷ cs)) s) →
    ClosedKind g (past g t) s c y → (e : SideId) (why : Cause) (moved given : ℕ) → y ≡ entry.Freed e why moved given →
    IsCalledFor g t (Closing (c ∷ cs)) s e why
closed-called g t s c cs y r (ClosedKind.faulty {z = z} {why = w} a b) e why moved given h =
    let one : z ≡ e = cc in
    let two : w ≡ why = cc in
    subst (λ v. IsCalledFor g t (Closing (CloseStep.Faulty z ∷ cs)) s v why) one
    (subst (λ v. IsCalledFor g t (Closing (CloseStep.Faulty z ∷ cs)) s z v) two
    (fault-called g t s z cs w a b (fault-case (side_at s z) w b)))
closed-called g t s c cs y r (ClosedKind.write_ended a b) e why moved given h = absurd (cc)
closed-called g t s c cs y r (ClosedKind.in_done {k = n} a b d f) e why moved given h =
    let i : SideId = record { link = n; side = In } in
    let x : Stage = Closing (CloseStep.BothDone n ∷ cs) in
    let one : i ≡ e = cc in
    let two : cause.Done ≡ why = cc in
    let lt = live-there s i (kept g t (at x s) r).counts.shape.sides a in
    let none = faultless g t s (CloseStep.BothDone n) cs r (ordered g t (at x s) r).0 i refl refl lt a in
    subst (λ v. IsCalledFor g t x s v why) one (subst (λ v. IsCalledFor g t x s i v) two (cs, refl, a, none, d, f))
closed-called g t s c cs y r (ClosedKind.out_done {k = n}) e why moved given h =
    let o : SideId = record { link = n; side = Out } in
    let x : Stage = Closing (CloseStep.OutDone n ∷ cs) in
    let one : o ≡ e = cc in
    let two : cause.Done ≡ why = cc in
    let ready = (held g t (at x s) r).ready.0 in
    let lt = live-there s o (kept g t (at x s) r).counts.shape.sides ready.live in
    let none = faultless g t s (CloseStep.OutDone n) cs r (ordered g t (at x s) r).0 o refl refl lt ready.live in
    subst (λ v. IsCalledFor g t x s v why) one
    (subst (λ v. IsCalledFor g t x s o v) two (cs, refl, ready.live, none, ready.out_ended, ready.in_ended))
closed-called g t s c cs y r (ClosedKind.peer_gone {z = z} a b d) e why moved given h =
    let x : Stage = Closing (CloseStep.PeerGone z ∷ cs) in
    let one : z ≡ e = cc in
    let two : cause.PeerGone ≡ why = cc in
    let lt = live-there s z (kept g t (at x s) r).counts.shape.sides a in
    let none = faultless g t s (CloseStep.PeerGone z) cs r (ordered g t (at x s) r).0 z refl refl lt a in
    subst (λ v. IsCalledFor g t x s v why) one
    (subst (λ v. IsCalledFor g t x s z v) two (cs, refl, a, none, not-true (is_live s (peer z)) b, d))
closed-called g t s c cs y r (ClosedKind.shut a b) e why moved given h = absurd (cc)

put-called : (g : Settings) (t : Trace) (s : Plain) (x : Stage) (y : Event) (new : State) → Reaches g t (at x s) → EndKind g t s x y new →
    (e : SideId) (why : Cause) (moved given : ℕ) → y.0 ≡ entry.Freed e why moved given → IsCalledFor g t x s e why
put-called g t s x y new r (EndKind.recorded {gone = gone} {x = f} {rs = rs}) e why moved given h =
    let one : gone ≡ e = cc in
    let two : cause.Hook ≡ why = cc in
    subst (λ v. IsCalledFor g t (Freeing gone f rs) s v why) one
    (subst (λ v. IsCalledFor g t (Freeing gone f rs) s gone v) two (f, rs, refl))
put-called g t s x y new r (EndKind.closed {c = c} {cs = cs} {e = z} a) e why moved given h =
    closed-called g t s c cs z r (closed-kind g (past g t) s c z a) e why moved given h

pub frees_are_called_for : FreesAreCalledFor
frees_are_called_for g t before after e why moved given bytes legal split =
    let k = reaches_split g t legal.0 legal.1 before (entry.Freed e why moved given, bytes) after split in
    record {
      stage = k.old.stage;
      plain = k.old.plain;
      reached = k.reached;
      next = k.new;
      put = k.put;
      called = put-called g before k.old.plain k.old.stage (entry.Freed e why moved given, bytes) k.new k.reached
          (end-kind g before k.old.plain k.old.stage (entry.Freed e why moved given, bytes) k.new
          (put-kind g before k.old.stage k.old.plain (entry.Freed e why moved given) bytes k.new
          (kept g before k.old k.reached).placed k.put) refl)
          e why moved given refl;
    }

-- A side that failed

failed-fault : (x : PlainSide) → x.failed ≡ true → fault x ≡ Some cause.Failed
failed-fault x h = ap (λ b. if b then Some cause.Failed else (if x.expired then Some cause.Timeout else option_map cause.Filter x.bad)) h

pub failed_are_freed_so : FailedAreFreedSo
failed_are_freed_so g t before after e why moved given bytes legal split failed = go why k.called
  where
    k : PutFor g before e why moved given bytes
    k = frees_are_called_for g t before after e why moved given bytes legal split

    fails : is_live k.plain e ≡ true → fault (side_at k.plain e) ≡ Some cause.Failed
    fails live =
        let c = kept g before (at k.stage k.plain) k.reached in
        failed-fault (side_at k.plain e) ((c.each e (live-there k.plain e c.counts.shape.sides live)).failed ∙ failed)

    go : (c : Cause) → IsCalledFor g before k.stage k.plain e c → (c ≡ cause.Hook) ⊎ (c ≡ cause.Failed)
    go cause.Hook h = inl refl
    go cause.Failed h = inr refl
    go cause.Timeout h = absurd (let same = sym (fails h.2) ∙ h.3 in cc)
    go (cause.Filter place) h = absurd (let same = sym (fails h.2) ∙ h.3 in cc)
    go cause.Done h = absurd (let same = sym (fails h.2) ∙ h.3 in cc)
    go cause.PeerGone h = absurd (let same = sym (fails h.2) ∙ h.3 in cc)

-- Each fault is answered

pub faults_are_answered : FaultsAreAnswered
faults_are_answered g t s e left live = record {
  frees = λ why h. (entry_is why h, refl, refl);
  only = λ why h y bytes new p. (some-same (sym (sym (entry_is why h) ∙ p.0)), p.1);
  now = λ why h new q. some-none (sym (entry_is why h) ∙ q.0);
  spares = λ h y bytes new p. some-none (sym p.0 ∙ none_is h);
}
  where
    called : closing_entry g (past g t) s (CloseStep.Faulty e) ≡ option_map (freed_entry s e) (fault (side_at s e))
    called = ap (λ b. if b then option_map (freed_entry s e) (fault (side_at s e)) else None) live

    entry_is : (why : Cause) → fault (side_at s e) ≡ Some why →
        closing_entry g (past g t) s (CloseStep.Faulty e) ≡ Some (freed_entry s e why)
    entry_is why h = called ∙ ap (option_map (freed_entry s e)) h

    none_is : fault (side_at s e) ≡ None → closing_entry g (past g t) s (CloseStep.Faulty e) ≡ None
    none_is h = called ∙ ap (option_map (freed_entry s e)) h

    some-same : {a b : Entry} → Some a ≡ Some b → a ≡ b
    some-same h = cc

    some-none : {a : Entry} → Some a ≡ None → ⊥
    some-none h = cc
