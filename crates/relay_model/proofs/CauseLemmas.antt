-- Each free of a legal trace has its cause.
use Rattle.std.proofs.Common.{◌≡◌, ℕ, Bool, true, false, ◌||◌, not, if◌then◌else◌, List, ◌∷◌, Option, Some, None, refl, sym, ◌∙◌, subst}
use Rattle.std.specs.Prelude.{option_map}
use Rattle.std.proofs.lemmas.Bool.{not-true}
use Rattle.ev_types.specs.declared.side.Side.TheVariants.{In, Out}
use Rattle.ev_types.specs.declared.side.SideId.{SideId}
use Rattle.ev_types.specs.declared.why.Cause.{Cause}
use Rattle.ev_types.specs.declared.why.Cause.TheVariants as cause
use Rattle.ev_types.specs.declared.entry.Entry.{Entry}
use Rattle.ev_types.specs.declared.entry.Entry.TheVariants as entry
use Rattle.ev_types.specs.Sides.{peer}
use Rattle.ev_types.specs.Trace.{Event, Trace}
use Rattle.relay_model.specs.Settings.{Settings}
use Rattle.relay_model.specs.Plain.{Plain, PlainSide, side_at, is_live}
use Rattle.relay_model.specs.Past.{past}
use Rattle.relay_model.specs.Close.{CloseStep, fault}
use Rattle.relay_model.specs.Stages.{Stage, State, at, Between, Freeing, Closing}
use Rattle.relay_model.specs.Turn.{Reaches}
use Rattle.relay_model.specs.Told.{is_freed}
use Rattle.relay_model.proofs.EndLemmas.{same_end-refl}
use Rattle.relay_model.proofs.SeenLemmas.{seen}
use Rattle.relay_model.proofs.PlacedLemmas.{live-there}
use Rattle.relay_model.proofs.ToldLemmas.{kept}
use Rattle.relay_model.specs.Causes.{HasCause, FreesHaveCauses, FaultsAreFreed}
use Rattle.relay_model.proofs.HeldLemmas.{held}
use Rattle.relay_model.proofs.FaultSteps.{faults}
use Rattle.relay_model.proofs.BadSteps.{bad_place}
use Rattle.relay_model.proofs.FirstMet.{first-met}
use Rattle.relay_model.proofs.OrderLemmas.{ordered, faultless}
use Rattle.relay_model.proofs.QuietLemmas.{there}
use Rattle.relay_model.proofs.FaultLemmas.{is_faulty, no-fault}
use Rattle.relay_model.proofs.KindLemmas.{ClosedKind, closed-kind}
use Rattle.relay_model.proofs.EntryKinds.{EndKind, end-kind}

-- the causes of a fault
pub data FaultCase (x : PlainSide) : Cause → Type 0 where
  by_failure : x.failed ≡ true → FaultCase x cause.Failed
  by_timeout : x.failed ≡ false → x.expired ≡ true → FaultCase x cause.Timeout
  by_filter : {place : ℕ} → x.failed ≡ false → x.expired ≡ false → x.bad ≡ Some place → FaultCase x (cause.Filter place)

pub fault-case : (x : PlainSide) (why : Cause) → fault x ≡ Some why → FaultCase x why
fault-case x why h = go x.failed refl x.expired refl x.bad refl h
  where
    go : (a : Bool) → x.failed ≡ a → (b : Bool) → x.expired ≡ b → (o : Option ℕ) → x.bad ≡ o →
        (if a then Some cause.Failed else (if b then Some cause.Timeout else option_map cause.Filter o)) ≡ Some why → FaultCase x why
    go true a b i o j h = let same : cause.Failed ≡ why = cc in subst (λ v. FaultCase x v) same (FaultCase.by_failure a)
    go false a true i o j h = let same : cause.Timeout ≡ why = cc in subst (λ v. FaultCase x v) same (FaultCase.by_timeout a i)
    go false a false i (Some place) j h = let same : cause.Filter place ≡ why = cc in subst (λ v. FaultCase x v) same
        (FaultCase.by_filter a i j)
    go false a false i None j h = absurd (cc)

faulty-cause : (g : Settings) (t : Trace) (s : Plain) (z : SideId) (cs : List CloseStep) (why : Cause) → Reaches g t
    (at (Closing (CloseStep.Faulty z ∷ cs)) s) → is_live s z ≡ true → FaultCase (side_at s z) why → HasCause g t z why
faulty-cause g t s z cs why r live (FaultCase.by_failure a) =
    let k = kept g t (at (Closing (CloseStep.Faulty z ∷ cs)) s) r in (
      s,
      record { left = cs; reached = r },
      (faults g t (at (Closing (CloseStep.Faulty z ∷ cs)) s) r).failed z
          (live-there s z k.counts.shape.sides live) live a,
    )
faulty-cause g t s z cs why r live (FaultCase.by_timeout a b) =
    let k = kept g t (at (Closing (CloseStep.Faulty z ∷ cs)) s) r in
    let lt = live-there s z k.counts.shape.sides live in (
      s,
      record { left = cs; reached = r },
      sym (k.each z lt).failed ∙ a,
      (faults g t (at (Closing (CloseStep.Faulty z ∷ cs)) s)
          r).expired z lt live b,
    )
faulty-cause g t s z cs why r live (FaultCase.by_filter {place = place} a b d) =
    let k = kept g t (at (Closing (CloseStep.Faulty z ∷ cs)) s) r in
    let lt = live-there s z k.counts.shape.sides live in (
      s,
      record { left = cs; reached = r },
      sym (k.each z lt).failed ∙ a,
      b,
      bad_place g t (Closing (CloseStep.Faulty z ∷ cs)) s r z place live d,
      (cs, first-met g t (at (Closing (CloseStep.Faulty z ∷ cs)) s) r z lt place d),
    )

closed-cause : (g : Settings) (t : Trace) (s : Plain) (c : CloseStep) (cs : List CloseStep) (y : Entry) → Reaches g t
    (at (Closing (c ∷ cs)) s) → ClosedKind g (past g t) s c y →
    (e : SideId) (why : Cause) (moved given : ℕ) → y ≡ entry.Freed e why moved given → HasCause g t e why
closed-cause g t s c cs y r (ClosedKind.faulty {z = z} {why = w} a b) e why moved given h =
    let one : z ≡ e = cc in
    let two : w ≡ why = cc in
    subst (λ v. HasCause g t v why) one (subst (λ v. HasCause g t z v) two (faulty-cause g t s z cs w r a (fault-case (side_at s z) w b)))
closed-cause g t s c cs y r (ClosedKind.write_ended a b) e why moved given h = absurd (cc)
closed-cause g t s c cs y r (ClosedKind.in_done {k = n} a b d f) e why moved given h =
    let i : SideId = record { link = n; side = In } in
    let o : SideId = record { link = n; side = Out } in
    let one : i ≡ e = cc in
    let two : cause.Done ≡ why = cc in
    let k = kept g t (at (Closing (CloseStep.BothDone n ∷ cs)) s) r in
    let lt = live-there s i k.counts.shape.sides a in
    subst (λ v. HasCause g t v why) one (subst (λ v. HasCause g t i v) two (
      sym (k.each i lt).write_ended ∙ d,
      sym (k.each o lt).write_ended ∙ f,
      (
        s,
        cs,
        r,
        faultless g t s (CloseStep.BothDone n) cs r (ordered g t (at (Closing (CloseStep.BothDone n ∷ cs)) s) r).0 i refl
            refl lt a,
      ),
    ))
closed-cause g t s c cs y r (ClosedKind.out_done {k = n}) e why moved given h =
    let i : SideId = record { link = n; side = In } in
    let o : SideId = record { link = n; side = Out } in
    let one : o ≡ e = cc in
    let two : cause.Done ≡ why = cc in
    let k = kept g t (at (Closing (CloseStep.OutDone n ∷ cs)) s) r in
    let ready = (held g t (at (Closing (CloseStep.OutDone n ∷ cs)) s) r).ready.0 in
    subst (λ v. HasCause g t v why) one (subst (λ v. HasCause g t o v) two (
      sym (k.each o k.placed.0).write_ended ∙ ready.out_ended,
      sym (k.each i k.placed.0).write_ended ∙ ready.in_ended,
      (
        s,
        cs,
        r,
        faultless g t s (CloseStep.OutDone n) cs r (ordered g t (at (Closing (CloseStep.OutDone n ∷ cs)) s) r).0 o refl
            refl k.placed.0 ready.live,
      ),
    ))
closed-cause g t s c cs y r (ClosedKind.peer_gone {z = z} a b d) e why moved given h =
    let one : z ≡ e = cc in
    let two : cause.PeerGone ≡ why = cc in
    let k = kept g t (at (Closing (CloseStep.PeerGone z ∷ cs)) s) r in
    let lt = live-there s z k.counts.shape.sides a in
    let told = (k.each (peer z) lt).live in
    subst (λ v. HasCause g t v why) one (subst (λ v. HasCause g t z v) two (
      gone (is_freed (peer z) t) (sym told ∙ not-true (is_live s (peer z)) b),
      (
        Closing (CloseStep.PeerGone z ∷ cs),
        s,
        r,
        d,
        (cs, refl),
        faultless g t s (CloseStep.PeerGone z) cs r (ordered g t (at (Closing (CloseStep.PeerGone z ∷ cs)) s) r).0 z refl refl lt a,
      ),
    ))
  where
    gone : (f : Bool) → not (f || false) ≡ false → f ≡ true
    gone true h = refl
    gone false h = absurd (cc)
closed-cause g t s c cs y r (ClosedKind.shut a b) e why moved given h = absurd (cc)

put-cause : (g : Settings) (t : Trace) (s : Plain) (x : Stage) (y : Event) (new : State) → Reaches g t (at x s) → EndKind g t s x y
    new → (e : SideId) (why : Cause) (moved given : ℕ) → y.0 ≡ entry.Freed e why moved given → HasCause g t e why
put-cause g t s x y new r (EndKind.recorded {gone = gone} {x = f} {rs = rs}) e why moved given h =
    let one : gone ≡ e = cc in
    let two : cause.Hook ≡ why = cc in
    let k = (held g t (at (Freeing gone f rs) s) r).hook gone (same_end-refl gone) in
    subst (λ v. HasCause g t v why) one (subst (λ v. HasCause g t gone v) two (record { early = k.early; me = k.me; is = k.is }))
put-cause g t s x y new r (EndKind.closed {c = c} {cs = cs} {e = z} a) e why moved given h = closed-cause g t s c cs z r
    (closed-kind g (past g t) s c z a) e why moved given h

pub frees_have_causes : FreesHaveCauses
frees_have_causes g t before after e why moved given bytes legal split =
    let k = there g t legal.0 legal.1 before (entry.Freed e why moved given, bytes) after split in
    put-cause g before k.old.plain k.old.stage _ k.new k.reached (end-kind g before k.old.plain k.old.stage _ k.new k.kind refl)
    e why moved given refl

pub faults_are_freed : FaultsAreFreed
faults_are_freed g t s e r lt live = no-fault (side_at s e) (go (is_faulty (seen (side_at s e))) refl)
  where
    go : (q : Bool) → is_faulty (seen (side_at s e)) ≡ q → is_faulty (seen (side_at s e)) ≡ false
    go false h = h
    go true h = absurd ((faults g t (at Between s) r).await e lt live h)
