-- What planned hooks have told of a trace goes on with each turn, and so they asked as planned.
use Rattle.std.proofs.Common.{◌≡◌, List, [], ◌++◌, Option, Some, None, refl, sym, ◌∙◌, ap, subst}
use Rattle.std.proofs.Common.{◌≢◌, ◌∷◌, append-nil, append_assoc, inl, inr}
use Rattle.std.specs.Prelude.{IfSome, MatchOption, IsSomeAnd, ⊤}
use Rattle.std.specs.Option.{option_or}
use Rattle.ev_types.specs.declared.act.Act.{Act}
use Rattle.ev_types.specs.declared.answer.AskAnswer.{AskAnswer}
use Rattle.ev_types.specs.declared.entry.Entry.TheVariants as entry
use Rattle.ev_types.specs.declared.plan_line.PlanLine.{PlanLine}
use Rattle.ev_types.specs.declared.side.SideId.{SideId}
use Rattle.ev_types.specs.declared.why.Why.{Why}
use Rattle.ev_types.specs.Sides.{number}
use Rattle.ev_types.specs.Trace.{Trace}
use Rattle.relay_core.specs.Fires.{told_more, HasAskedByPlan}
use Rattle.relay_model.specs.Answers.{TurnAnswer}
use Rattle.relay_model.specs.Hooked.{heard_in, asked_in, AskedAsPlanned, AskPlanned}
use Rattle.relay_model.specs.Plans.{IsPlanned}
use Rattle.relay_drive.specs.Seats.{seat, hook_at, EndsInFire, Telling, TellsMore, HooksTell, HooksTellBut, AreFresh}
use Rattle.relay_state.specs.State.{State}
use Rattle.relay_drive.specs.declared.fault.DriveFault.{DriveFault}
use Rattle.relay_drive.specs.declared.fault.DriveFault.TheVariants as fault
use Rattle.relay_drive.specs.Calls.{Ticks}
use Rattle.relay_drive.specs.Phases.{CutTurn, CutPolling, before, in_poll, in_serving, in_dispatch, in_passing, in_closing}
use Rattle.relay_drive.proofs.HookEvents.{IsUnhooked, heard_in-append, asked_in-append, unheard-in, unasked-in, then-unhooks, ticks-unhook}
use Rattle.relay_drive.proofs.HookEvents.{cut_polling-unhooks}
use Rattle.program_end.specs.Planned.{HasPlan, HavePlans, ToldOf, AllToldOf}

-- One hook

pub told-none : {H : Type 0} (tells : Telling H) (plan : List PlanLine) (e : SideId) (h : H) → HasPlan tells plan h →
    ToldOf tells plan e [] h
told-none tells plan e h k = record { planned = k.0; heard = k.1; asked = k.2; by_plan = refl }

-- what it tells by the three lists is what its plan has
by-lists : {H : Type 0} (tells : Telling H) (plan : List PlanLine) (xs : List Why) (ps : List (Act × AskAnswer)) (h : H) →
    tells.planned h ≡ Some plan → tells.heard h ≡ Some xs → tells.asked h ≡ Some ps →
    HasAskedByPlan (tells.planned h) (tells.heard h) (tells.asked h) → IsPlanned plan xs ps
by-lists tells plan xs ps h p q r k =
    subst (λ z. HasAskedByPlan (Some plan) (Some xs) z) r
    (subst (λ z. HasAskedByPlan (Some plan) z (tells.asked h)) q (subst (λ z. HasAskedByPlan z (tells.heard h) (tells.asked h)) p k))

of-lists : {H : Type 0} (tells : Telling H) (plan : List PlanLine) (xs : List Why) (ps : List (Act × AskAnswer)) (h : H) →
    tells.planned h ≡ Some plan → tells.heard h ≡ Some xs → tells.asked h ≡ Some ps → IsPlanned plan xs ps →
    HasAskedByPlan (tells.planned h) (tells.heard h) (tells.asked h)
of-lists tells plan xs ps h p q r k =
    subst (λ z. HasAskedByPlan z (tells.heard h) (tells.asked h)) (sym p)
    (subst (λ z. HasAskedByPlan (Some plan) z (tells.asked h)) (sym q) (subst (λ z. HasAskedByPlan (Some plan) (Some xs) z) (sym r) k))

told-more : {H : Type 0} (tells : Telling H) (plan : List PlanLine) (e : SideId) (t a : Trace) (was now : H) → ToldOf tells plan e t was →
    TellsMore tells was now (heard_in e a) (asked_in e a) → ToldOf tells plan e (t ++ a) now
told-more tells plan e t a was now k m =
    let planned : tells.planned now ≡ Some plan = m.planned ∙ k.planned in
    let heard : tells.heard now ≡ Some (heard_in e (t ++ a)) =
    m.heard ∙ ap (λ z. told_more z (heard_in e a)) k.heard ∙ ap Some (sym (heard_in-append e t a)) in
    let asked : tells.asked now ≡ Some (asked_in e (t ++ a)) =
    m.asked ∙ ap (λ z. told_more z (asked_in e a)) k.asked ∙ ap Some (sym (asked_in-append e t a)) in
    record {
      planned = planned;
      heard = heard;
      asked = asked;
      by_plan = by-lists tells plan (heard_in e (t ++ a)) (asked_in e (t ++ a)) now planned heard asked
          (m.by_plan (of-lists tells plan (heard_in e t) (asked_in e t) was k.planned k.heard k.asked k.by_plan));
    }

-- All of them

-- as a run begins
pub all_told-none : {H : Type 0} (tells : Telling H) (plan : SideId → List PlanLine) (hooks gone : List (Option H)) → AreFresh hooks gone →
    HavePlans tells plan hooks → AllToldOf tells plan hooks gone []
all_told-none {H = H} tells plan hooks gone fresh have e =
    subst (λ o. MatchOption (option_or (hook_at hooks (number e)) o) ((heard_in e [] ≡ []) × (asked_in e [] ≡ []))
    (ToldOf tells (plan e) e [])) (sym (fresh.none (number e)))
    (go (hook_at hooks (number e)) (have e))
  where
    go : (o : Option H) → IfSome o (HasPlan tells (plan e)) → MatchOption (option_or o None) ((heard_in e [] ≡ []) × (asked_in e [] ≡ []))
        (ToldOf tells (plan e) e [])
    go None k = (refl, refl)
    go (Some h) k = told-none tells (plan e) e h k

-- through a turn
pub all_told-more : {H : Type 0} (tells : Telling H) (plan : SideId → List PlanLine) (hooks gone hooks' gone' : List (Option H))
    (t a : Trace) →
    AllToldOf tells plan hooks gone t → HooksTell tells None hooks gone hooks' gone' a → AllToldOf tells plan hooks' gone' (t ++ a)
all_told-more {H = H} tells plan hooks gone hooks' gone' t a told h e =
    go (seat hooks gone (number e)) (seat hooks' gone' (number e)) (told e) (h.more e (λ p. absurd (cc)))
  where
    go : (o o' : Option H) → MatchOption o ((heard_in e t ≡ []) × (asked_in e t ≡ [])) (ToldOf tells (plan e) e t) →
        MatchOption o ((o' ≡ None) × (heard_in e a ≡ []) × (asked_in e a ≡ []))
        (λ was. IsSomeAnd o' (λ now. TellsMore tells was now (heard_in e a) (asked_in e a))) →
        MatchOption o' ((heard_in e (t ++ a) ≡ []) × (asked_in e (t ++ a) ≡ [])) (ToldOf tells (plan e) e (t ++ a))
    go None None k m =
        let x = k.0 in
        let y = k.1 in
        let u = m.1 in
        let v = m.2 in
        (heard_in-append e t a ∙ (λ i. x i ++ u i), asked_in-append e t a ∙ (λ i. y i ++ v i))
    go None (Some now) k m = absurd (let bad = m.0 in cc)
    go (Some was) None k m = absurd m
    go (Some was) (Some now) k m = told-more tells (plan e) e t a was now k m

-- so every hook asked what its plan has for what it heard
pub all_told-planned : {H : Type 0} (tells : Telling H) (plan : SideId → List PlanLine) (hooks gone : List (Option H)) (t : Trace) →
    AllToldOf tells plan hooks gone t → AskedAsPlanned plan t
all_told-planned {H = H} tells plan hooks gone t told e = go (seat hooks gone (number e)) (told e)
  where
    go : (o : Option H) → MatchOption o ((heard_in e t ≡ []) × (asked_in e t ≡ [])) (ToldOf tells (plan e) e t) →
        IsPlanned (plan e) (heard_in e t) (asked_in e t)
    go None k = subst (λ xs. IsPlanned (plan e) xs (asked_in e t)) (sym k.0) (subst (λ ps. IsPlanned (plan e) [] ps) (sym k.1) refl)
    go (Some h) k = k.by_plan

-- A turn that was cut off

-- for another cause than want of memory it was so before any hook was called
cut-unhooks : (f : DriveFault) (s new : State) (a : Trace) → f ≢ fault.Memory → CutTurn f s a new → IsUnhooked a
cut-unhooks f s new a k (before h) = absurd (k refl)
cut-unhooks f s new a k (in_poll reading h) =
    then-unhooks (Ticks reading) (CutPolling f) (ticks-unhook reading) (cut_polling-unhooks f) s new a h
cut-unhooks f s new a k (in_serving reading marked h) = absurd (k refl)
cut-unhooks f s new a k (in_dispatch h) = absurd (k refl)
cut-unhooks f s new a k (in_passing h) = absurd (k refl)
cut-unhooks f s new a k (in_closing h) = absurd (k refl)

-- so what was asked up to then is planned still
pub planned-cut : (plan : SideId → List PlanLine) (f : DriveFault) (t a : Trace) (s new : State) → f ≢ fault.Memory → CutTurn f s a new →
    AskedAsPlanned plan t → AskedAsPlanned plan (t ++ a)
planned-cut plan f t a s new k cut h e =
    let none : IsUnhooked a = cut-unhooks f s new a k cut in
    let x = heard_in-append e t a in
    let y = asked_in-append e t a in
    let u = unheard-in e a none in
    let v = unasked-in e a none in
    subst (λ xs. IsPlanned (plan e) xs (asked_in e (t ++ a))) (sym (x ∙ (λ i. heard_in e t ++ u i) ∙ append-nil (heard_in e t)))
    (subst (λ ps. IsPlanned (plan e) (heard_in e t) ps) (sym (y ∙ (λ i. asked_in e t ++ v i) ∙ append-nil (asked_in e t))) (h e))

-- One that was cut off for want of memory: all was asked as planned, but in the fire of the hook that wanted memory.
pub planned-short : {H : Type 0} (tells : Telling H) (plan : SideId → List PlanLine) (hooks gone hooks' gone' : List (Option H))
    (t a : Trace) → AllToldOf tells plan hooks gone t → HooksTellBut tells hooks gone hooks' gone' a →
    AskPlanned plan TurnAnswer.Memory (t ++ a)
planned-short tells plan hooks gone hooks' gone' t a told but = go but.0 but.1 but.2
  where
    go : (short : Option SideId) → HooksTell tells short hooks gone hooks' gone' a →
        MatchOption short ⊤ (λ e. EndsInFire tells e hooks gone a) → AskPlanned plan TurnAnswer.Memory (t ++ a)
    go None h k =
        inl (all_told-planned tells plan hooks' gone' (t ++ a) (all_told-more tells plan hooks gone hooks' gone' t a told h))
    go (Some e) h k = inr (
      t ++ k.before,
      k.fire,
      e,
      k.reason,
      ap (λ z. t ++ z) k.joined ∙ sym (append_assoc t k.before ((entry.Fired e k.reason, []) ∷ k.fire)),
      k.within,
      all_told-planned tells plan k.hooks_then k.gone_then (t ++ k.before)
          (all_told-more tells plan hooks gone k.hooks_then k.gone_then t k.before told k.told),
    )
