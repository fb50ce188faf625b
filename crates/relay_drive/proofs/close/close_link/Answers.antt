use Rattle.std.proofs.Common.{◌≡◌, ◌<◌, false, List, length, take, get_or, Ok, refl, sym, ◌∙◌, ap, subst, arith}
use Rattle.std.proofs.lemmas.Result.{err_from_is_err_and}
use Rattle.ev_types.specs.declared.side.Side.TheVariants.{In}
use Rattle.relay_core.specs.declared.close.Closing.{Closing}
use Rattle.relay_core.specs.declared.close.Closing.TheVariants.{BothDone, Faulty}
use Rattle.relay_core.specs.Steps.{link_of_step, steps_of}
use Rattle.relay_drive.specs.Steps.{Nothing}
use Rattle.relay_drive.specs.Phases.{LooksAt, ClosesLink}
use Rattle.relay_drive.proofs.ClosingLemmas.{closing_link}
use Rattle.std.specs.List.{All}
use Rattle.relay_drive.specs.Links.{IsUncalled}
use Rattle.relay_drive.proofs.EachLemmas.{goes_next, goes_cut, all_taken}
use Rattle.relay_drive.proofs.GoesLemmas.{Grew-none, goes_as, goes_nowhere}
use Rattle.relay_drive.proofs.LinkParts.{settled-closes}
use Rattle.relay_drive.proofs.close.close_link.Goals as goal
use Rattle.relay_drive.proofs.close.close_link.Goals.{then-branch, else-branch}

pub returns-then-is_running-clause-went : goal.returns-then-is_running-clause-went
returns-then-is_running-clause-went g c =
    let s = c.args.run.now.relay.state in
    let k = c.args.link in
    let settled = c.is_running.ensures.settled c.if-is_running.true in
    goes_as (λ a p. subst (λ z. ClosesLink k s z s) (sym p.0) (settled-closes k s settled))
    (goes_nowhere refl refl (Grew-none (g.S.Scribe.trace c.args.scribe.now)) (λ s t x k. k))

pub close_step-requires : goal.close_step-requires
close_step-requires g c =
    let k = c.args.link in
    let i = c.loop-step.step-index in
    let is = c.of-steps.ensures.steps in
    let lt : i < length (steps_of k) = c.loop-step-test.true in
    let link = ap (λ (z : List Closing). link_of_step (get_or z i _)) is ∙ closing_link k i _ lt in
    subst (λ m. m < c.loop-step.run.relay.state.plain.opened) (sym link) (subst (λ m. k < m) (sym c.loop-step.invariant.kept) c.requires)

pub returns-in_err-close_step-clause-went : goal.returns-in_err-close_step-clause-went
returns-in_err-close_step-clause-went g c =
    let p = err_from_is_err_and c.from_residual.result c.from_residual.ensures.1 in
    rw (p.1) (goes_cut LooksAt (λ _. Nothing) (steps_of c.args.link) c.loop-step.step-index (BothDone 0) c.loop-step-test.true
    c.loop-step.invariant.went c.in_err-close_step.ensures.went)

-- what stands for a step beyond the list
abbrev first_step : Closing
first_step = Faulty (record { link = 0; side = In })

pub loop-step-preserved : goal.loop-step-preserved
loop-step-preserved g c = record {
  went = goes_next LooksAt (steps_of c.args.link) c.loop-step.step-index _ c.loop-step-test.true
      c.loop-step.invariant.went (rw (c.of-steps.ensures.steps) at c.in_ok-close_step.ensures.went);
  uncalled = elim c.if-branch.branch [
    | then-branch w ↦ (λ none. absurd (let e = w.any-is in cc))
    | else-branch w ↦ (λ none. let before = c.loop-step.invariant.uncalled (sym w.any-is ∙ none) in
        let step = c.in_ok-close_step.ensures.called (ap Ok w.if-branch.false) in (
          step.0 ∙ before.0,
          all_taken (IsUncalled c.args.run.now.relay.state) (steps_of c.args.link) c.loop-step.step-index first_step c.loop-step-test.true
              before.1
              (subst (λ s. IsUncalled s (get_or (steps_of c.args.link) c.loop-step.step-index first_step)) before.0
              (rw (c.of-steps.ensures.steps) at step.1)),
        ))
  ];
  kept = c.in_ok-close_step.ensures.kept ∙ c.loop-step.invariant.kept;
}

pub returns-clause-settled : goal.returns-clause-settled
returns-clause-settled g c = λ h.
    let none : c.loop-step.any ≡ false = cc in
    let all : c.loop-step.step-index ≡ 9 = omega arith in
    let done = c.loop-step.invariant.uncalled none in
    (done.0, subst (λ i. All (IsUncalled c.args.run.now.relay.state) (take i (steps_of c.args.link))) all done.1)
