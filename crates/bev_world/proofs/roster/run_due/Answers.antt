use Rattle.std.proofs.Common.{◌∙◌, sym, arith, true, false}
use Rattle.std.proofs.lemmas.Result.{err_from_is_err_and}
use Rattle.bev_world.proofs.Hearing.{heard-all, heard-short}
use Rattle.bev_world.proofs.Taken.{ran-more, ran-short, ran-all, batch-shrinks}
use Rattle.bev_world.proofs.roster.run_due.Goals as goal

pub returns-in_err-serve_call-clause-ran : goal.returns-in_err-serve_call-clause-ran
returns-in_err-serve_call-clause-ran g c =
    let e = c.in_err-serve_call.ensures in
    let p = err_from_is_err_and c.from_residual.result c.from_residual.ensures.1 in
    rw p.1 (
      p.2 ∙ e.fault,
      ran-short _ _ _ _ c.next_call.new.self _ c.loop-owner.invariant.ran c.next_call.ensures.others _ _ c.in-Some.ensures.next e.short,
    )

pub loop-owner-smaller-then-branch : goal.loop-owner-smaller-then-branch
loop-owner-smaller-then-branch g c =
    batch-shrinks _ _ _ _ _ _ c.in-Some.ensures.next c.in_ok-serve_call.ensures.done

pub loop-owner-preserved-then-branch : goal.loop-owner-preserved-then-branch
loop-owner-preserved-then-branch g c = record {
  ran =
      ran-more _ _ _ _ _ _ _ c.in-Some.ensures.next c.next_call.ensures.others c.in_ok-serve_call.ensures.done
      _ true _ c.loop-owner.invariant.ran
      (sym c.if-branch.true ∙ c.in_ok-serve_call.ensures.started) c.saturating_add-count.ensures;
  kept = c.in_ok-serve_call.ensures.kept;
}

pub loop-owner-preserved : goal.loop-owner-preserved
loop-owner-preserved g c = record {
  ran =
      ran-more _ _ _ _ _ _ _ c.in-Some.ensures.next c.next_call.ensures.others c.in_ok-serve_call.ensures.done
      _ false _ c.loop-owner.invariant.ran
      (sym c.if-branch.false ∙ c.in_ok-serve_call.ensures.started) (let many = c.loop-owner.invariant.ran.many in omega arith);
  kept = c.in_ok-serve_call.ensures.kept;
}

pub returns-clause-ran : goal.returns-clause-ran
returns-clause-ran g c =
    ran-all _ _ _ _ _ _ c.loop-owner.invariant.ran c.next_call.ensures.others c.in_default.ensures.next c.in_default.ensures.used_up

pub returns-in_err-serve_call-clause-hooked : goal.returns-in_err-serve_call-clause-hooked
returns-in_err-serve_call-clause-hooked g c =
    let p = err_from_is_err_and c.from_residual.result c.from_residual.ensures.1 in
    rw p.1 (heard-short _ _ _ _ c.requires.kept
    (ran-short _ _ _ _ c.next_call.new.self _ c.loop-owner.invariant.ran c.next_call.ensures.others _ _
    c.in-Some.ensures.next c.in_err-serve_call.ensures.short))

pub returns-clause-hooked : goal.returns-clause-hooked
returns-clause-hooked g c = heard-all _ _ _ _ _ c.requires.kept (returns-clause-ran g c)
