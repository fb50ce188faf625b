use Rattle.std.proofs.Common.{◌∙◌}
use Rattle.std.proofs.lemmas.Result.{err_from_is_err_and}
use Rattle.relay_drive.specs.Phases.{ServesSide, CutServing}
use Rattle.relay_drive.proofs.EachLemmas.{goes_next, goes_cut}
use Rattle.relay_drive.proofs.serve.serve.Goals as goal

pub returns-in_err-serve_next-clause-went : goal.returns-in_err-serve_next-clause-went
returns-in_err-serve_next-clause-went g c =
    let p = err_from_is_err_and c.from_residual.result c.from_residual.ensures.1 in
    rw (p.1) (goes_cut ServesSide CutServing c.args.wants.now c.loop-want.want-index _ c.loop-want-test.true
    c.loop-want.invariant.went c.in_err-serve_next.ensures.went)

pub loop-want-preserved : goal.loop-want-preserved
loop-want-preserved g c = record {
  went = goes_next ServesSide c.args.wants.now c.loop-want.want-index _ c.loop-want-test.true c.loop-want.invariant.went
      c.in_ok-serve_next.ensures.went;
  kept = c.in_ok-serve_next.ensures.kept;
  names = λ t h. c.in_ok-serve_next.ensures.names t (c.loop-want.invariant.names t h);
  opened = c.in_ok-serve_next.ensures.opened ∙ c.loop-want.invariant.opened;
  inbox = c.in_ok-serve_next.ensures.inbox;
}
