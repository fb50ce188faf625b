use Rattle.std.proofs.Common.{◌≡◌, ap, true, false, rules}
use Rattle.std.specs.Prelude.{is_ok}
use Rattle.bev_world.specs.Runs.{has_box}
use Rattle.bev_world.proofs.Calls.{some-then, done-started, done-short}
use Rattle.bev_world.proofs.roster.serve_call.Goals as goal

pub returns-then-is_err-clause-short : goal.returns-then-is_err-clause-short
returns-then-is_err-clause-short g c =
    let there : has_box c.args.roster.now.serving.items c.in-Some.id.0 ≡ true = search rules in
    let bad : is_ok c.start.result ≡ false = search rules in
    let id = some-then _ _ _ c.in-Some.ensures in
    done-short _ _ _ _ _ _ (ap (λ z. z.0) id.1) id.0 there _ _ bad c.start.ensures.called c.cut_batch.ensures

pub returns-clause-done : goal.returns-clause-done
returns-clause-done g c =
    let there : has_box c.args.roster.now.serving.items c.in-Some.id.0 ≡ true = search rules in
    let fine : is_ok c.start.result ≡ true = search rules in
    let id = some-then _ _ _ c.in-Some.ensures in
    done-started _ _ _ _ _ _ (ap (λ z. z.0) id.1) id.0 there _ fine c.start.ensures.called
