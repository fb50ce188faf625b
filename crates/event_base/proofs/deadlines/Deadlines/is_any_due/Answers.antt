-- The least deadline tells.
use Rattle.std.proofs.Common.{◌≡◌, Some, arith}
use Rattle.std.proofs.lemmas.Bool.{leb-true, leb-false}
use Rattle.event_base.proofs.WantLemmas.{due-some, due-none}
use Rattle.event_base.proofs.deadlines.Deadlines.is_any_due.Goals as goal

pub returns-in-Some-clause-some : goal.returns-in-Some-clause-some
returns-in-Some-clause-some c = λ early. due-some c.args.time c.args.self.now.moments c.in-Some.first c.in-Some.ensures
    (leb-true c.in-Some.first c.args.time early)

pub returns-in-Some-clause-none : goal.returns-in-Some-clause-none
returns-in-Some-clause-none c = λ late. due-none c.args.time c.args.self.now.moments (Some c.in-Some.first) c.in-Some.ensures
    (λ n is. (let same : c.in-Some.first ≡ n = cc is in let behind = leb-false c.in-Some.first c.args.time late in omega arith))
