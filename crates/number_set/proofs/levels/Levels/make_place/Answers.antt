use Rattle.std.proofs.Common.{arith}
use Rattle.number_set.proofs.TopLemmas.{more_tops}
use Rattle.number_set.proofs.levels.Levels.make_place.Goals as goal

pub invariant_of-self-clause-tops_are : goal.invariant_of-self-clause-tops_are
invariant_of-self-clause-tops_are c =
    more_tops c.args.self.now.words.items c.args.self.now.tops.items c.push.new.self.items _ c.args.self.now.tops_are (omega arith)
    c.push.ensures.items
