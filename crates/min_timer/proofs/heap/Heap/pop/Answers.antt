use Rattle.std.proofs.Common.{◌≡◌, ◌∙◌, ◌<◌, sym, ap, drop, slice_get, length, ◌∷◌, arith}
use Rattle.std.proofs.lemmas.Bool.Decides.{nat_tests}
use Rattle.min_timer.specs.Order.{in_order}
use Rattle.min_timer.proofs.ViewLemmas.{top-out}
use Rattle.min_timer.proofs.heap.Heap.pop.Goals as goal

-- there is a timer
some : (c : goal.After-take) → 0 < length c.self.inside.timers.items
some c = grind (arith, nat_tests)

-- the timers were the one that is out and the others
parts : (c : goal.After-take) → in_order c.self.inside.timers.items ≡ c.take.result ∷ in_order c.take.new.timers.items
parts c =
    top-out c.self.inside.timers.items c.take.new.timers.items c.take.result c.self.invariant.heap c.self.invariant.own_stamps (some c)
    c.take.ensures.taken c.take.ensures.rest

pub returns-clause-first : goal.returns-clause-first
returns-clause-first c = ap (λ xs. slice_get xs 0) (sym (parts c) ∙ c.self.view_is)

pub returns-clause-left : goal.returns-clause-left
returns-clause-left c = ap (drop 1) (sym (parts c) ∙ c.self.view_is)
