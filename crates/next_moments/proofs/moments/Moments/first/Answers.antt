use Rattle.std.proofs.Common.{◌∙◌, ap, subst}
use Rattle.next_moments.specs.Earliest.{ComesFirst}
use Rattle.next_moments.specs.Tree.{first_at}
use Rattle.next_moments.proofs.TreeLemmas.{first_is, first_within}
use Rattle.next_moments.proofs.moments.Moments.first.Goals as goal

pub returns-clause-first : goal.returns-clause-first
returns-clause-first c =
    subst (λ ms. ComesFirst ms c.first_at.result) c.self.view_is
    (first_is c.self.inside.moments.items c.self.inside.firsts.items c.self.invariant c.first_at.result
    (c.first_at.ensures ∙ ap (λ fs. first_at fs 0) c.deref.ensures.value))

pub returns-clause-within : goal.returns-clause-within
returns-clause-within c = first_within c.args.self.now c.first_at.result (returns-clause-first c)
