use Rattle.std.proofs.Common.{◌≡◌, ℕ, ◌+◌, ◌*◌, ◌≤◌, false, arith, subst}
use Rattle.number_set.specs.Next.{IsLeast}
use Rattle.number_set.specs.Walks.{WalkValue, walked}
use Rattle.number_set.specs.WalkView.{walk_of}
use Rattle.number_set.proofs.WalkLemmas.{walk-behind, walk-least}
use Rattle.number_set.proofs.walk.Walk.next.Goals as goal

pub returns-in_err-at-clause-next : goal.returns-in_err-at-clause-next
returns-in_err-at-clause-next c =
    rw c.from_residual.ensures
    (subst (λ (v : WalkValue). (n : ℕ) → v.from ≤ n → walked v n ≡ false) c.self.view_is
    (c.in_err-at.ensures c.self.inside.from c.self.invariant))

pub without_lowest-place-requires : goal.without_lowest-place-requires
without_lowest-place-requires c = (c.in_ok-at.ensures c.self.inside.from c.self.invariant).1

pub overflow_mul-number : goal.overflow_mul-number
overflow_mul-number c =
    let small = (c.in_ok-at.ensures c.self.inside.from c.self.invariant).0.small in
    omega (arith, small)

pub overflow_add-number : goal.overflow_add-number
overflow_add-number c =
    let small = (c.in_ok-at.ensures c.self.inside.from c.self.invariant).0.small in
    let within = c.without_lowest-place.ensures.within in
    omega (arith, small, within)

pub overflow_add-self : goal.overflow_add-self
overflow_add-self c =
    let here = (c.in_ok-at.ensures c.self.inside.from c.self.invariant).0 in
    let place = c.without_lowest-place.result.0 in
    let least = walk-least (walked (walk_of c.self.inside)) c.self.inside.from c.in_ok-at.at c.in_ok-at.word here place
    c.without_lowest-place.ensures.within c.without_lowest-place.ensures.least in
    let fits = here.fits (64 * c.in_ok-at.at + place) least.passes in
    omega (arith, fits)

pub invariant_of-self : goal.invariant_of-self
invariant_of-self c =
    let here = (c.in_ok-at.ensures c.self.inside.from c.self.invariant).0 in
    walk-behind (walked (walk_of c.self.inside)) c.self.inside.from c.in_ok-at.at c.in_ok-at.word here c.without_lowest-place.result.0
    c.without_lowest-place.result.1 c.without_lowest-place.ensures.within c.without_lowest-place.ensures.least
    c.without_lowest-place.ensures.rest

pub returns-clause-next : goal.returns-clause-next
returns-clause-next c =
    let here = (c.in_ok-at.ensures c.self.inside.from c.self.invariant).0 in
    let n = 64 * c.in_ok-at.at + c.without_lowest-place.result.0 in
    subst (λ (v : WalkValue). IsLeast (walked v) v.from n) c.self.view_is
    (walk-least (walked (walk_of c.self.inside)) c.self.inside.from c.in_ok-at.at c.in_ok-at.word here c.without_lowest-place.result.0
    c.without_lowest-place.ensures.within c.without_lowest-place.ensures.least)

pub returns-clause-small : goal.returns-clause-small
returns-clause-small c =
    let here = (c.in_ok-at.ensures c.self.inside.from c.self.invariant).0 in
    let least = walk-least (walked (walk_of c.self.inside)) c.self.inside.from c.in_ok-at.at c.in_ok-at.word here
    c.without_lowest-place.result.0 c.without_lowest-place.ensures.within c.without_lowest-place.ensures.least in
    here.fits _ least.passes
