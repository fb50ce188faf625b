use Rattle.std.proofs.Common.{◌≡◌, ◌∙◌, Bool, true, false, None, Some, ap, sym, subst, refl}
use Rattle.resting_links.specs.RestingValue.{RestingValue, IsLeastMoment, side_moment}
use Rattle.resting_links.specs.RestingView.{resting_of}
use Rattle.next_moments.specs.Earliest.{moment_for}
use Rattle.resting_links.proofs.RestingLemmas.{numbered}
use Rattle.resting_links.proofs.resting.RestingLinks.first.Goals as goal

pub returns : goal.returns
returns c =
    let r : RestingValue = resting_of c.self.inside in
    let found = c.in_ok-moment.ensures.first in
    let side = numbered c.in_ok-moment.field-0-0 in
    let stands : side_moment r side.of ≡ Some c.in_ok-moment.moment = ap (moment_for r.moments) side.at ∙ found.stands in
    let unwatched : (b : Bool) → r.watched.has side.of.link ≡ b → b ≡ false =
    λ b is. elim b as (λ b. r.watched.has side.of.link ≡ b → b ≡ false) [
      | true ↦ λ is. absurd (let wrong : None ≡ Some c.in_ok-moment.moment = sym (c.self.invariant.none side.of is) ∙ stands in cc)
      | false ↦ λ is. refl
    ] is in
    subst (λ v. IsLeastMoment v c.in_ok-moment.moment) c.self.view_is (record {
      of = side.of;
      unwatched = unwatched (r.watched.has side.of.link) refl;
      stands = stands;
      none_earlier = found.none_earlier;
    })
