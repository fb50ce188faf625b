use Rattle.std.proofs.Common.{◌≡◌, ◌+◌, ◌<◌, ◌≤◌, ◌∙◌, sym, subst, arith}
use Rattle.std.proofs.lemmas.Bool.Decides.{nat_tests}
use Rattle.relay_sides.specs.Opening.{limits_in}
use Rattle.relay_core.specs.RelayValue.{RelayValue}
use Rattle.relay_core.specs.RelayView.{has_room_for_rates}
use Rattle.relay_core.proofs.RelayLemmas.{rates-fit}
use Rattle.relay_core.proofs.relay.Relay.reserve_link.Goals as goal

pub returns-in_err-reserve_rates-clause-there : goal.returns-in_err-reserve_rates-clause-there
returns-in_err-reserve_rates-clause-there c = λ some.
    let r = c.ctl.inside in
    let is = c.ctl.view_is ∙ c.self.view_is in
    let room = rates-fit (has_room_for_rates r) r.sides.spare_links (subst (λ (z : RelayValue). 0 < z.spare_links) (sym is) some) in
    let limits : limits_in r.settings.in_rate + limits_in r.settings.out_rate ≤ r.spare_limits = grind (arith, nat_tests, room.0) in
    absurd (let wrong = c.in_err-reserve_rates.ensures.there limits (grind (arith, nat_tests, room.0)) in cc wrong)
