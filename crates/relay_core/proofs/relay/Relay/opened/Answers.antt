use Rattle.relay_core.specs.Pairs.{HasPairs}
use Rattle.relay_core.specs.declared.relay.Relay.TheInside.{Inside}
use Rattle.relay_core.specs.RelayValue.{RelayValue}
use Rattle.std.proofs.Common.{◌∙◌, ap, subst}
use Rattle.relay_core.proofs.RelayLemmas.{given-none, joins-none}
use Rattle.relay_core.proofs.relay.Relay.opened.Goals as goal

pub returns-clause-pairs : goal.returns-clause-pairs
returns-clause-pairs c =
    let pairs = c.opened.ensures.pairs in
    let r = c.self-inside.inside.0.0 in
    let grouped = c.self-inside.invariant.grouped in
    subst (λ (z : RelayValue). HasPairs z.state) (ap (λ (z : Inside). z.ctl) c.self-inside.view_is ∙ c.self.view_is) (record {
      sides = pairs.sides;
      flows = pairs.flows;
      lanes = pairs.lanes;
      gauges = pairs.gauges;
      groupless = λ e. grouped.none (given-none r.given.groups.items e);
      joins = λ e. joins-none r.given r.untimed r.groups.value grouped (given-none r.given.groups.items e);
    })
