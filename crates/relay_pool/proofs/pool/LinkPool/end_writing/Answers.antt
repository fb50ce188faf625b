use Rattle.std.proofs.Common.{true}
use Rattle.relay_sides.specs.Links.{change_side}
use Rattle.relay_pool.proofs.CallLemmas.{lifts_change, lifts_changed}
use Rattle.relay_pool.specs.Over.{with_change}
use Rattle.relay_pool.specs.declared.change.Change.TheVariants as change
use Rattle.relay_pool.proofs.BayLemmas.{bays_left, links_bay, links_left, pooled_over}
use Rattle.relay_pool.proofs.pool.LinkPool.end_writing.Goals as goal

pub invariant_of-self-in-None : goal.invariant_of-self-in-None
invariant_of-self-in-None c =
    pooled_over c.args.self.now c.self.inside c.self.view_is c.self.invariant c.args.side c.requires c.in-None.ensures (λ e k.
    with_change (change.WriteEnded) e k)
    (lifts_changed (change.WriteEnded)) c.change_left.new.links c.change_left.ensures

pub returns-in-Some-clause-links : goal.returns-in-Some-clause-links
returns-in-Some-clause-links c =
    links_bay c.args.self.now c.self.inside c.self.view_is c.self.invariant c.args.side c.requires c.in-Some.at c.in-Some.ensures.1
    c.in-Some.ensures.0
    (λ e k. change_side e (λ x. record x { write_ended = true }) k) (lifts_change (λ x. record x { write_ended = true }))
    c.end_writing.new.self.links c.end_writing.ensures

pub returns-in-None-clause-links : goal.returns-in-None-clause-links
returns-in-None-clause-links c =
    links_left c.args.self.now c.self.inside c.self.view_is c.self.invariant c.args.side c.requires c.in-None.ensures (λ e k.
    with_change (change.WriteEnded) e k) (lifts_changed (change.WriteEnded))
    c.change_left.new.links c.change_left.ensures

pub returns-in-None-clause-bays : goal.returns-in-None-clause-bays
returns-in-None-clause-bays c =
    bays_left c.args.self.now c.self.inside c.self.view_is c.self.invariant c.args.side c.requires c.in-None.ensures (λ e k.
    with_change (change.WriteEnded) e k) (lifts_changed (change.WriteEnded))
    c.change_left.new.links c.change_left.ensures
