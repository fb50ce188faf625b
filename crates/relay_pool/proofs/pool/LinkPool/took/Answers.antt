use Rattle.std.proofs.Common.{◌≤◌, length, sym, ◌∙◌, ap, subst, arith}
use Rattle.relay_state.specs.State.{Lane}
use Rattle.relay_sides.specs.Links.{after_took}
use Rattle.relay_pool.proofs.CallLemmas.{lifts_took, lifts_changed}
use Rattle.relay_pool.specs.Over.{with_change}
use Rattle.relay_pool.specs.declared.change.Change.TheVariants as change
use Rattle.relay_pool.proofs.BayLemmas.{bays_left, links_bay, links_left, peer_lane_met, pooled_over, taken_over}
use Rattle.relay_pool.proofs.pool.LinkPool.took.Goals as goal

pub invariant_of-self-in-None : goal.invariant_of-self-in-None
invariant_of-self-in-None c =
    pooled_over c.args.self.now c.self.inside c.self.view_is c.self.invariant c.args.side c.requires.opened c.in-None.ensures (λ e k.
    with_change (change.TookNone c.args.time) e k)
    (lifts_changed (change.TookNone c.args.time)) c.change_left.new.links c.change_left.ensures

pub returns-in-Some-clause-links : goal.returns-in-Some-clause-links
returns-in-Some-clause-links c =
    links_bay c.args.self.now c.self.inside c.self.view_is c.self.invariant c.args.side c.requires.opened c.in-Some.at
    c.in-Some.ensures.1 c.in-Some.ensures.0 (λ e k. after_took c.args.time e c.args.count k) (lifts_took c.args.time c.args.count)
    c.took.new.self.links c.took.ensures

pub returns-in-None-clause-links : goal.returns-in-None-clause-links
returns-in-None-clause-links c =
    links_left c.args.self.now c.self.inside c.self.view_is c.self.invariant c.args.side c.requires.opened c.in-None.ensures (λ e k.
    with_change (change.TookNone c.args.time) e k)
    (lifts_changed (change.TookNone c.args.time)) c.change_left.new.links c.change_left.ensures
    ∙ ap (λ n. after_took c.args.time c.args.side n c.args.self.now.links)
    (let none = taken_over c.args.self.now c.self.inside c.self.view_is c.self.invariant c.args.side c.requires.opened c.in-None.ensures in
    let within = c.requires.within in omega (arith, none, within))

pub took-requires-clause-within : goal.took-requires-clause-within
took-requires-clause-within c =
    subst (λ (l : Lane). c.args.count ≤ length l.buffers.raw_output) (sym (peer_lane_met c.args.self.now c.self.inside c.self.view_is
    c.self.invariant c.args.side c.requires.opened c.in-Some.at c.in-Some.ensures.1 c.in-Some.ensures.0)) c.requires.within

pub returns-in-None-clause-bays : goal.returns-in-None-clause-bays
returns-in-None-clause-bays c =
    bays_left c.args.self.now c.self.inside c.self.view_is c.self.invariant c.args.side c.requires.opened c.in-None.ensures (λ e k.
    with_change (change.TookNone c.args.time) e k)
    (lifts_changed (change.TookNone c.args.time)) c.change_left.new.links c.change_left.ensures
