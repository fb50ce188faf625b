use Rattle.std.proofs.Common.{ℕ, ◌≤◌, sym, subst}
use Rattle.std.specs.Option.{option_map}
use Rattle.std.specs.Prelude.{Option}
use Rattle.relay_model.specs.Plain.{Standing}
use Rattle.relay_state.specs.Running.{Gauge, held_at}
use Rattle.relay_sides.specs.KeptLimits.{IsAllowed}
use Rattle.relay_sides.specs.Links.{bucket_spent}
use Rattle.relay_pool.proofs.CallLemmas.{lifts_spent, lifts_changed}
use Rattle.relay_pool.specs.Over.{with_change, one_side}
use Rattle.relay_pool.specs.declared.change.Change.TheVariants as change
use Rattle.relay_pool.proofs.BayLemmas.{bays_left, gauge_met, links_bay, links_left, pooled_over, side_met}
use Rattle.relay_pool.proofs.ReadLemmas.{reads_left}
use Rattle.relay_pool.proofs.pool.LinkPool.spend.Goals as goal

pub invariant_of-self-in-None : goal.invariant_of-self-in-None
invariant_of-self-in-None c =
    pooled_over c.args.self.now c.self.inside c.self.view_is c.self.invariant c.args.side c.requires.opened c.in-None.ensures (λ e k.
    with_change (change.Spent c.args.dir c.args.count c.args.time) e k)
    (lifts_changed (change.Spent c.args.dir c.args.count c.args.time)) c.change_left.new.links c.change_left.ensures

pub returns-in-Some-clause-links : goal.returns-in-Some-clause-links
returns-in-Some-clause-links c =
    links_bay c.args.self.now c.self.inside c.self.view_is c.self.invariant c.args.side c.requires.opened c.in-Some.at
    c.in-Some.ensures.1 c.in-Some.ensures.0 (λ e k. bucket_spent c.args.time e c.args.dir c.args.count k) (lifts_spent c.args.time
    c.args.dir c.args.count) c.spend.new.self.links c.spend.ensures.links

pub returns-in-None-clause-links : goal.returns-in-None-clause-links
returns-in-None-clause-links c =
    links_left c.args.self.now c.self.inside c.self.view_is c.self.invariant c.args.side c.requires.opened c.in-None.ensures (λ e k.
    with_change (change.Spent c.args.dir c.args.count c.args.time) e k)
    (lifts_changed (change.Spent c.args.dir c.args.count c.args.time)) c.change_left.new.links c.change_left.ensures

pub spend-requires-clause-later : goal.spend-requires-clause-later
spend-requires-clause-later c =
    subst (λ (g : Gauge). g.time ≤ c.args.time) (sym (gauge_met c.args.self.now c.self.inside c.self.view_is c.self.invariant c.args.side
    c.requires.opened c.in-Some.at c.in-Some.ensures.1 c.in-Some.ensures.0)) c.requires.later

pub spend-requires-clause-within : goal.spend-requires-clause-within
spend-requires-clause-within c =
    let side = side_met c.args.self.now c.self.inside c.self.view_is c.self.invariant c.args.side c.requires.opened c.in-Some.at
    c.in-Some.ensures.1 c.in-Some.ensures.0 in
    let gauge = gauge_met c.args.self.now c.self.inside c.self.view_is c.self.invariant c.args.side c.requires.opened c.in-Some.at
    c.in-Some.ensures.1 c.in-Some.ensures.0 in
    subst (λ (m : Option ℕ). IsAllowed c.args.count m)
    (sym (λ i. option_map (λ (y : Standing). held_at y.cfg (gauge i) c.args.dir c.args.time) (side i).limit)) c.requires.within

pub returns-in-None-clause-reads : goal.returns-in-None-clause-reads
returns-in-None-clause-reads c =
    reads_left c.args.self.now c.self.inside c.self.view_is c.self.invariant c.args.side c.requires.opened c.in-None.ensures
    (with_change (change.Spent c.args.dir c.args.count c.args.time) (one_side c.args.side.side)) c.change_left.new.links.items
    c.change_left.ensures

pub returns-in-None-clause-bays : goal.returns-in-None-clause-bays
returns-in-None-clause-bays c =
    bays_left c.args.self.now c.self.inside c.self.view_is c.self.invariant c.args.side c.requires.opened c.in-None.ensures (λ e k.
    with_change (change.Spent c.args.dir c.args.count c.args.time) e k)
    (lifts_changed (change.Spent c.args.dir c.args.count c.args.time)) c.change_left.new.links c.change_left.ensures
