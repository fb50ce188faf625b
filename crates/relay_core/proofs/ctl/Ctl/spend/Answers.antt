use Rattle.std.proofs.Common.{◌≡◌, ◌&&◌, slice_set, refl, ap, sym, ◌∙◌, subst}
use Rattle.std.specs.Prelude.{None, is_some}
use Rattle.std.proofs.lemmas.List.{set-get_or}
use Rattle.rate_group.specs.GroupValue.{GroupsValue}
use Rattle.rate_group.specs.GroupsCalls.{no_groups}
use Rattle.rate_group.specs.Steps.{spent}
use Rattle.ev_types.specs.Sides.{number}
use Rattle.relay_sides.specs.Links as links
use Rattle.relay_sides.specs.Links.{Links}
use Rattle.relay_model.specs.Plain.{side_at}
use Rattle.relay_state.specs.Rooms.{allowance}
use Rattle.relay_state.specs.Running.{gauge_after, no_gauge}
use Rattle.relay_state.specs.State.{State, gauges_after}
use Rattle.relay_core.specs.RelayView.{state_with}
use Rattle.relay_core.specs.RelayValue.{RelayValue}
use Rattle.relay_core.specs.Timeless.{IsGrouping}
use Rattle.relay_core.proofs.RelayLemmas.{gauge_sound, gauge_after-time, later_at, sound_at, spent_sound}
use Rattle.relay_core.proofs.WatchLemmas.{watching-spent, grouping-at}
use Rattle.relay_core.proofs.ctl.Ctl.spend.Goals as goal

pub invariant_of-self : goal.invariant_of-self
invariant_of-self c =
    let r = c.self.inside in
    let h = c.self.invariant in
    let k = r.sides.links in
    let e = c.args.side in
    let x = gauge_after (links.side_at k e).limit r.time c.args.dir c.args.count (links.gauge_at k e) in
    let told : c.is_limited-limited.result ≡ ((links.side_at k e).live && is_some (links.allowance_at r.time k e c.args.dir)) =
    subst (λ (z : RelayValue). c.is_limited-limited.result ≡ ((side_at z.state.plain e).live && is_some (allowance z.state e c.args.dir)))
    (sym c.self.view_is) c.is_limited-limited.ensures in
    record {
      timed = gauge_sound r.settings r.time r.untimed k c.spend.new.self.links e x h.timed
          (gauge_after-time (links.side_at k e).limit r.time c.args.dir c.args.count (links.gauge_at k e)
          (later_at r.time k.gauges h.timed.gauges (number e)))
          (ap (λ (z : Links). z.sides) c.spend.ensures.links) (ap (λ (z : Links). z.gauges) c.spend.ensures.links);
      grouped = spent_sound r.given r.untimed r.groups.value c.spend_share.new.groups.value c.number.result c.args.dir
          c.args.count h.grouped c.spend_share.ensures;
      watching = watching-spent r.resting r.time k h.watching c.watch_where.new.resting c.spend.new.self.links e c.args.dir c.args.count
          c.is_limited-limited.result c.watch_where.ensures.more c.watch_where.ensures.there told c.spend.ensures.links;
      grouping = subst (λ (z : GroupsValue). IsGrouping r.grouped c.spend.new.self.links.opened z.members) (sym c.spend_share.ensures)
          (grouping-at r.grouped k.opened c.spend.new.self.links.opened r.groups.value.members
          (ap (λ (z : Links). z.opened) c.spend.ensures.links) h.grouping);
      time = h.time;
      few = h.few;
      room = h.room;
      limits = h.limits;
    }

-- where nothing is timed no side has a limit and none is in a group, so that nothing is lost
pub returns-then-self-clause-state : goal.returns-then-self-clause-state
returns-then-self-clause-state c =
    let r = c.self.inside in
    let h = c.self.invariant in
    let k = r.sides.links in
    let e = c.args.side in
    let d = c.args.dir in
    let n = c.args.count in
    let s : State = state_with r k in
    let unlimited : (links.side_at k e).limit ≡ None =
    ((sound_at r.time r.untimed k.sides h.timed.sides (number e)).2 c.if-self.true).2 in
    let gauges : k.gauges ≡ slice_set k.gauges (number e) (gauge_after (links.side_at k e).limit r.time d n (links.gauge_at k e)) =
    sym (ap (λ l. slice_set k.gauges (number e) (gauge_after l r.time d n (links.gauge_at k e))) unlimited
    ∙ set-get_or k.gauges (number e) no_gauge) in
    let nobody : r.groups.value ≡ no_groups = h.grouped.none (h.grouped.untimed c.if-self.true) in
    let groups : r.groups.value ≡ spent (number e) d n r.groups.value =
    subst (λ (g : GroupsValue). g ≡ spent (number e) d n g) (sym nobody) refl in
    subst (λ (z : RelayValue). z.state
    ≡ (let s = z.state in record s { gauges = gauges_after e d n s; groups = spent (number e) d n s.groups })) c.self.view_is
    (λ i. record s { gauges = gauges i; groups = groups i })
