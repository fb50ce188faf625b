use Rattle.std.proofs.Common.{◌∙◌, ap}
use Rattle.relay_core.specs.declared.relay.Relay.TheInside.{Inside}
use Rattle.relay_core.proofs.RelayLemmas.{passed_sound, state_passes, state_still}
use Rattle.relay_core.proofs.WatchLemmas.{watching-passed, grouping-passed}
use Rattle.relay_core.proofs.relay.Relay.pass_link.Goals as goal

pub invariant_of-self-inside : goal.invariant_of-self-inside
invariant_of-self-inside c =
    let h = c.self-inside.invariant in
    record {
      timed = passed_sound _ _ _ _ _ _ c.args.link _ c.pass_link.result h.timed c.pass_link.ensures.passed;
      grouped = h.grouped;
      grouping = grouping-passed _ _ _ _ _ c.args.link _ c.pass_link.result h.grouping c.pass_link.ensures.passed;
      watching = watching-passed _ _ _ _ _ c.args.link _ c.pass_link.result h.watching c.pass_link.ensures.passed;
      time = h.time;
      few = h.few;
      room = h.room;
      limits = h.limits;
    }

pub returns-clause-passed : goal.returns-clause-passed
returns-clause-passed c =
    state_passes c.args.self.now c.self-inside.inside.0.0 (ap (λ (z : Inside). z.ctl) c.self-inside.view_is ∙ c.self.view_is)
    c.pass_link.new.self.links c.args.link _ c.pass_link.result c.pass_link.ensures.passed

pub returns-clause-still : goal.returns-clause-still
returns-clause-still c = λ h.
    state_still c.args.self.now c.self-inside.inside.0.0 (ap (λ (z : Inside). z.ctl) c.self-inside.view_is ∙ c.self.view_is)
    c.args.link (c.pass_link.ensures.still h)
