use Rattle.std.proofs.Common.{true}
use Rattle.relay_model.specs.Asks.{enabled}
use Rattle.relay_core.proofs.WatchLemmas.{changed_sound, much_enabled}
use Rattle.relay_core.proofs.ctl.Ctl.enable.Goals as goal

pub invariant_of-self : goal.invariant_of-self
invariant_of-self c =
    changed_sound c.self.inside c.enable.new.self c.args.side (enabled c.args.dir true) c.self.invariant c.enable.ensures.links
    (much_enabled c.args.dir true)
