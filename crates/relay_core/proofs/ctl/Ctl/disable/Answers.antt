use Rattle.std.proofs.Common.{false}
use Rattle.relay_model.specs.Asks.{enabled}
use Rattle.relay_core.proofs.WatchLemmas.{changed_sound, much_enabled}
use Rattle.relay_core.proofs.ctl.Ctl.disable.Goals as goal

pub invariant_of-self : goal.invariant_of-self
invariant_of-self c =
    changed_sound c.self.inside c.disable.new.self c.args.side (enabled c.args.dir false) c.self.invariant c.disable.ensures.links
    (much_enabled c.args.dir false)
