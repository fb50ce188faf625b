use Rattle.relay_steps.proofs.GaugeSteps.{gauges_tell_levels}
use Rattle.relay_steps.proofs.bucket_laws.gauges_tell_levels.Goals as goal

pub returns : goal.returns
returns c = gauges_tell_levels
