-- The settings of a run of which nothing was said are the model's.
use Rattle.std.proofs.Common.{◌≡◌, refl}
use Rattle.relay_model.specs.Settings as model
use Rattle.ev_types.specs.Usual.{usual}
use Rattle.relay_model.specs.Settings.{model_settings}

pub usual_settings : model_settings usual ≡ model.usual
usual_settings = refl
