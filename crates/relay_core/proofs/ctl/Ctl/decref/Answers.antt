use Rattle.std.proofs.Common.{◌-◌, refl}
use Rattle.relay_model.specs.Plain.{PlainSide}
use Rattle.relay_core.proofs.WatchLemmas.{changed_sound}
use Rattle.relay_core.proofs.ctl.Ctl.decref.Goals as goal

pub invariant_of-self : goal.invariant_of-self
invariant_of-self c =
    changed_sound c.self.inside c.decref.new.self c.args.side
    (λ (x : PlainSide). record x { references = x.references - 1 }) c.self.invariant
    c.decref.ensures.links
    (λ x. record { alike = record { live = refl; timeouts = refl; expired = refl; limit = refl }; read = refl; write = refl })
