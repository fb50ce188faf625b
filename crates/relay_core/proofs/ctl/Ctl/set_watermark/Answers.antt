use Rattle.relay_model.specs.Asks.{marked}
use Rattle.relay_model.specs.Plain.{PlainSide}
use Rattle.relay_core.proofs.WatchLemmas.{changed_sound}
use Rattle.std.proofs.Common.{refl}
use Rattle.relay_core.proofs.ctl.Ctl.set_watermark.Goals as goal

pub invariant_of-self : goal.invariant_of-self
invariant_of-self c =
    changed_sound c.self.inside c.set_watermark.new.self c.args.side
    (λ (x : PlainSide). record x { marks = marked c.args.dir c.args.low c.args.high x.marks }) c.self.invariant
    c.set_watermark.ensures.links
    (λ x. record { alike = record { live = refl; timeouts = refl; expired = refl; limit = refl }; read = refl; write = refl })
