use Rattle.std.proofs.Common.{true, false, refl}
use Rattle.relay_model.specs.Plain.{PlainSide}
use Rattle.relay_core.proofs.WatchLemmas.{changed_sound}
use Rattle.relay_core.proofs.relay.Relay.connect_answered.Goals as goal

pub invariant_of-self-inside : goal.invariant_of-self-inside
invariant_of-self-inside c =
    changed_sound c.self-inside.inside.0.0 c.connected.new.self c.args.side (λ (x : PlainSide). record x { connecting = false })
    c.self-inside.invariant c.connected.ensures.links
    (λ x. record { alike = record { live = refl; timeouts = refl; expired = refl; limit = refl }; read = refl; write = refl })

pub invariant_of-self-inside-in-Failed : goal.invariant_of-self-inside-in-Failed
invariant_of-self-inside-in-Failed c =
    changed_sound c.self-inside-in-Failed.inside.0.0 c.write_failed.new.self c.args.side
    (λ (x : PlainSide). record x { failed = true; writes = false })
    c.self-inside-in-Failed.invariant c.write_failed.ensures.links
    (λ x. record { alike = record { live = refl; timeouts = refl; expired = refl; limit = refl }; read = refl; write = refl })
