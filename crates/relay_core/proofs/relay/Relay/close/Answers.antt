use Rattle.std.proofs.Common.{◌∙◌, true, refl}
use Rattle.relay_model.specs.Plain.{PlainSide}
use Rattle.relay_core.proofs.WatchLemmas.{changed_sound}
use Rattle.relay_core.proofs.relay.Relay.close.Goals as goal

pub invariant_of-self-inside : goal.invariant_of-self-inside
invariant_of-self-inside c =
    changed_sound c.self-inside.inside.0.0 c.end_writing.new.self c.in-EndWriting.side (λ (x : PlainSide). record x { write_ended = true })
    c.self-inside.invariant c.end_writing.ensures.links
    (λ x. record { alike = record { live = refl; timeouts = refl; expired = refl; limit = refl }; read = refl; write = refl })

pub invariant_of-self-inside-in-Shut-1 : goal.invariant_of-self-inside-in-Shut-1
invariant_of-self-inside-in-Shut-1 c =
    changed_sound c.self-inside-in-Shut.inside.0.0 c.leave.new.self c.in-Shut.side (λ (x : PlainSide). record x { closed = true })
    c.self-inside-in-Shut.invariant (c.leave.ensures.links ∙ c.shut.ensures.links)
    (λ x. record { alike = record { live = refl; timeouts = refl; expired = refl; limit = refl }; read = refl; write = refl })
