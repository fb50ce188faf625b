use Rattle.std.proofs.Common.{ℕ, refl}
use Rattle.relay_model.specs.Plain.{PlainSide}
use Rattle.bev_core.specs.Steps.{with_timeouts}
use Rattle.relay_sides.proofs.FlagLemmas.{bev_links, bev_sound}
use Rattle.relay_sides.proofs.sides.Sides.set_timeouts.Goals as goal

abbrev asked : ℕ → ℕ → ℕ → PlainSide → PlainSide
asked read_ms write_ms time x =
    record x { timeouts = record { read_ms = read_ms; write_ms = write_ms }; last_read = time; last_write = time }

pub invariant_of-self : goal.invariant_of-self
invariant_of-self c =
    bev_sound c.args.self.now c.self.inside c.self.view_is c.self.invariant c.args.side c.requires c.lower.result c.lower.ensures
    (λ x. with_timeouts x c.args.read_ms c.args.write_ms c.args.time) c.set_timeouts_at.new.self c.set_timeouts_at.ensures
    (λ x. refl) (λ x. refl)

pub returns : goal.returns
returns c =
    bev_links c.args.self.now c.self.inside c.self.view_is c.self.invariant c.args.side c.requires c.lower.result c.lower.ensures
    (λ x. with_timeouts x c.args.read_ms c.args.write_ms c.args.time) c.set_timeouts_at.new.self c.set_timeouts_at.ensures
    (λ x. refl) (λ x. refl)
    (asked c.args.read_ms c.args.write_ms c.args.time) (λ x s. refl)
