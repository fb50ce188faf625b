use Rattle.std.proofs.Common.{ℕ, ◌-◌, ◌<◌, refl, sym, ap, subst, ◌∙◌}
use Rattle.relay_model.specs.Plain.{PlainSide}
use Rattle.bev_core.specs.BevValue.{BevValue}
use Rattle.bev_world.specs.WorldValue.{bev_at}
use Rattle.relay_sides.proofs.FlagLemmas.{bev_links, bev_sound}
use Rattle.relay_sides.proofs.SidesLemmas.{side_seen}
use Rattle.relay_sides.proofs.sides.Sides.decref.Goals as goal

abbrev counted : BevValue → BevValue
counted x = record x { refs = x.refs - 1 }

abbrev asked : PlainSide → PlainSide
asked x = record x { references = x.references - 1 }

pub decref_at-requires-clause-some : goal.decref_at-requires-clause-some
decref_at-requires-clause-some c =
    let r = c.self.inside in
    let seen = side_seen c.args.self.now r c.self.view_is c.args.side c.requires.opened in
    subst (λ (n : ℕ). 0 < n)
    (ap (λ (x : PlainSide). x.references) seen ∙ ap (λ i. (bev_at r.world i).refs) (sym c.lower.ensures)) c.requires.some

pub invariant_of-self : goal.invariant_of-self
invariant_of-self c =
    bev_sound c.args.self.now c.self.inside c.self.view_is c.self.invariant c.args.side c.requires.opened c.lower.result c.lower.ensures
    (counted) c.decref_at.new.self c.decref_at.ensures
    (λ x. refl) (λ x. refl)

pub returns : goal.returns
returns c =
    bev_links c.args.self.now c.self.inside c.self.view_is c.self.invariant c.args.side c.requires.opened c.lower.result c.lower.ensures
    (counted) c.decref_at.new.self c.decref_at.ensures
    (λ x. refl) (λ x. refl)
    (asked) (λ x s. refl)
