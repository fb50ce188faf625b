-- When two names name one end.
use Rattle.std.proofs.Common.{◌≡◌, ◌≢◌, true, false, sym, subst}
use Rattle.ev_types.specs.declared.side.SideId.{SideId}
use Rattle.ev_types.specs.Sides.{same_end}
use Rattle.relay_model.proofs.EndLemmas.{same_end-eq, same_end-refl}

pub same_end-true : (a b : SideId) → same_end a b ≡ true → b ≡ a
same_end-true a b h = sym (same_end-eq a b h)

pub same_end-false : (a b : SideId) → same_end a b ≡ false → b ≢ a
same_end-false a b h = λ e. absurd (
    let p : same_end a a ≡ false = subst (λ x. same_end a x ≡ false) e h in
    let q = same_end-refl a in cc)
