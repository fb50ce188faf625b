-- Names of ends: when two are one, and their numbers.
use Rattle.std.proofs.Common.{◌≡◌, ◌≢◌, ℕ, ◌*◌, ◌<◌, ◌≤◌, Bool, true, false, ◌==◌, refl, sym, ◌∙◌, ap, arith, eqb-true, eq-eqb}
use Rattle.std.proofs.lemmas.Bool.{and_parts, and_from}
use Rattle.ev_types.specs.declared.side.Side.{Side}
use Rattle.ev_types.specs.declared.side.Side.TheVariants.{In, Out}
use Rattle.ev_types.specs.declared.side.SideId.{SideId}
use Rattle.ev_types.specs.Sides.{other, peer, half, number, same_side, same_end}

same_side-eq : (a b : Side) → same_side a b ≡ true → a ≡ b
same_side-eq In In h = refl
same_side-eq Out Out h = refl
same_side-eq In Out h = absurd (cc)
same_side-eq Out In h = absurd (cc)

same_side-refl : (a : Side) → same_side a a ≡ true
same_side-refl In = refl
same_side-refl Out = refl

other-other : (a : Side) → other (other a) ≡ a
other-other In = refl
other-other Out = refl

pub same_end-eq : (a b : SideId) → same_end a b ≡ true → a ≡ b
same_end-eq a b h =
    let p = and_parts (a.link == b.link) (same_side a.side b.side) h in
    let l : a.link ≡ b.link = eqb-true a.link b.link p.0 in
    let k = same_side-eq a.side b.side p.1 in
    λ i. record { link = l i; side = k i }

pub same_end-refl : (a : SideId) → same_end a a ≡ true
same_end-refl a = and_from (a.link == a.link) (same_side a.side a.side) (eq-eqb a.link a.link refl) (same_side-refl a.side)

pub peer-peer : (a : SideId) → peer (peer a) ≡ a
peer-peer a = let k = other-other a.side in λ i. record { link = a.link; side = k i }

half-le : (s : Side) → half s ≤ 1
half-le In = omega arith
half-le Out = omega arith

pub number-lt : (e : SideId) (n : ℕ) → e.link < n → number e < 2 * n
number-lt e n h = omega (arith, half-le e.side)

pub number-ge : (e : SideId) (n : ℕ) → n ≤ e.link → 2 * n ≤ number e
number-ge e n h = omega (arith, half-le e.side)

pub number-eq : (a b : SideId) → number a ≡ number b → a ≡ b
number-eq a b h = go a.side b.side refl refl
  where
    go : (p q : Side) → a.side ≡ p → b.side ≡ q → a ≡ b
    go In In p q = let l : a.link ≡ b.link = omega (arith, h, ap half p, ap half q) in λ i. record { link = l i; side = (p ∙ sym q) i }
    go Out Out p q = let l : a.link ≡ b.link = omega (arith, h, ap half p, ap half q) in λ i. record { link = l i; side = (p ∙ sym q) i }
    go In Out p q = absurd (omega (arith, h, ap half p, ap half q))
    go Out In p q = absurd (omega (arith, h, ap half p, ap half q))

-- ends that differ have different numbers
pub number-apart : (a b : SideId) → same_end a b ≡ false → number a ≢ number b
number-apart a b h = λ p. absurd (let r : same_end a b ≡ same_end b b = ap (λ x. same_end x b) (number-eq a b p) in let q =
    same_end-refl b in cc)

-- one name is that of an opened link and the other isn't
pub same_end-apart : (a b : SideId) (n : ℕ) → a.link < n → n ≤ b.link → same_end a b ≡ false
same_end-apart a b n h k = go (same_end a b) refl
  where
    go : (q : Bool) → same_end a b ≡ q → same_end a b ≡ false
    go false e = e
    go true e = absurd (let l : a.link ≡ b.link = ap (λ x. x.link) (same_end-eq a b e) in omega arith)

pub same_end-flip : (a b : SideId) (q : Bool) → same_end a b ≡ q → same_end b a ≡ q
same_end-flip a b true h = ap (λ z. same_end z a) (sym (same_end-eq a b h)) ∙ same_end-refl a
same_end-flip a b false h = go (same_end b a) refl
  where
    go : (q : Bool) → same_end b a ≡ q → same_end b a ≡ false
    go false e = e
    go true e = absurd (let r : same_end a b ≡ true = ap (λ z. same_end z b) (sym (same_end-eq b a e)) ∙ same_end-refl b in cc)
