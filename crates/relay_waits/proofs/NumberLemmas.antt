-- A side and its number name each other.
use Rattle.std.proofs.Common.{◌≡◌, ℕ, ◌+◌, ◌*◌, ◌/◌, ◌==◌, Bool, true, false, ◌&&◌, cond, ⊎_elim, refl, sym, ◌∙◌, arith}
use Rattle.std.specs.Prelude.{nat_eq}
use Rattle.std.proofs.lemmas.Bool.{cases_eq, eq-eqb, ne_eqb, eqb-true}
use Rattle.ev_types.specs.declared.side.Side.{Side}
use Rattle.ev_types.specs.declared.side.Side.TheVariants.{In, Out}
use Rattle.ev_types.specs.declared.side.SideId.{SideId}
use Rattle.ev_types.specs.Sides.{half, number, same_side, same_end}
use Rattle.relay_model.proofs.EndLemmas.{same_end-refl}
use Rattle.relay_waits.specs.Numbered.{side_numbered}

-- two tests that hold together are one
same-tests : (x y a b : ℕ) → (x ≡ y → a ≡ b) → (a ≡ b → x ≡ y) → (x == y) ≡ (a == b)
same-tests x y a b there back = ⊎_elim
    (λ q. eq-eqb x y q ∙ sym (eq-eqb a b (there q)))
    (λ n. ne_eqb x y n ∙ sym (ne_eqb a b (λ k. n (back k))))
    (cases_eq x y)

and-true : (b : Bool) → (b && true) ≡ b
and-true true = refl
and-true false = refl

pub and-false : (b : Bool) → (b && false) ≡ false
and-false true = refl
and-false false = refl

-- the number of a link and a half is this one exactly where both are those of its side
named : (l n : ℕ) (s : Side) (even : Bool) → (2 * (n / 2) == n) ≡ even →
    (n / 2 == l && same_side (cond even In Out) s) ≡ (2 * l + half s == n)
named l n In true h =
    let is = eqb-true (2 * (n / 2)) n h in
    and-true (n / 2 == l) ∙ same-tests (n / 2) l (2 * l + 0) n (λ q. omega (arith, is, q)) (λ q. omega (arith, is, q))
named l n Out true h =
    let is = eqb-true (2 * (n / 2)) n h in
    and-false (n / 2 == l) ∙ sym (ne_eqb (2 * l + 1) n (λ q. omega (arith, is, q)))
named l n In false h =
    and-false (n / 2 == l) ∙ sym (ne_eqb (2 * l + 0) n (λ q. odd (let half : n / 2 ≡ l = omega (arith, q) in omega (arith, half, q))))
  where
    odd : 2 * (n / 2) ≡ n → ⊥
    odd q = (let yes = eq-eqb (2 * (n / 2)) n q in cc)
named l n Out false h =
    and-true (n / 2 == l) ∙ same-tests (n / 2) l (2 * l + 1) n
    (λ q. ⊎_elim (λ k. absurd (odd k)) (λ k. omega (arith, q, k)) (cases_eq (2 * (n / 2)) n)) (λ q. omega (arith, q))
  where
    odd : 2 * (n / 2) ≡ n → ⊥
    odd q = (let yes = eq-eqb (2 * (n / 2)) n q in cc)

-- a side has this number exactly where it is the side of the number
pub same-number : (e : SideId) (n : ℕ) → same_end (side_numbered n) e ≡ nat_eq (number e) n
same-number e n = named e.link n e.side (2 * (n / 2) == n) refl

halves : (s : Side) (l : ℕ) (even : Bool) → (2 * ((2 * l + half s) / 2) == 2 * l + half s) ≡ even → cond even In Out ≡ s
halves In l true h = refl
halves In l false h = (let yes = eq-eqb (2 * ((2 * l + 0) / 2)) (2 * l + 0) (omega arith) in cc)
halves Out l true h = (let bad = eqb-true (2 * ((2 * l + 1) / 2)) (2 * l + 1) h in absurd (omega (arith, bad)))
halves Out l false h = refl

abbrev named_side : ℕ → Side → SideId
named_side l s = record { link = l; side = s }

-- the side of a side's number is that side
pub side-of_number : (e : SideId) → side_numbered (number e) ≡ e
side-of_number e =
    let link : number e / 2 ≡ e.link = links e.side e.link in
    let half = halves e.side e.link (2 * (number e / 2) == number e) refl in
    (λ i. named_side (link i) (half i))
  where
    links : (s : Side) (l : ℕ) → (2 * l + half s) / 2 ≡ l
    links In l = omega arith
    links Out l = omega arith

-- the number of a number's side is that number
pub number-of_side : (n : ℕ) → number (side_numbered n) ≡ n
number-of_side n =
    let e : SideId = side_numbered n in
    eqb-true (number e) n (sym (same-number e n) ∙ same_end-refl e)
