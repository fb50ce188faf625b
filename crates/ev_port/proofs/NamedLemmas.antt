-- The wants of a table by the numbers of their sides.
use Rattle.std.proofs.Common.{◌≡◌, ◌≢◌, ◌∙◌, ℕ, zero, suc, ◌+◌, ◌-◌, ◌*◌, ◌/◌, ◌%◌, ◌==◌, ◌<◌, ◌≤◌, length, Bool, true, false, cond}
use Rattle.std.proofs.Common.{if◌then◌else◌, List, [], ◌∷◌, ◌++◌, refl, sym, ap, subst, arith, inl, inr, add-one, append-nil, append_assoc}
use Rattle.std.proofs.Common.{length-append}
use Rattle.std.specs.Prelude.{filter}
use Rattle.std.proofs.lemmas.Bool.{cases_eq}
use Rattle.std.proofs.lemmas.Bool.Decides.{eqb_tells}
use Rattle.ev_types.specs.declared.side.Side.{Side}
use Rattle.ev_types.specs.declared.side.Side.TheVariants.{In, Out}
use Rattle.ev_types.specs.declared.side.SideId.{SideId}
use Rattle.ev_types.specs.Sides.{half, number}
use Rattle.ev_port.specs.declared.port.Want.{Want}
use Rattle.ev_port.specs.Table.{WantsValue, side_of, row_by, row, wants_some, rows_before, named_before}

-- The number of a side, and the side of a number

abbrev parity : ℕ → Bool → SideId
parity link even = record { link = link; side = if even then In else Out }

even : (n : ℕ) (b : Bool) → (n % 2 == 0) ≡ b → number (side_of n) ≡ number (parity (n / 2) b)
even n b h = ap (λ q. number (parity (n / 2) q)) h

pub number-side_of : (n : ℕ) → number (side_of n) ≡ n
number-side_of n = elim (eqb_tells (n % 2) 0) [
  | inl h ↦ (let e = even n true h.0 in let z = h.1 in omega (arith, e, z))
  | inr h ↦ (let e = even n false h.0 in let z = h.1 in omega (arith, e, z))
]

sided : (n link : ℕ) (b : Bool) → n / 2 ≡ link → (n % 2 == 0) ≡ b → side_of n ≡ parity link b
sided n link b l h = λ i. parity (l i) (h i)

side_of-half : (link : ℕ) (s : Side) → side_of (2 * link + half s) ≡ record { link = link; side = s }
side_of-half link In = sided (2 * link + 0) link true (omega arith) (elim (eqb_tells ((2 * link + 0) % 2) 0) [
  | inl h ↦ h.0
  | inr h ↦ absurd (h.1 (omega arith))
])
side_of-half link Out = sided (2 * link + 1) link false (omega arith) (elim (eqb_tells ((2 * link + 1) % 2) 0) [
  | inl h ↦ absurd (let z = h.1 in omega (arith, z))
  | inr h ↦ h.0
])

pub side_of-number : (e : SideId) → side_of (number e) ≡ e
side_of-number e = side_of-half e.link e.side

-- One side more

pub one : (x : Want) (b : Bool) → wants_some x ≡ b → filter wants_some (x ∷ []) ≡ cond b (x ∷ []) []
one x b h = ap (λ q. cond q (x ∷ []) []) h

pub named-none : (r w : ℕ → Bool) (n : ℕ) → wants_some (row_by r w n) ≡ false → rows_before r w (n + 1) ≡ rows_before r w n
named-none r w n h =
    ap (rows_before r w) (add-one n)
    ∙ ap (λ ws. rows_before r w n ++ ws) (one (row_by r w n) false h)
    ∙ append-nil (rows_before r w n)

pub named-some : (r w : ℕ → Bool) (n : ℕ) → wants_some (row_by r w n) ≡ true
    → rows_before r w (n + 1) ≡ rows_before r w n ++ row_by r w n ∷ []
named-some r w n h = ap (rows_before r w) (add-one n) ∙ ap (λ ws. rows_before r w n ++ ws) (one (row_by r w n) true h)

-- a list by numbers that stays over some steps
stays_over : (f : ℕ → List Want) (from more : ℕ) → ((k : ℕ) → from ≤ k → k < from + more → f (k + 1) ≡ f k) → f (from + more) ≡ f from
stays_over f from zero h = let e : from + 0 ≡ from = omega arith in ap f e
stays_over f from (suc more) h =
    let e : from + suc more ≡ (from + more) + 1 = omega arith in
    ap f e ∙ h (from + more) (omega arith) (omega arith) ∙ stays_over f from more (λ k l m. h k l (omega (arith, m)))

pub stays_between : (f : ℕ → List Want) (from to : ℕ) → from ≤ to → ((k : ℕ) → from ≤ k → k < to → f (k + 1) ≡ f k) → f to ≡ f from
stays_between f from to l h =
    let e : from + (to - from) ≡ to = omega arith in
    ap f (sym e) ∙ stays_over f from (to - from) (λ k a b. h k a (omega (arith, b, e)))

-- sides that want nothing add nothing
pub named-skip : (r w : ℕ → Bool) (from to : ℕ) → from ≤ to → ((k : ℕ) → from ≤ k → k < to → wants_some (row_by r w k) ≡ false)
    → rows_before r w to ≡ rows_before r w from
named-skip r w from to l h = stays_between (rows_before r w) from to l (λ k a b. named-none r w k (h k a b))

-- the wants of two tables whose first rows are alike
pub named-same : (r w p q : ℕ → Bool) (n : ℕ) → ((k : ℕ) → k < n → row_by p q k ≡ row_by r w k) → rows_before p q n ≡ rows_before r w n
named-same r w p q zero h = refl
named-same r w p q (suc n) h =
    let e = named-same r w p q n (λ k l. h k (omega (arith, l))) in
    let r = h n (omega arith) in
    λ i. e i ++ filter wants_some (r i ∷ [])

-- How many

abbrev pub one_if : Bool → ℕ
one_if b = cond b 1 0

pub length-one : (b : Bool) (x : Want) → length (cond b (x ∷ []) []) ≡ one_if b
length-one true x = refl
length-one false x = refl

pub length-named_more : (r w : ℕ → Bool) (n : ℕ)
    → length (rows_before r w (suc n)) ≡ length (rows_before r w n) + one_if (wants_some (row_by r w n))
length-named_more r w n =
    length-append (rows_before r w n) _
    ∙ ap (λ k. length (rows_before r w n) + k) (length-one (wants_some (row_by r w n)) (row_by r w n))

pub length-named_le : (r w : ℕ → Bool) (n more : ℕ) → length (rows_before r w n) ≤ length (rows_before r w (n + more))
length-named_le r w n zero =
    let e : n + 0 ≡ n = omega arith in
    subst (λ k. length (rows_before r w n) ≤ length (rows_before r w k)) (sym e) (omega arith)
length-named_le r w n (suc more) =
    let e : n + suc more ≡ suc (n + more) = omega arith in
    let s = length-named_le r w n more in
    let m = length-named_more r w (n + more) in
    subst (λ k. length (rows_before r w n) ≤ length (rows_before r w k)) (sym e) (omega (arith, s, m))

pub one_if-le : (b : Bool) → one_if b ≤ 1
one_if-le true = omega arith
one_if-le false = omega arith

pub length-named_below : (r w : ℕ → Bool) (n : ℕ) → length (rows_before r w n) ≤ n
length-named_below r w zero = omega arith
length-named_below r w (suc n) =
    let s = length-named_below r w n in
    let m = length-named_more r w n in
    let o = one_if-le (wants_some (row_by r w n)) in
    omega (arith, s, m, o)

-- where one row differs, the numbers differ by that row
pub length-named_changed : (r w p q : ℕ → Bool) (at n : ℕ) → at < n → ((k : ℕ) → k ≢ at → row_by p q k ≡ row_by r w k)
    → length (rows_before p q n) + one_if (wants_some (row_by r w at)) ≡ length (rows_before r w n) + one_if (wants_some (row_by p q at))
length-named_changed r w p q at zero l h = absurd (omega (arith, l))
length-named_changed r w p q at (suc n) l h = elim (cases_eq at n) [
  | inl e ↦ (
      let s = ap length (named-same r w p q n (λ k m. h k (λ z. absurd (omega (arith, m, z, e))))) in
      let a = length-named_more r w n in
      let b = length-named_more p q n in
      let x = ap (λ k. one_if (wants_some (row_by r w k))) e in
      let y = ap (λ k. one_if (wants_some (row_by p q k))) e in
      omega (arith, s, a, b, x, y))
  | inr e ↦ (
      let s = length-named_changed r w p q at n (omega (arith, l, e)) h in
      let a = length-named_more r w n in
      let b = length-named_more p q n in
      let x = ap (λ x. one_if (wants_some x)) (h n (λ z. e (sym z))) in
      omega (arith, s, a, b, x))
]

-- One link more

row-side : (r w : ℕ → Bool) (n : ℕ) (e : SideId) → side_of n ≡ e
    → row_by r w n ≡ record { side = e; read = r n; write = w n; can_read = false; can_write = false }
row-side r w n e h = λ i. record { side = h i; read = r n; write = w n; can_read = false; can_write = false }

pub named-link : (t : WantsValue) (k : ℕ) → named_before t (2 * (k + 1)) ≡ named_before t (2 * k) ++ (
    filter wants_some (record {
      side = record { link = k; side = In };
      read = t.reads (2 * k);
      write = t.writes (2 * k);
      can_read = false;
      can_write = false;
    } ∷ [])
    ++ filter wants_some (record {
      side = record { link = k; side = Out };
      read = t.reads (2 * k + 1);
      write = t.writes (2 * k + 1);
      can_read = false;
      can_write = false;
    } ∷ []))
named-link t k =
    let e : 2 * (k + 1) ≡ suc (suc (2 * k)) = omega arith in
    let z : 2 * k ≡ 2 * k + 0 = omega arith in
    let o : suc (2 * k) ≡ 2 * k + 1 = omega arith in
    let a = row-side t.reads t.writes (2 * k) (record { link = k; side = In }) (ap side_of z ∙ side_of-half k In) in
    let b = ap (row t) o ∙ row-side t.reads t.writes (2 * k + 1) (record { link = k; side = Out }) (side_of-half k Out) in
    ap (named_before t) e
    ∙ (λ i. (named_before t (2 * k) ++ filter wants_some (a i ∷ [])) ++ filter wants_some (b i ∷ []))
    ∙ append_assoc (named_before t (2 * k)) _ _
