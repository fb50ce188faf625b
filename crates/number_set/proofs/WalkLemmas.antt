-- How a walk goes on, from number to number and from word to word.
use Rattle.std.proofs.Common.{◌≡◌, inl, inr, ◌∙◌, sym, ap, ℕ, ◌+◌, ◌-◌, ◌*◌, ◌^◌, ◌<◌, ◌≤◌, Bool, true, false, ◌&&◌, ◌==◌, nat_le}
use Rattle.std.proofs.Common.{if◌then◌else◌, arith}
use Rattle.std.proofs.lemmas.Bool.{cases_lt, cases_eq, and_parts, le-leb, lt-leb, leb-true, eq-eqb, ne_eqb}
use Rattle.number_set.specs.Next.{IsLeast}
use Rattle.number_set.specs.Walks.{IsNextWord}
use Rattle.number_set.specs.WalkView.{IsAt}
use Rattle.number_set.specs.Words.{is_set}
use Rattle.number_set.proofs.NextLemmas.{NoneBetween}

-- what is no more than a number is not left where that number is on its way
and_rest : (a b : Bool) → a ≡ true → (a && b) ≡ false → b ≡ false
and_rest a b holds none = sym (ap (λ x. x && b) holds) ∙ none

module _ (p : ℕ → Bool) (from at rest : ℕ) (here : IsAt p from at rest) where
  -- a number of the word that is not left in it does not pass, from `from` on
  gone : (i k : ℕ) → 64 * at + k ≡ i → k < 64 → from ≤ i → is_set rest k ≡ false → p i ≡ false
  gone i k is within reached none =
      and_rest (nat_le from i) (p i) (le-leb from i reached)
      (sym (ap (λ n. nat_le from n && p n) is) ∙ sym (here.bits k within) ∙ none)

  -- what is left of the word, in it
  none_here : (i place : ℕ) → NoneBetween (is_set rest) 0 place → place ≤ 64 → from ≤ i → i < 64 * at + place → p i ≡ false
  none_here i place none small reached below =
      elim (cases_lt i (64 * at)) [
        | inl before ↦ here.none_before i reached before
        | inr inside ↦ gone i (i - 64 * at) (omega arith) (omega arith) reached (none (i - 64 * at) (omega arith) (omega arith))
      ]

  -- the least that is left is where the walk comes to
  pub walk-least : (place : ℕ) → place < 64 → IsLeast (is_set rest) 0 place → IsLeast p from (64 * at + place)
  walk-least place within least =
      let parts = and_parts _ _ (sym (here.bits place within) ∙ least.passes) in
      record {
        reached = leb-true from (64 * at + place) parts.0;
        passes = parts.1;
        none_before = λ i reached below. none_here i place least.none_before (omega arith) reached below;
      }

  -- behind it the walk goes on
  pub walk-behind : (place left : ℕ) → place < 64 → IsLeast (is_set rest) 0 place
      → ((k : ℕ) → k < 64 → is_set left k ≡ (if k == place then false else is_set rest k)) → IsAt p (64 * at + place + 1) at left
  walk-behind place left within least bits =
      let begun = leb-true from (64 * at + place) (and_parts _ _ (sym (here.bits place within) ∙ least.passes)).0 in
      record {
        small = here.small;
        fits = here.fits;
        reached = omega arith;
        bits = λ k small. bits k small ∙ elim (cases_lt place k) [
          | inl above ↦
              ap (λ b. if b then false else is_set rest k) (ne_eqb k place (λ e. absurd (omega arith))) ∙ here.bits k small
              ∙ ap (λ b. b && p (64 * at + k)) (le-leb from (64 * at + k) (omega arith) ∙ sym (le-leb (64 * at + place + 1) (64 * at + k) (omega arith)))
          | inr below ↦
              elim (cases_eq k place) [
                | inl is ↦ ap (λ b. if b then false else is_set rest k) (eq-eqb k place is)
                | inr other ↦
                    ap (λ b. if b then false else is_set rest k) (ne_eqb k place other) ∙ least.none_before k (omega arith) (omega arith)
              ] ∙ sym (ap (λ b. b && p (64 * at + k)) (lt-leb (64 * at + place + 1) (64 * at + k) (omega arith)))
        ];
        none_before = λ n reached below. absurd (omega arith);
      }

  -- where nothing is left, the next word is come to
  pub walk-word : (next word : ℕ) → NoneBetween (is_set rest) 0 64 → IsNextWord p (at + 1) next word → IsAt p from next word
  walk-word next word none found = record {
    small = found.small;
    fits = here.fits;
    reached = (let r = found.reached in let h = here.reached in omega (arith, r, h));
    bits = λ k within. found.bits k within ∙ sym (ap (λ b. b && p (64 * next + k))
        (le-leb from (64 * next + k) (let r = found.reached in let h = here.reached in omega (arith, r, h))));
    none_before = λ n reached below. elim (cases_lt n (64 * at + 64)) [
      | inl inside ↦ none_here n 64 none (omega arith) reached inside
      | inr past ↦ found.none_before n (omega (arith, past)) below
    ];
  }

  -- where nothing is left and no word comes, the walk is over
  pub walk-over : NoneBetween (is_set rest) 0 64 → ((n : ℕ) → 64 * (at + 1) ≤ n → p n ≡ false) → (i : ℕ) → from ≤ i → p i ≡ false
  walk-over none past i reached = elim (cases_lt i (64 * at + 64)) [
    | inl inside ↦ none_here i 64 none (omega arith) reached inside
    | inr behind ↦ past i (omega (arith, behind))
  ]

-- a walk begins at the first word
pub walk-begin : (p : ℕ → Bool) (word : ℕ) → ((k : ℕ) → k < 64 → is_set word k ≡ p (64 * 0 + k)) → ((n : ℕ) → p n ≡ true → n + 1 < 2 ^ 64)
    → IsAt p 0 0 word
walk-begin p word bits fits = record {
  small = omega arith;
  fits = fits;
  reached = omega arith;
  bits = λ k within. bits k within ∙ sym (ap (λ b. b && p (64 * 0 + k)) (le-leb 0 (64 * 0 + k) (omega arith)));
  none_before = λ n reached below. absurd (omega arith);
}
