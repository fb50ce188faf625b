-- The places of the words that aren't 0: what they are once words or places were changed, and what they say of the numbers.
use Rattle.std.proofs.Common.{◌≡◌, ◌≢◌, inl, inr, ◌∙◌, sym, ap, subst, ℕ, ◌+◌, ◌*◌, ◌/◌, ◌%◌, ◌<◌, ◌≤◌, Bool, true, false, ◌&&◌, ◌==◌}
use Rattle.std.proofs.Common.{nat_lt, List, [], ◌∷◌, ◌++◌, length, length-append, get_or, if◌then◌else◌, arith}
use Rattle.std.proofs.lemmas.Bool.{cases_Bool, cases_lt, cases_eq, eq-eqb, ne_eqb, lt-ltb, le-ltb, and_parts, or_cases, or_left, or_right}
use Rattle.std.proofs.lemmas.Bool.{both_ways, ltb-true}
use Rattle.std.proofs.lemmas.List.{get_or_past}
use Rattle.number_set.specs.Next.{in_either}
use Rattle.number_set.specs.Words.{AreTops, has_number, is_set}
use Rattle.number_set.proofs.WordLemmas.{has_number_at, has_number_past, is_set_zero, grown-numbers}

-- without words there are no places
pub no_tops : (words tops : List ℕ) → length words ≡ 0 → length tops ≡ 0 → AreTops words tops
no_tops words tops none empty = record {
  enough = omega (arith, none, empty);
  few = omega (arith, none, empty);
  places = λ k. has_number_past tops k (omega (arith, empty)) ∙ sym (ap (nat_lt 0) (get_or_past words k 0 (omega (arith, none))));
}

-- one word was written, and its place put
pub put_tops : (words after tops places : List ℕ) (at v : ℕ) → AreTops words tops → length after ≡ length words
    → length places ≡ length tops → ((k : ℕ) → k ≢ at → get_or after k 0 ≡ get_or words k 0) → get_or after at 0 ≡ v
    → ((n : ℕ) → has_number places n ≡ (if n == at then nat_lt 0 v else has_number tops n)) → AreTops after places
put_tops words after tops places at v before same same_places others written put = record {
  enough = (let e = before.enough in omega (arith, e, same, same_places));
  few = (let e = before.few in omega (arith, e, same, same_places));
  places = λ k. put k ∙ elim (cases_eq k at) [
    | inl is ↦
        ap (λ b. if b then nat_lt 0 v else has_number tops k) (eq-eqb k at is)
        ∙ sym (ap (nat_lt 0) (ap (λ n. get_or after n 0) is ∙ written))
    | inr other ↦
        ap (λ b. if b then nat_lt 0 v else has_number tops k) (ne_eqb k at other) ∙ before.places k
        ∙ sym (ap (nat_lt 0) (others k other))
  ];
}

-- there is room for more places, or it was wanting
pub more_tops : (words tops after : List ℕ) (made : Bool) → AreTops words tops → 64 * length tops ≤ length words
    → after ≡ (if made then tops ++ 0 ∷ [] else tops) → AreTops words after
more_tops words tops after true before room is =
    let longer = ap length is ∙ length-append tops (0 ∷ []) in
    record {
      enough = (let e = before.enough in omega (arith, e, longer));
      few = omega (arith, longer, room);
      places = λ k. ap (λ ts. has_number ts k) is ∙ grown-numbers tops k ∙ before.places k;
    }
more_tops words tops after false before room is = subst (AreTops words) (sym is) before

-- the words read as before, and there is room for the places of them
pub same_tops : (words tops after : List ℕ) → AreTops words tops → length words ≤ length after → length after ≤ 64 * length tops
    → ((k : ℕ) → get_or after k 0 ≡ get_or words k 0) → AreTops after tops
same_tops words tops after before longer room same = record {
  enough = room;
  few = (let f = before.few in omega (arith, f, longer));
  places = λ k. before.places k ∙ sym (ap (nat_lt 0) (same k));
}

-- a number in the words is in a word that isn't 0
some_word : (words : List ℕ) (n : ℕ) → has_number words n ≡ true → nat_lt 0 (get_or words (n / 64) 0) ≡ true
some_word words n has = elim (cases_lt 0 (get_or words (n / 64) 0)) [
  | inl some ↦ lt-ltb 0 _ some
  | inr none ↦ absurd (both_ways (has_number words n)
      (has_number_at words n (n / 64) (n % 64) (omega arith) (omega arith)
      ∙ ap (λ w. is_set w (n % 64)) (let e : get_or words (n / 64) 0 ≡ 0 = omega (arith, none) in e) ∙ is_set_zero (n % 64)) has)
]

some_top : (words tops : List ℕ) (n : ℕ) → AreTops words tops → has_number words n ≡ true → has_number tops (n / 64) ≡ true
some_top words tops n are has = are.places (n / 64) ∙ some_word words n has

-- where a place is of no word that isn't 0, no number of its word is there
pub none_of_own : (words tops : List ℕ) (n k : ℕ) → AreTops words tops → n / 64 ≡ k → has_number tops k ≡ false
    → has_number words n ≡ false
none_of_own words tops n k are is none = elim (cases_Bool (has_number words n)) [
  | inl has ↦ absurd (both_ways _ none (ap (has_number tops) (sym is) ∙ some_top words tops n are has))
  | inr absent ↦ absent
]

-- where a place is of a word, the word isn't 0 and stands in the words
pub own_word : (words tops : List ℕ) (k word : ℕ) → AreTops words tops → word ≡ get_or words k 0 → has_number tops k ≡ true
    → 0 < word
own_word words tops k word are is has =
    ltb-true 0 word (ap (nat_lt 0) is ∙ sym (are.places k) ∙ has)

pub own_within : (words tops : List ℕ) (k : ℕ) → AreTops words tops → has_number tops k ≡ true → k < length words
own_within words tops k are has = elim (cases_lt k (length words)) [
  | inl within ↦ within
  | inr past ↦ absurd (both_ways (has_number tops k) (are.places k ∙ ap (nat_lt 0) (get_or_past words k 0 past)) has)
]

both : (x y : Bool) → x ≡ true → y ≡ true → (x && y) ≡ true
both x y p q = ap (λ b. b && y) p ∙ q

module _ (a b c d ta tb tc td : List ℕ) (aa : AreTops a ta) (bb : AreTops b tb) (cc' : AreTops c tc) (dd : AreTops d td) where
  -- a number in either pair has its place in either pair
  top_of : (n : ℕ) → in_either (has_number a) (has_number b) (has_number c) (has_number d) n ≡ true
      → in_either (has_number ta) (has_number tb) (has_number tc) (has_number td) (n / 64) ≡ true
  top_of n h = elim (or_cases (has_number a n && has_number b n) (has_number c n && has_number d n) h) [
    | inl p ↦ (let q = and_parts (has_number a n) (has_number b n) p in
        or_left _ _ (both _ _ (some_top a ta n aa q.0) (some_top b tb n bb q.1)))
    | inr p ↦ (let q = and_parts (has_number c n) (has_number d n) p in
        or_right _ _ (both _ _ (some_top c tc n cc' q.0) (some_top d td n dd q.1)))
  ]

  -- where a place is in neither pair, no number of its word is
  pub none_of_word : (n k : ℕ) → n / 64 ≡ k → in_either (has_number ta) (has_number tb) (has_number tc) (has_number td) k ≡ false
      → in_either (has_number a) (has_number b) (has_number c) (has_number d) n ≡ false
  none_of_word n k is none = elim (cases_Bool (in_either (has_number a) (has_number b) (has_number c) (has_number d) n)) [
    | inl has ↦ absurd (both_ways _ none (ap (in_either (has_number ta) (has_number tb) (has_number tc) (has_number td)) (sym is) ∙ top_of n has))
    | inr absent ↦ absent
  ]

  -- a place in either pair is that of a word of the first or the third
  pub within_words : (k : ℕ) → in_either (has_number ta) (has_number tb) (has_number tc) (has_number td) k ≡ true → (m : ℕ)
      → length a ≤ m → length c ≤ m → k < m
  within_words k h m first third = elim (or_cases (has_number ta k && has_number tb k) (has_number tc k && has_number td k) h) [
    | inl p ↦ (let q = own_within a ta k aa (and_parts (has_number ta k) (has_number tb k) p).0 in omega (arith, q, first))
    | inr p ↦ (let q = own_within c tc k cc' (and_parts (has_number tc k) (has_number td k) p).0 in omega (arith, q, third))
  ]

-- all words are full up to the length, and so are their places
pub filled_tops : (words tops after places : List ℕ) (len : ℕ) → AreTops words tops → length after ≡ length words
    → length places ≡ length tops → 64 * length words < len + 64
    → ((n : ℕ) → n < 64 * length words → has_number after n ≡ nat_lt n len)
    → ((n : ℕ) → n < 64 * length tops → has_number places n ≡ nat_lt n (length words)) → AreTops after places
filled_tops words tops after places len before same same_places tight full full_places = record {
  enough = (let e = before.enough in omega (arith, e, same, same_places));
  few = (let e = before.few in omega (arith, e, same, same_places));
  places = λ k. elim (cases_lt k (length words)) [
    | inl within ↦
        full_places k (let e = before.enough in omega (arith, e, within)) ∙ lt-ltb k (length words) within
        ∙ sym (ap (λ i. nat_lt 0 (get_or after i 0)) (let i : 64 * k / 64 ≡ k = omega arith in sym i)
        ∙ some_word after (64 * k) (full (64 * k) (omega (arith, within)) ∙ lt-ltb (64 * k) len (omega (arith, within, tight))))
    | inr past ↦
        elim (cases_lt k (64 * length tops)) [
          | inl inside ↦ full_places k inside ∙ le-ltb k (length words) past
          | inr behind ↦ has_number_past places k (omega (arith, behind, same_places))
        ] ∙ sym (ap (nat_lt 0) (get_or_past after k 0 (omega (arith, past, same))))
  ];
}
