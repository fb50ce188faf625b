-- hex-in obeys the laws: a digit without a second one is held, and output stops before the first byte that is no digit.
use Rattle.std.proofs.Common.{◌≡◌, ℕ, zero, suc, ◌+◌, ◌*◌, ◌%◌, ◌<◌, ◌≤◌, Bool, true, false, ◌&&◌, ◌==◌, if◌then◌else◌, List, [], ◌∷◌, ◌++◌}
use Rattle.std.proofs.Common.{length, take, drop, Some, None, refl, sym, ◌∙◌, ap, arith, length-append}
use Rattle.std.proofs.Math.Seq.{drop-append_seam}
use Rattle.ev_types.specs.declared.filter.FilterKind.TheVariants as kind
use Rattle.filter_model.specs.Filter.{filter_of, hex_in, not_hex_from, is_hex, hex_value, or_else, odd_end}
use Rattle.filter_model.specs.FilterLaws.{IsPrefixOf, IsFilter, LookAlike, last_of, more}
use Rattle.filter_model.proofs.ListLemmas.{IsPrefixOf-same}

-- the digit that waits for a second one
abbrev pub held_digit : List ℕ → List ℕ
held_digit [] = []
held_digit (x ∷ []) = x ∷ []
held_digit (x ∷ y ∷ xs) = held_digit xs

-- after digits alone, the output goes on with the held digit in front
pub hex_in-append : (xs ys : List ℕ) (first : ℕ) → not_hex_from first xs ≡ None → hex_in (xs ++ ys) ≡ hex_in xs ++ hex_in
    (held_digit xs ++ ys)
hex_in-append [] ys first good = refl
hex_in-append (x ∷ []) ys first good = refl
hex_in-append (x ∷ y ∷ xs) ys first good = by_digits (hex_in-append xs ys (first + 1 + 1)) (is_hex x) (is_hex y) good
  where
    by_digits : (not_hex_from (first + 1 + 1) xs ≡ None → hex_in (xs ++ ys) ≡ hex_in xs ++ hex_in (held_digit xs ++ ys)) → (b c : Bool) →
        (if b then (if c then not_hex_from (first + 1 + 1) xs else Some (first + 1)) else Some first) ≡ None →
        (if b && c then (16 * hex_value x + hex_value y) ∷ hex_in (xs ++ ys) else [])
        ≡ (if b && c then (16 * hex_value x + hex_value y) ∷ hex_in xs else []) ++ hex_in (held_digit xs ++ ys)
    by_digits rest true true h = ap (λ z. (16 * hex_value x + hex_value y) ∷ z) (rest h)
    by_digits rest true false h = absurd (cc)
    by_digits rest false c h = absurd (cc)

hex_in-grows : (xs ys : List ℕ) → IsPrefixOf (hex_in xs) (hex_in (xs ++ ys))
hex_in-grows [] ys = refl
hex_in-grows (x ∷ []) ys = refl
hex_in-grows (x ∷ y ∷ xs) ys = by_digits (hex_in-grows xs ys) (is_hex x && is_hex y)
  where
    by_digits : IsPrefixOf (hex_in xs) (hex_in (xs ++ ys)) → (b : Bool) →
        IsPrefixOf (if b then (16 * hex_value x + hex_value y) ∷ hex_in xs else []) (if b then (16 * hex_value x + hex_value y) ∷
        hex_in (xs ++ ys) else [])
    by_digits rest true = ap (λ z. (16 * hex_value x + hex_value y) ∷ z) rest
    by_digits rest false = refl

-- bytes that are digits alone move the first bad place on
pub not_hex_from-append : (first : ℕ) (xs ys : List ℕ) → not_hex_from first xs ≡ None → not_hex_from first (xs ++ ys) ≡
    not_hex_from (first + length xs) ys
not_hex_from-append first [] ys good = ap (λ n. not_hex_from n ys) (let e : first ≡ first + 0 = omega arith in e)
not_hex_from-append first (x ∷ xs) ys good = by_digit (not_hex_from-append (first + 1) xs ys) (is_hex x) good
  where
    by_digit : (not_hex_from (first + 1) xs ≡ None → not_hex_from (first + 1) (xs ++ ys) ≡ not_hex_from (first + 1 + length xs) ys)
        → (b : Bool) →
        (if b then not_hex_from (first + 1) xs else Some first) ≡ None →
        (if b then not_hex_from (first + 1) (xs ++ ys) else Some first) ≡ not_hex_from (first + length (x ∷ xs)) ys
    by_digit rest true h = rest h ∙ ap (λ n. not_hex_from n ys) (let e : first + 1 + length xs ≡ first + length (x ∷ xs) = omega arith in e)
    by_digit rest false h = absurd (cc)

pub not_hex_from-stays : (first : ℕ) (xs ys : List ℕ) (place : ℕ) → not_hex_from first xs ≡ Some place → not_hex_from first
    (xs ++ ys) ≡ Some place
not_hex_from-stays first [] ys place h = absurd (cc)
not_hex_from-stays first (x ∷ xs) ys place h = by_digit (not_hex_from-stays (first + 1) xs ys place) (is_hex x) h
  where
    by_digit : (not_hex_from (first + 1) xs ≡ Some place → not_hex_from (first + 1) (xs ++ ys) ≡ Some place) → (b : Bool) →
        (if b then not_hex_from (first + 1) xs else Some first) ≡ Some place → (if b then not_hex_from (first + 1) (xs ++ ys)
        else Some first) ≡ Some place
    by_digit rest true e = rest e
    by_digit rest false e = e

pub record Between (low place high : ℕ) : Type 0 where
  pub above : low ≤ place
  pub below : place < high

some_same : (a b : ℕ) → Some a ≡ Some b → a ≡ b
some_same a b h = cc

pub not_hex_from-there : (first : ℕ) (xs : List ℕ) (place : ℕ) → not_hex_from first xs ≡ Some place → Between first place
    (first + length xs)
not_hex_from-there first [] place h = absurd (cc)
not_hex_from-there first (x ∷ xs) place h = by_digit (not_hex_from-there (first + 1) xs place) (is_hex x) h
  where
    by_digit : (not_hex_from (first + 1) xs ≡ Some place → Between (first + 1) place (first + 1 + length xs)) → (b : Bool) →
        (if b then not_hex_from (first + 1) xs else Some first) ≡ Some place → Between first place (first + length (x ∷ xs))
    by_digit rest true e = let k = rest e in record { above = omega arith; below = omega arith }
    by_digit rest false e = let k = some_same first place e in record { above = omega arith; below = omega arith }

not_hex_from-shows : (first : ℕ) (xs : List ℕ) (n : ℕ) → not_hex_from first xs ≡ Some (first + n) → not_hex_from first
    (take (suc n) xs) ≡ Some (first + n)
not_hex_from-shows first [] n h = absurd (cc)
not_hex_from-shows first (x ∷ xs) zero h = by_digit (is_hex x) h
  where
    by_digit : (b : Bool) → (if b then not_hex_from (first + 1) xs else Some first) ≡ Some (first + 0) →
        (if b then None else Some first) ≡ Some (first + 0)
    by_digit true e = absurd (let k = not_hex_from-there (first + 1) xs (first + 0) e in omega arith)
    by_digit false e = e
not_hex_from-shows first (x ∷ xs) (suc n) h = by_digit (not_hex_from-shows (first + 1) xs n) (is_hex x) h
  where
    same : first + suc n ≡ first + 1 + n
    same = omega arith

    by_digit : (not_hex_from (first + 1) xs ≡ Some (first + 1 + n) → not_hex_from (first + 1) (take (suc n) xs) ≡ Some
        (first + 1 + n)) → (b : Bool) →
        (if b then not_hex_from (first + 1) xs else Some first) ≡ Some (first + suc n) →
        (if b then not_hex_from (first + 1) (take (suc n) xs) else Some first) ≡ Some (first + suc n)
    by_digit rest true e = rest (e ∙ ap Some same) ∙ ap Some (sym same)
    by_digit rest false e = e

-- where the first bad place is one of the first two, these are not both digits
not_both : (first place : ℕ) (xs : List ℕ) → place < first + 2 → (b c : Bool) →
    (if b then (if c then not_hex_from (first + 1 + 1) xs else Some (first + 1)) else Some first) ≡ Some place → (b && c) ≡ false
not_both first place xs lt true true h = absurd (let k = not_hex_from-there (first + 1 + 1) xs place h in omega arith)
not_both first place xs lt true false h = refl
not_both first place xs lt false c h = refl

-- output stops before the first bad place
hex_in-stops : (first : ℕ) (xs : List ℕ) (n : ℕ) → not_hex_from first xs ≡ Some (first + n) → hex_in xs ≡ hex_in (take n xs)
hex_in-stops first [] n h = absurd (cc)
hex_in-stops first (x ∷ []) zero h = refl
hex_in-stops first (x ∷ []) (suc zero) h = refl
hex_in-stops first (x ∷ []) (suc (suc n)) h = refl
hex_in-stops first (x ∷ y ∷ xs) zero h =
    ap (λ b. if b then (16 * hex_value x + hex_value y) ∷ hex_in xs else []) (not_both first (first + 0) xs (omega arith)
    (is_hex x) (is_hex y) h)
hex_in-stops first (x ∷ y ∷ xs) (suc zero) h =
    ap (λ b. if b then (16 * hex_value x + hex_value y) ∷ hex_in xs else []) (not_both first (first + 1) xs (omega arith)
    (is_hex x) (is_hex y) h)
hex_in-stops first (x ∷ y ∷ xs) (suc (suc n)) h = by_digits (hex_in-stops (first + 1 + 1) xs n) (is_hex x) (is_hex y) h
  where
    by_digits : (not_hex_from (first + 1 + 1) xs ≡ Some (first + 1 + 1 + n) → hex_in xs ≡ hex_in (take n xs)) → (b c : Bool) →
        (if b then (if c then not_hex_from (first + 1 + 1) xs else Some (first + 1)) else Some first) ≡ Some (first + suc (suc n)) →
        (if b && c then (16 * hex_value x + hex_value y) ∷ hex_in xs else []) ≡ (if b && c then (16 * hex_value x + hex_value y) ∷
        hex_in (take n xs) else [])
    by_digits rest true true e =
        ap (λ z. (16 * hex_value x + hex_value y) ∷ z)
        (rest (e ∙ ap Some (let k : first + suc (suc n) ≡ first + 1 + 1 + n = omega arith in k)))
    by_digits rest true false e = refl
    by_digits rest false c e = refl

-- the held digit is known by the count of bytes and the last of them
held_digit-same : (xs zs : List ℕ) → length xs ≡ length zs → last_of xs ≡ last_of zs → held_digit xs ≡ held_digit zs
held_digit-same [] [] e h = refl
held_digit-same [] (z ∷ zs) e h = absurd (omega arith)
held_digit-same (x ∷ xs) [] e h = absurd (omega arith)
held_digit-same (x ∷ []) (z ∷ []) e h = ap (λ n. n ∷ []) (some_same x z h)
held_digit-same (x ∷ []) (z ∷ w ∷ zs) e h = absurd (omega arith)
held_digit-same (x ∷ y ∷ xs) (z ∷ []) e h = absurd (omega arith)
held_digit-same (x ∷ y ∷ []) (z ∷ w ∷ []) e h = refl
held_digit-same (x ∷ y ∷ []) (z ∷ w ∷ v ∷ zs) e h = absurd (omega arith)
held_digit-same (x ∷ y ∷ u ∷ xs) (z ∷ w ∷ []) e h = absurd (omega arith)
held_digit-same (x ∷ y ∷ u ∷ xs) (z ∷ w ∷ v ∷ zs) e h = held_digit-same (u ∷ xs) (v ∷ zs) (let k : length (u ∷ xs) ≡ length
    (v ∷ zs) = omega arith in k) h

more_hex : (xs ys : List ℕ) → not_hex_from 0 xs ≡ None → drop (length (hex_in xs)) (hex_in (xs ++ ys)) ≡ hex_in (held_digit xs ++ ys)
more_hex xs ys good = ap (drop (length (hex_in xs))) (hex_in-append xs ys 0 good) ∙ drop-append_seam (hex_in xs)
    (hex_in (held_digit xs ++ ys))

same_more : (xs zs : List ℕ) → LookAlike (filter_of kind.HexIn) xs zs → (ys : List ℕ) → more (filter_of kind.HexIn) xs ys ≡ more
    (filter_of kind.HexIn) zs ys
same_more xs zs h ys = more_hex xs ys h.left_good ∙ ap (λ d. hex_in (d ++ ys)) (held_digit-same xs zs h.count h.last) ∙ sym
    (more_hex zs ys h.right_good)

same_bad_place : (xs zs : List ℕ) → LookAlike (filter_of kind.HexIn) xs zs → (ys : List ℕ) → not_hex_from 0 (xs ++ ys) ≡
    not_hex_from 0 (zs ++ ys)
same_bad_place xs zs h ys =
    not_hex_from-append 0 xs ys h.left_good ∙ ap (λ n. not_hex_from (0 + n) ys) h.count ∙ sym (not_hex_from-append 0 zs ys h.right_good)

same_length : (xs zs ys : List ℕ) → length xs ≡ length zs → length (xs ++ ys) ≡ length (zs ++ ys)
same_length xs zs ys e = length-append xs ys ∙ ap (λ n. n + length ys) e ∙ sym (length-append zs ys)

same_odd_end : (xs zs : List ℕ) → length xs ≡ length zs → odd_end xs ≡ odd_end zs
same_odd_end xs zs e = ap (λ n. if n % 2 == 1 then Some n else None) e

pub hex_in_filter : IsFilter (filter_of kind.HexIn)
hex_in_filter = record {
  prefix = record { empty = refl; grows = hex_in-grows; ends = λ xs. IsPrefixOf-same (hex_in xs) };
  badness = record {
    is_there = λ xs place h. (let k = not_hex_from-there 0 xs place h in let lt : place < length xs = omega arith in lt);
    shows = λ xs place h.
        let same : place ≡ 0 + place = omega arith in
        let next : place + 1 ≡ suc place = omega arith in
        ap (λ n. not_hex_from 0 (take n xs)) next ∙ not_hex_from-shows 0 xs place (h ∙ ap Some same) ∙ ap Some (sym same);
    stays = not_hex_from-stays 0;
    stops = λ xs place h. hex_in-stops 0 xs place (h ∙ ap Some (let k : place ≡ 0 + place = omega arith in k));
    bad_at_end = λ xs place h. ap (λ o. or_else o (odd_end xs)) h;
    stops_at_end = λ xs place h. refl;
  };
  cut = record {
    same = same_more;
    same_at_end = same_more;
    same_bad = same_bad_place;
    same_bad_at_end = λ xs zs h ys.
        ap (λ o. or_else o (odd_end (xs ++ ys))) (same_bad_place xs zs h ys)
        ∙ ap (λ o. or_else (not_hex_from 0 (zs ++ ys)) o) (same_odd_end (xs ++ ys) (zs ++ ys) (same_length xs zs ys h.count));
  };
}
