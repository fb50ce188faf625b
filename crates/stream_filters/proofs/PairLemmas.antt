-- Pairs of hex digits in a row.
use Rattle.std.proofs.Common.{◌≡◌, ℕ, zero, suc, ◌+◌, ◌*◌, ◌%◌, ◌<◌, ◌≤◌, Bool, true, false, not, ◌==◌, ◌&&◌, if◌then◌else◌, List, []}
use Rattle.std.proofs.Common.{◌∷◌, ◌++◌}
use Rattle.std.proofs.Common.{length, take, drop, Option, Some, None, refl, sym, ◌∙◌, ap, subst, arith, length-append, append_assoc}
use Rattle.std.proofs.Common.{append-nil}
use Rattle.std.specs.Prelude.{slice_index, unwrap_or}
use Rattle.std.specs.List.{last_or, list_all}
use Rattle.std.proofs.lemmas.Bool.{and_parts}
use Rattle.std.proofs.lemmas.Bool.Decides.{nat_tests}
use Rattle.std.proofs.lemmas.List.{length-drop, length-take-le, take_more, take-append-drop}
use Rattle.std.proofs.Math.Seq.{take-add}
use Rattle.ev_types.specs.declared.filter.FilterKind.TheVariants as kind
use Rattle.filter_model.specs.Filter.{hex_in, is_hex, hex_value}
use Rattle.filter_model.specs.FilterRun.{Ran, run, adds}
use Rattle.filter_model.specs.FilterCuts.{joined}
use Rattle.stream_filters.specs.Knowledge.{IsDigitLast}
use Rattle.stream_filters.specs.Parts.{AppendsPart, ArePairs, ReadsPairs, HasRoom, value_of_pair}
use Rattle.stream_filters.proofs.PartLemmas.{run-byte}

abbrev value_of : ℕ → ℕ → ℕ
value_of x y = 16 * hex_value x + hex_value y

hex_in-pair : (x y : ℕ) (xs : List ℕ) → is_hex x ≡ true → is_hex y ≡ true → hex_in (x ∷ y ∷ xs) ≡ value_of x y ∷ hex_in xs
hex_in-pair x y xs a b = λ i. if a i && b i then value_of x y ∷ hex_in xs else []

length-pairs : {m : ℕ} {xs : List ℕ} → ArePairs m xs → length xs ≡ 2 * m
length-pairs ArePairs.no_pairs = refl
length-pairs (ArePairs.pair a b rest) = let e = length-pairs rest in omega (arith, e)

length-hex_in : {m : ℕ} {xs : List ℕ} → ArePairs m xs → length (hex_in xs) ≡ m
length-hex_in ArePairs.no_pairs = refl
length-hex_in (ArePairs.pair {x = x} {y = y} {xs = xs} a b rest) = ap length (hex_in-pair x y xs a b) ∙ ap suc (length-hex_in rest)

pairs-push : {m : ℕ} {xs : List ℕ} (x y : ℕ) → ArePairs m xs → is_hex x ≡ true → is_hex y ≡ true → ArePairs (suc m) (xs ++ x ∷ y ∷ [])
pairs-push x y ArePairs.no_pairs a b = ArePairs.pair a b ArePairs.no_pairs
pairs-push x y (ArePairs.pair c d rest) a b = ArePairs.pair c d (pairs-push x y rest a b)

pub hex_in-push : {m : ℕ} {xs : List ℕ} (x y : ℕ) → ArePairs m xs → is_hex x ≡ true → is_hex y ≡ true →
    hex_in (xs ++ x ∷ y ∷ []) ≡ hex_in xs ++ value_of x y ∷ []
hex_in-push x y ArePairs.no_pairs a b = hex_in-pair x y [] a b
hex_in-push x y (ArePairs.pair {x = p} {y = q} {xs = xs} c d rest) a b =
    hex_in-pair p q (xs ++ x ∷ y ∷ []) c d ∙ ap (λ z. value_of p q ∷ z) (hex_in-push x y rest a b)
    ∙ ap (λ z. z ++ value_of x y ∷ []) (sym (hex_in-pair p q xs c d))

pairs-append : {m n : ℕ} {xs ys : List ℕ} → ArePairs m xs → ArePairs n ys → ArePairs (m + n) (xs ++ ys)
pairs-append {n = n} {ys = ys} ArePairs.no_pairs q = subst (λ k. ArePairs k ys) (let e : n ≡ 0 + n = omega arith in e) q
pairs-append {n = n} {ys = ys} (ArePairs.pair {m = m} {x = x} {y = y} {xs = xs} a b rest) q =
    let e : suc (m + n) ≡ suc m + n = omega arith in
    subst (λ k. ArePairs k (x ∷ y ∷ (xs ++ ys))) e (ArePairs.pair a b (pairs-append rest q))

hex_in-append : {m : ℕ} {xs : List ℕ} (ys : List ℕ) → ArePairs m xs → hex_in (xs ++ ys) ≡ hex_in xs ++ hex_in ys
hex_in-append ys ArePairs.no_pairs = refl
hex_in-append ys (ArePairs.pair {x = x} {y = y} {xs = xs} a b rest) =
    hex_in-pair x y (xs ++ ys) a b ∙ ap (λ z. value_of x y ∷ z) (hex_in-append ys rest)
    ∙ ap (λ z. z ++ hex_in ys) (sym (hex_in-pair x y xs a b))

-- digits of an even number are pairs
pub all_pairs : (n : ℕ) (xs : List ℕ) → length xs ≡ 2 * n → list_all is_hex xs ≡ true → ArePairs n xs
all_pairs zero [] many all = ArePairs.no_pairs
all_pairs zero (x ∷ xs) many all = absurd (omega (arith, many))
all_pairs (suc n) [] many all = absurd (omega (arith, many))
all_pairs (suc n) (x ∷ []) many all = absurd (omega (arith, many))
all_pairs (suc n) (x ∷ y ∷ xs) many all =
    let first = and_parts (is_hex x) (is_hex y && list_all is_hex xs) all in
    let second = and_parts (is_hex y) (list_all is_hex xs) first.1 in
    ArePairs.pair first.0 second.0 (all_pairs n xs (omega (arith, many)) second.1)

-- the last byte of pairs of digits is a digit
last-pairs : {m : ℕ} {xs : List ℕ} (last : Option ℕ) → IsDigitLast kind.HexIn last → ArePairs m xs
    → IsDigitLast kind.HexIn (last_or last xs)
last-pairs last h ArePairs.no_pairs = h
last-pairs last h (ArePairs.pair {y = y} {xs = xs} a b rest) = last-pairs (Some y) (one y b) rest
  where
    one : (y : ℕ) → is_hex y ≡ true → IsDigitLast kind.HexIn (Some y)
    one y b zero d lt = b
    one y b (suc k) d lt = absurd (omega (arith, lt))

-- a run from an even place on uses them, where the limit allows the bytes that they spell
run-pairs : {m : ℕ} {xs : List ℕ} (limit n count : ℕ) (last : Option ℕ) (rest : List ℕ) → ArePairs m xs → n + m ≤ limit → count % 2 ≡ 0 →
    run kind.HexIn limit n count last (xs ++ rest)
    ≡ joined (record { used = length xs; made = hex_in xs }) (run kind.HexIn limit (n + m) (count + length xs) (last_or last xs) rest)
run-pairs limit n count last rest ArePairs.no_pairs room even =
    let a : n ≡ n + 0 = omega arith in
    let b : count ≡ count + 0 = omega arith in
    let r : Ran = run kind.HexIn limit (n + 0) (count + 0) last rest in
    let z : r.used ≡ 0 + r.used = omega arith in
    (λ i. run kind.HexIn limit (a i) (b i) last rest) ∙ (λ i. record { used = z i; made = r.made })
run-pairs limit n count last rest (ArePairs.pair {m = m} {x = x} {y = y} {xs = xs} c d pairs) room even =
    let is_even : (count % 2 == 1) ≡ false = grind (arith, nat_tests, even) in
    let is_odd : ((count + 1) % 2 == 1) ≡ true = (let o : (count + 1) % 2 ≡ 1 = omega (arith, even) in grind (arith, nat_tests, o)) in
    let none : adds kind.HexIn count last x ≡ [] =
    λ i. if is_even i then (16 * hex_value (unwrap_or last 0) + hex_value x) ∷ [] else [] in
    let value : adds kind.HexIn (count + 1) (Some x) y ≡ value_of x y ∷ [] = λ i. if is_odd i then value_of x y ∷ [] else [] in
    let first = run-byte kind.HexIn limit n count last x (y ∷ xs ++ rest) (omega (arith, room)) (ap not c) in
    let second = run-byte kind.HexIn limit n (count + 1) (Some x) y (xs ++ rest) (omega (arith, room)) (ap not d) in
    let ih = run-pairs limit (n + 1) (count + 1 + 1) (Some y) rest pairs (omega (arith, room)) (omega (arith, even)) in
    let r : Ran = run kind.HexIn limit (n + suc m) (count + length (x ∷ y ∷ xs)) (last_or (Some y) xs) rest in
    let p : n + 0 ≡ n = omega arith in
    let q : n + 1 + m ≡ n + suc m = omega arith in
    let s : count + 1 + 1 + length xs ≡ count + length (x ∷ y ∷ xs) = omega arith in
    let u : 1 + (1 + (length xs + r.used)) ≡ length (x ∷ y ∷ xs) + r.used = omega arith in
    first
    ∙ (λ i. joined (record { used = 1; made = none i }) (run kind.HexIn limit (n + length (none i)) (count + 1) (Some x) (y ∷ xs ++ rest)))
    ∙ (λ i. joined (record { used = 1; made = [] }) (run kind.HexIn limit (p i) (count + 1) (Some x) (y ∷ xs ++ rest)))
    ∙ (λ i. joined (record { used = 1; made = [] }) (second i))
    ∙ (λ i. joined (record { used = 1; made = [] })
    (joined (record { used = 1; made = value i }) (run kind.HexIn limit (n + length (value i)) (count + 1 + 1) (Some y) (xs ++ rest))))
    ∙ (λ i. joined (record { used = 1; made = [] }) (joined (record { used = 1; made = value_of x y ∷ [] }) (ih i)))
    ∙ (λ i. joined (record { used = 1; made = [] }) (joined (record { used = 1; made = value_of x y ∷ [] })
    (joined (record { used = length xs; made = hex_in xs }) (run kind.HexIn limit (q i) (s i) (last_or (Some y) xs) rest))))
    ∙ (λ i. record { used = u i; made = sym (hex_in-pair x y xs c d) i ++ r.made })

run-front : {m : ℕ} (limit n count : ℕ) (last : Option ℕ) (src : List ℕ) (used : ℕ) → used ≤ length src → ArePairs m (take used src) →
    n + m ≤ limit → count % 2 ≡ 0 →
    run kind.HexIn limit n count last src
    ≡ joined (record { used = used; made = hex_in (take used src) })
    (run kind.HexIn limit (n + m) (count + used) (last_or last (take used src)) (drop used src))
run-front {m} limit n count last src used within digits room even =
    let e : length (take used src) ≡ used = length-take-le used src within in
    (λ i. run kind.HexIn limit n count last (sym (take-append-drop used src) i))
    ∙ run-pairs limit n count last (drop used src) digits room even
    ∙ (λ i. joined (record { used = e i; made = hex_in (take used src) })
    (run kind.HexIn limit (n + m) (count + e i) (last_or last (take used src)) (drop used src)))

module _ (limit count : ℕ) (last : Option ℕ) (src old : List ℕ) (even : count % 2 ≡ 0) where
  -- the pairs that were read are a part of the run
  pub pairs-part : (new : List ℕ) (used : ℕ) → ReadsPairs limit src old new used → 0 < used →
      AppendsPart kind.HexIn limit count last src old new used
  pairs-part new used r some = record {
    made = hex_in (take used src);
    filled = r.filled;
    within = r.within;
    goes =
        run-front limit (length old) count last src used r.within r.digits r.below even
        ∙ (let n : length old + r.pairs ≡ length new = (let f = ap length r.filled in let h = length-hex_in r.digits in
        omega (arith, f, h, length-append old (hex_in (take used src)))) in
        λ i. joined (record { used = used; made = hex_in (take used src) })
        (run kind.HexIn limit (n i) (count + used) (last_or last (take used src)) (drop used src)));
    stops = λ none. absurd (omega (arith, none, some));
  }

  pub pairs-last : (new : List ℕ) (used : ℕ) → ReadsPairs limit src old new used → IsDigitLast kind.HexIn last →
      IsDigitLast kind.HexIn (last_or last (take used src))
  pairs-last new used r h = last-pairs last h r.digits

  -- one pair more, with the room that it needs
  module _ (new : List ℕ) (used capacity x y : ℕ) (r : ReadsPairs limit src old new used) (first : slice_index src used ≡ x)
      (second : slice_index src (used + 1) ≡ y) (a : is_hex x ≡ true) (b : is_hex y ≡ true) (within : used + 1 < length src)
      (below : length new < limit) where
    two : take (used + 2) src ≡ take used src ++ x ∷ y ∷ []
    two =
        let s : used + 2 ≡ used + 1 + 1 = omega arith in
        ap (λ n. take n src) s ∙ take_more src (used + 1) 0 within
        ∙ (λ i. take_more src used 0 (omega (arith, within)) i ++ second i ∷ [])
        ∙ (λ i. (take used src ++ first i ∷ []) ++ y ∷ [])
        ∙ append_assoc (take used src) (x ∷ []) (y ∷ [])

    more-pairs : ArePairs (suc r.pairs) (take (used + 2) src)
    more-pairs = subst (ArePairs (suc r.pairs)) (sym two) (pairs-push x y r.digits a b)

    room-left : length old + suc r.pairs ≤ limit
    room-left =
        let f = ap length r.filled in
        let h = length-hex_in r.digits in
        omega (arith, f, h, below, length-append old (hex_in (take used src)))

    pub pair-more : ReadsPairs limit src old (new ++ value_of x y ∷ []) (used + 2)
    pair-more = record {
      pairs = suc r.pairs;
      digits = more-pairs;
      within = omega (arith, within);
      below = room-left;
      filled =
          ap (λ z. z ++ value_of x y ∷ []) r.filled
          ∙ append_assoc old (hex_in (take used src)) (value_of x y ∷ [])
          ∙ ap (λ z. old ++ z) (sym (hex_in-push x y r.digits a b))
          ∙ ap (λ z. old ++ hex_in z) (sym two);
    }

    pub pair-room : HasRoom kind.HexIn limit count last src old capacity → length new < capacity
    pair-room room =
        let rest : Ran = run kind.HexIn limit (length old + suc r.pairs) (count + (used + 2)) (last_or last (take (used + 2) src))
        (drop (used + 2) src) in
        let e = ap (λ (z : Ran). length z.made)
        (run-front limit (length old) count last src (used + 2) (omega (arith, within)) more-pairs room-left even) in
        let h = length-hex_in more-pairs in
        let f = ap length r.filled in
        let g = length-hex_in r.digits in
        omega (arith, e, h, f, g, room, length-append (hex_in (take (used + 2) src)) rest.made, length-append old (hex_in (take used src)))

  -- so many pairs more, with the room that they need
  module _ (new : List ℕ) (used capacity n : ℕ) (r : ReadsPairs limit src old new used) (within : used + 2 * n ≤ length src)
      (below : length new + n ≤ limit) (all : list_all is_hex (take (2 * n) (drop used src)) ≡ true) where
    abbrev pub more : List ℕ
    more = take (2 * n) (drop used src)

    whole : take (used + 2 * n) src ≡ take used src ++ more
    whole = take-add used (2 * n) src

    are_more : ArePairs n more
    are_more = all_pairs n more (length-take-le (2 * n) (drop used src) (omega (arith, within, length-drop used src))) all

    in_all : ArePairs (r.pairs + n) (take (used + 2 * n) src)
    in_all = subst (ArePairs (r.pairs + n)) (sym whole) (pairs-append r.digits are_more)

    under : length old + (r.pairs + n) ≤ limit
    under =
        let f = ap length r.filled in
        let h = length-hex_in r.digits in
        omega (arith, f, h, below, length-append old (hex_in (take used src)))

    pub block-more : ReadsPairs limit src old (new ++ hex_in more) (used + 2 * n)
    block-more = record {
      pairs = r.pairs + n;
      digits = in_all;
      within = within;
      below = under;
      filled =
          ap (λ z. z ++ hex_in more) r.filled
          ∙ append_assoc old (hex_in (take used src)) (hex_in more)
          ∙ ap (λ z. old ++ z) (sym (hex_in-append more r.digits))
          ∙ ap (λ z. old ++ hex_in z) (sym whole);
    }

    pub block-room : HasRoom kind.HexIn limit count last src old capacity → length new + n ≤ capacity
    block-room room =
        let rest : Ran = run kind.HexIn limit (length old + (r.pairs + n)) (count + (used + 2 * n))
        (last_or last (take (used + 2 * n) src)) (drop (used + 2 * n) src) in
        let e = ap (λ (z : Ran). length z.made)
        (run-front limit (length old) count last src (used + 2 * n) within in_all under even) in
        let h = length-hex_in in_all in
        let f = ap length r.filled in
        let g = length-hex_in r.digits in
        let l = length-append old (hex_in (take used src)) in
        omega (arith, e, h, f, g, l, room, length-append (hex_in (take (used + 2 * n) src)) rest.made)

pub pairs-none : (limit : ℕ) (src old : List ℕ) → length old ≤ limit → ReadsPairs limit src old old 0
pairs-none limit src old below = record {
  pairs = 0;
  digits = ArePairs.no_pairs;
  within = omega arith;
  below = omega (arith, below);
  filled = sym (append-nil old);
}

-- two bytes that spell this one are digits
pub record IsPair (x y v : ℕ) : Type 0 where
  pub first : is_hex x ≡ true
  pub second : is_hex y ≡ true
  pub value : v ≡ 16 * hex_value x + hex_value y

pub pair-cases : (x y v : ℕ) → Some v ≡ value_of_pair x y → IsPair x y v
pair-cases x y v e = go (is_hex x) (is_hex y) refl refl e
  where
    go : (a b : Bool) → is_hex x ≡ a → is_hex y ≡ b → Some v ≡ (if a && b then Some (16 * hex_value x + hex_value y) else None)
        → IsPair x y v
    go true true p q e = record { first = p; second = q; value = (cc) }
    go true false p q e = absurd (cc)
    go false b p q e = absurd (cc)
