-- The parts of runs.
use Rattle.std.proofs.Common.{◌≡◌, ℕ, zero, suc, ◌+◌, ◌*◌, ◌/◌, ◌%◌, ◌<◌, ◌≤◌, Bool, true, false, not, ◌||◌, if◌then◌else◌, List, [], ◌∷◌}
use Rattle.std.proofs.Common.{◌++◌, length, take, drop, Option, Some, None, refl, sym, ◌∙◌, ap, arith, append_assoc, length-append}
use Rattle.std.specs.Prelude.{◌≢◌, nat_le, slice_index}
use Rattle.std.specs.List.{last_or}
use Rattle.std.proofs.lemmas.Bool.Decides.{nat_tests}
use Rattle.std.proofs.lemmas.List.{length-drop, length-take-le, take_more, get_or-drop, drop-drop}
use Rattle.std.proofs.Math.Seq.{take-add}
use Rattle.ev_types.specs.declared.filter.FilterKind.{FilterKind}
use Rattle.ev_types.specs.declared.filter.FilterKind.TheVariants as kind
use Rattle.filter_model.specs.Filter.{hex_out, hex_digit, is_hex, hex_value}
use Rattle.filter_model.specs.FilterRun.{Ran, goes_on, run, adds, is_bad_byte}
use Rattle.filter_model.specs.FilterCuts.{joined}
use Rattle.filter_model.proofs.FilterLemmas.{hex_out-append}
use Rattle.filter_model.proofs.ListLemmas.{last_or-append}
use Rattle.stream_filters.specs.Parts.{AppendsPart, HasRoom}
use Rattle.stream_filters.proofs.PlainLemmas.{IsPlain, run-plain}

-- a run below its limit uses a good byte
pub run-byte : (k : FilterKind) (limit n count : ℕ) (last : Option ℕ) (x : ℕ) (src : List ℕ) → n < limit → is_bad_byte k x ≡ false →
    run k limit n count last (x ∷ src)
    ≡ joined (record { used = 1; made = adds k count last x }) (run k limit (n + length (adds k count last x)) (count + 1) (Some x) src)
run-byte k limit n count last x src below good =
    let under : nat_le limit n ≡ false = grind (arith, nat_tests, below) in
    let rest : Ran = run k limit (n + length (adds k count last x)) (count + 1) (Some x) src in
    let one : suc rest.used ≡ 1 + rest.used = omega arith in
    (λ i. goes_on (under i || good i) (adds k count last x) rest) ∙ (λ i. record { used = one i; made = adds k count last x ++ rest.made })

-- a part of one byte
pub byte-part : (k : FilterKind) (limit count : ℕ) (last : Option ℕ) (src old new : List ℕ) (x : ℕ) → 0 < length src →
    slice_index src 0 ≡ x → length old < limit →
    is_bad_byte k x ≡ false → new ≡ old ++ adds k count last x → AppendsPart k limit count last src old new 1
byte-part k limit count last [] old new x some first below good filled = absurd (omega arith)
byte-part k limit count last (y ∷ src) old new x some first below good filled = record {
  made = adds k count last x;
  filled = filled;
  within = omega arith;
  goes =
      (λ i. run k limit (length old) count last (first i ∷ src))
      ∙ run-byte k limit (length old) count last x src below good
      ∙ (let n : length old + length (adds k count last x) ≡ length new =
      sym (ap length filled ∙ length-append old (adds k count last x)) in
      λ i. joined (record { used = 1; made = adds k count last x }) (run k limit (n i) (count + 1) (Some (sym first i)) src));
  stops = λ none. absurd (omega (arith, none));
}

-- and the room that it needs
pub byte-room : (k : FilterKind) (limit count : ℕ) (last : Option ℕ) (src old : List ℕ) (x capacity : ℕ) → 0 < length src →
    slice_index src 0 ≡ x → length old < limit →
    is_bad_byte k x ≡ false → HasRoom k limit count last src old capacity → length old + length (adds k count last x) ≤ capacity
byte-room k limit count last [] old x capacity some first below good room = absurd (omega arith)
byte-room k limit count last (y ∷ src) old x capacity some first below good room =
    let rest : Ran = run k limit (length old + length (adds k count last x)) (count + 1) (Some x) src in
    let e = ap (λ (r : Ran). length r.made)
    ((λ i. run k limit (length old) count last (first i ∷ src)) ∙ run-byte k limit (length old) count last x src below good) in
    omega (arith, e, length-append (adds k count last x) rest.made, room)

-- a part of plain bytes
pub plain-part : (k : FilterKind) (limit count : ℕ) (last : Option ℕ) (src old new : List ℕ) (used : ℕ) → used ≤ length src →
    length old + used ≤ limit → 0 < used →
    IsPlain k last (take used src) → new ≡ old ++ take used src → AppendsPart k limit count last src old new used
plain-part k limit count last src old new used within below some plain filled = record {
  made = take used src;
  filled = filled;
  within = within;
  goes =
      run-plain k limit (length old) count last src used within below plain
      ∙ (let n : length old + used ≡ length new =
      sym (ap length filled ∙ length-append old (take used src) ∙ ap (λ m. length old + m) (length-take-le used src within)) in
      λ i. joined (record { used = used; made = take used src })
      (run k limit (n i) (count + used) (last_or last (take used src)) (drop used src)));
  stops = λ none. absurd (omega (arith, none, some));
}

-- and the room that it needs
pub plain-room : (k : FilterKind) (limit count : ℕ) (last : Option ℕ) (src old : List ℕ) (used capacity : ℕ) → used ≤ length src →
    length old + used ≤ limit →
    IsPlain k last (take used src) → HasRoom k limit count last src old capacity → length old + used ≤ capacity
plain-room k limit count last src old used capacity within below plain room =
    let rest : Ran = run k limit (length old + used) (count + used) (last_or last (take used src)) (drop used src) in
    let e = ap (λ (r : Ran). length r.made) (run-plain k limit (length old) count last src used within below plain) in
    let t = length-take-le used src within in
    omega (arith, e, length-append (take used src) rest.made, t, room)

-- plain bytes and one more behind them
module _ (k : FilterKind) (limit count : ℕ) (last : Option ℕ) (src old mid : List ℕ) (used x : ℕ) (within : used < length src)
    (is : slice_index src used ≡ x) (below : length old + used < limit) (plain : IsPlain k last (take used src))
    (good : is_bad_byte k x ≡ false) (put : mid ≡ old ++ take used src) where
  front : length (take used src) ≡ used
  front = length-take-le used src (omega (arith, within))

  reached : length mid ≡ length old + used
  reached = ap length put ∙ length-append old (take used src) ∙ ap (λ m. length old + m) front

  to_rest : run k limit (length old) count last src ≡ joined (record { used = used; made = take used src })
      (run k limit (length mid) (count + used) (last_or last (take used src)) (drop used src))
  to_rest =
      run-plain k limit (length old) count last src used (omega (arith, within)) (omega (arith, below)) plain
      ∙ (λ i. joined (record { used = used; made = take used src })
      (run k limit (sym reached i) (count + used) (last_or last (take used src)) (drop used src)))

  first_is : slice_index (drop used src) 0 ≡ x
  first_is = get_or-drop used src 0 0 ∙ (let e : used + 0 ≡ used = omega arith in ap (slice_index src) e) ∙ is

  some_left : 0 < length (drop used src)
  some_left = omega (arith, within, length-drop used src)

  under_limit : length mid < limit
  under_limit = omega (arith, reached, below)

  pub line-part : (new : List ℕ) → new ≡ mid ++ adds k (count + used) (last_or last (take used src)) x
      → AppendsPart k limit count last src old new (used + 1)
  line-part new filled =
      let a : List ℕ = adds k (count + used) (last_or last (take used src)) x in
      let one = byte-part k limit (count + used) (last_or last (take used src)) (drop used src) mid new x some_left first_is under_limit
      good filled in
      let more : take used src ++ take 1 (drop used src) ≡ take (used + 1) src = sym (take-add used 1 src) in
      let r : Ran = run k limit (length new) (count + used + 1) (last_or (last_or last (take used src)) (take 1 (drop used src)))
      (drop 1 (drop used src)) in
      let c : count + used + 1 ≡ count + (used + 1) = omega arith in
      let n : used + (1 + r.used) ≡ used + 1 + r.used = omega arith in
      let l : last_or (last_or last (take used src)) (take 1 (drop used src)) ≡ last_or last (take (used + 1) src) =
      sym (last_or-append last (take used src) (take 1 (drop used src))) ∙ ap (last_or last) more in
      record {
        made = take used src ++ one.made;
        filled = one.filled ∙ (λ i. put i ++ one.made) ∙ append_assoc old (take used src) one.made;
        within = omega (arith, within);
        goes =
            to_rest ∙ (λ i. joined (record { used = used; made = take used src }) (one.goes i))
            ∙ (λ i. record { used = n i; made = sym (append_assoc (take used src) one.made r.made) i })
            ∙ (λ i. joined (record { used = used + 1; made = take used src ++ one.made })
            (run k limit (length new) (c i) (l i) (drop-drop 1 used src i)));
        stops = λ none. absurd (omega (arith, none));
      }

  pub line-room : (capacity : ℕ) → HasRoom k limit count last src old capacity
      → length mid + length (adds k (count + used) (last_or last (take used src)) x) ≤ capacity
  line-room capacity room =
      let left_over : Ran = run k limit (length mid) (count + used) (last_or last (take used src)) (drop used src) in
      let e = ap (λ (r : Ran). length r.made) to_rest in
      byte-room k limit (count + used) (last_or last (take used src)) (drop used src) mid x capacity some_left first_is under_limit good
      (omega (arith, e, length-append (take used src) left_over.made, room, reached, front))

-- where a byte isn't the one at which a piece stops, the piece has some
pub not_at_stop : (stop used most : ℕ) (src : List ℕ) → 0 < length src → 0 < most → slice_index src 0 ≢ stop →
    (used < length src → used < most → slice_index src used ≡ stop) → 0 < used
not_at_stop stop zero most src some room other at = absurd (other (at some room))
not_at_stop stop (suc used) most src some room other at = omega arith

-- a byte whose digit value is known is good
pub record IsDigit (x value_of : ℕ) : Type 0 where
  pub value : value_of ≡ hex_value x
  pub good : is_bad_byte kind.HexIn x ≡ false

pub digit-cases : (x v : ℕ) → Some v ≡ (if is_hex x then Some (hex_value x) else None) → IsDigit x v
digit-cases x v e = go (is_hex x) refl e
  where
    go : (b : Bool) → is_hex x ≡ b → Some v ≡ (if b then Some (hex_value x) else None) → IsDigit x v
    go true h e = record { value = (cc); good = ap not h }
    go false h e = absurd (cc)

-- hex-out uses a byte for each two places below the limit, begun ones too
run-hex_out : (limit n count : ℕ) (last : Option ℕ) (src : List ℕ) (used : ℕ) → used ≤ length src → n + 2 * used ≤ limit + 1 →
    run kind.HexOut limit n count last src
    ≡ joined (record { used = used; made = hex_out (take used src) })
    (run kind.HexOut limit (n + 2 * used) (count + used) (last_or last (take used src)) (drop used src))
run-hex_out limit n count last src zero there room =
    let a : n ≡ n + 2 * 0 = omega arith in
    let b : count ≡ count + 0 = omega arith in
    let r : Ran = run kind.HexOut limit (n + 2 * 0) (count + 0) last src in
    let z : r.used ≡ 0 + r.used = omega arith in
    (λ i. run kind.HexOut limit (a i) (b i) last src) ∙ (λ i. record { used = z i; made = r.made })
run-hex_out limit n count last [] (suc used) there room = absurd (omega arith)
run-hex_out limit n count last (x ∷ src) (suc used) there room =
    let ih = run-hex_out limit (n + 2) (count + 1) (Some x) src used (omega arith) (omega (arith, room)) in
    let a : n + 2 + 2 * used ≡ n + 2 * suc used = omega arith in
    let b : count + 1 + used ≡ count + suc used = omega arith in
    let two : List ℕ = hex_digit (x / 16) ∷ hex_digit (x % 16) ∷ [] in
    let r : Ran = run kind.HexOut limit (n + 2 * suc used) (count + suc used) (last_or (Some x) (take used src)) (drop used src) in
    let c : 1 + (used + r.used) ≡ suc used + r.used = omega arith in
    run-byte kind.HexOut limit n count last x src (omega (arith, room)) refl
    ∙ (λ i. joined (record { used = 1; made = two }) (ih i))
    ∙ (λ i. joined (record { used = 1; made = two })
    (joined (record { used = used; made = hex_out (take used src) })
    (run kind.HexOut limit (a i) (b i) (last_or (Some x) (take used src)) (drop used src))))
    ∙ (λ i. record { used = c i; made = hex_digit (x / 16) ∷ hex_digit (x % 16) ∷ (hex_out (take used src) ++ r.made) })

pub length-hex_out : (xs : List ℕ) → length (hex_out xs) ≡ 2 * length xs
length-hex_out [] = refl
length-hex_out (x ∷ xs) = let e = length-hex_out xs in omega (arith, e)

pub hex_out-part : (limit count : ℕ) (last : Option ℕ) (src old new : List ℕ) (used : ℕ) → used ≤ length src →
    length old + 2 * used ≤ limit + 1 → 0 < used →
    new ≡ old ++ hex_out (take used src) → AppendsPart kind.HexOut limit count last src old new used
hex_out-part limit count last src old new used within below some filled = record {
  made = hex_out (take used src);
  filled = filled;
  within = within;
  goes =
      run-hex_out limit (length old) count last src used within below
      ∙ (let n : length old + 2 * used ≡ length new =
      (let a = ap length filled in let b = length-hex_out (take used src) in let d = length-take-le used src within in
      omega (arith, a, b, d, length-append old (hex_out (take used src)))) in
      λ i. joined (record { used = used; made = hex_out (take used src) })
      (run kind.HexOut limit (n i) (count + used) (last_or last (take used src)) (drop used src)));
  stops = λ none. absurd (omega (arith, none, some));
}

pub hex_out-room : (limit count : ℕ) (last : Option ℕ) (src old : List ℕ) (used capacity : ℕ) → used ≤ length src →
    length old + 2 * used ≤ limit + 1 →
    HasRoom kind.HexOut limit count last src old capacity → length old + 2 * used ≤ capacity
hex_out-room limit count last src old used capacity within below room =
    let rest : Ran = run kind.HexOut limit (length old + 2 * used) (count + used) (last_or last (take used src)) (drop used src) in
    let e = ap (λ (r : Ran). length r.made) (run-hex_out limit (length old) count last src used within below) in
    let t = length-take-le used src within in
    let h = length-hex_out (take used src) in
    omega (arith, e, length-append (hex_out (take used src)) rest.made, t, h, room)

-- one byte more
pub hex_out-more : (xs : List ℕ) (i : ℕ) → i < length xs →
    hex_out (take (i + 1) xs) ≡ hex_out (take i xs) ++ (hex_digit (slice_index xs i / 16) ∷ hex_digit (slice_index xs i % 16) ∷ [])
hex_out-more xs i lt = ap hex_out (take_more xs i 0 lt) ∙ hex_out-append (take i xs) (slice_index xs i ∷ [])
