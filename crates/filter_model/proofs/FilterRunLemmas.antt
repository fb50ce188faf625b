-- A filter that runs byte by byte, knowing how many bytes it used and the last of them, comes to the place at which the
-- definition says that it must stop, and makes what the definition says.
use Rattle.std.proofs.Common.{◌≡◌, ℕ, suc, ◌+◌, ◌-◌, ◌*◌, ◌%◌, ◌≤◌, Bool, true, false, not, ◌==◌, ◌&&◌, ◌||◌, if◌then◌else◌, List, [], ◌∷◌}
use Rattle.std.proofs.Common.{◌++◌, length, take, drop, Option, Some, None, refl, sym, ◌∙◌, ap, subst, arith, append_assoc, append-nil}
use Rattle.std.proofs.Common.{length-append}
use Rattle.std.specs.Prelude.{is_some, nat_le, unwrap_or}
use Rattle.std.proofs.lemmas.Bool.{eqb-true}
use Rattle.std.proofs.lemmas.List.{length-drop}
use Rattle.std.proofs.Math.Seq.{take-append_seam}
use Rattle.ev_types.specs.declared.filter.FilterKind.{FilterKind}
use Rattle.ev_types.specs.declared.filter.FilterKind.TheVariants as kind
use Rattle.filter_model.specs.Filter.{Filter, filter_of, CR, LF, crlf_after, to_lf, hex_in, hex_value, is_hex, not_hex_from}
use Rattle.filter_model.specs.FilterLaws.{last_of}
use Rattle.filter_model.specs.FilterRun.{is_bad_byte, adds, Ran, goes_on, run}
use Rattle.filter_model.specs.Stopping.{first_from}
use Rattle.filter_model.proofs.ListLemmas.{last_or-append}
use Rattle.filter_model.proofs.FilterLemmas.{byte_of, lf_after, to_crlf-append, to_lf-append, hex_out-append}
use Rattle.filter_model.proofs.HexLemmas.{held_digit, hex_in-append, not_hex_from-append, not_hex_from-stays}

-- what one byte adds

crlf_adds : (last : Option ℕ) (x count : ℕ) → crlf_after (byte_of last) (x ∷ []) ≡ adds kind.ToCrlf count last x
crlf_adds None x count = append-nil (if x == LF && true then CR ∷ LF ∷ [] else x ∷ [])
crlf_adds (Some l) x count = append-nil (if x == LF && not (l == CR) then CR ∷ LF ∷ [] else x ∷ [])

lf_adds : (last : Option ℕ) (x count : ℕ) → lf_after last (x ∷ []) ≡ adds kind.ToLf count last x
lf_adds None x count = refl
lf_adds (Some l) x count = by_cr (l == CR) refl
  where
    by_cr : (b : Bool) → (l == CR) ≡ b →
        (if b && not (x == LF) then l ∷ [] else []) ++ to_lf (x ∷ [])
        ≡ (if b && not (x == LF) then CR ∷ [] else []) ++ (if x == CR then [] else x ∷ [])
    by_cr false e = refl
    by_cr true e = ap (λ n. (if not (x == LF) then n ∷ [] else []) ++ to_lf (x ∷ [])) (eqb-true l CR e)

-- hex-in: its held digit is the last byte, where the count is odd

is_digit_last : (xs : List ℕ) (first : ℕ) (d : ℕ) → not_hex_from first xs ≡ None → length xs % 2 ≡ 1 →
    is_hex (unwrap_or (last_of xs) d) ≡ true
is_digit_last [] first d good odd = absurd (cc)
is_digit_last (x ∷ []) first d good odd = by_digit (is_hex x) good
  where
    by_digit : (b : Bool) → (if b then None else Some first) ≡ None → b ≡ true
    by_digit true h = refl
    by_digit false h = absurd (cc)
is_digit_last (x ∷ y ∷ []) first d good odd = absurd (let e : length (x ∷ y ∷ []) % 2 ≡ 0 = refl in cc)
is_digit_last (x ∷ y ∷ z ∷ zs) first d good odd =
    let g1 : not_hex_from (first + 1) (y ∷ z ∷ zs) ≡ None = rest (is_hex x) first (not_hex_from (first + 1) (y ∷ z ∷ zs)) good in
    let g2 : not_hex_from (first + 1 + 1) (z ∷ zs) ≡ None = rest (is_hex y) (first + 1) (not_hex_from (first + 1 + 1) (z ∷ zs)) g1 in
    is_digit_last (z ∷ zs) (first + 1 + 1) d g2 (omega (arith, odd))
  where
    rest : (b : Bool) (p : ℕ) (o : Option ℕ) → (if b then o else Some p) ≡ None → o ≡ None
    rest true p o h = h
    rest false p o h = absurd (cc)

held_is : (xs : List ℕ) (d : ℕ) → held_digit xs ≡ (if length xs % 2 == 1 then unwrap_or (last_of xs) d ∷ [] else [])
held_is [] d = refl
held_is (x ∷ []) d = refl
held_is (x ∷ y ∷ []) d = refl
held_is (x ∷ y ∷ z ∷ zs) d =
    let e : length (x ∷ y ∷ z ∷ zs) % 2 ≡ length (z ∷ zs) % 2 = omega arith in
    held_is (z ∷ zs) d ∙ ap (λ n. if n == 1 then unwrap_or (last_of (z ∷ zs)) d ∷ [] else []) (sym e)

good-front : (xs : List ℕ) (x : ℕ) → not_hex_from 0 (xs ++ x ∷ []) ≡ None → not_hex_from 0 xs ≡ None
good-front xs x h = go (not_hex_from 0 xs) refl
  where
    go : (o : Option ℕ) → not_hex_from 0 xs ≡ o → not_hex_from 0 xs ≡ None
    go None e = e
    go (Some place) e = absurd (let k = not_hex_from-stays 0 xs (x ∷ []) place e in cc)

hex-pair : (l x : ℕ) → is_hex l ≡ true → is_hex x ≡ true → hex_in (l ∷ x ∷ []) ≡ (16 * hex_value l + hex_value x) ∷ []
hex-pair l x a b = λ i. if a i && b i then (16 * hex_value l + hex_value x) ∷ [] else []

hex_adds : (xs : List ℕ) (x : ℕ) → not_hex_from 0 (xs ++ x ∷ []) ≡ None →
    hex_in (xs ++ x ∷ []) ≡ hex_in xs ++ adds kind.HexIn (length xs) (last_of xs) x
hex_adds xs x good =
    let front = good-front xs x good in
    let digit : is_hex x ≡ true = last_good (0 + length xs) (is_hex x) (sym (not_hex_from-append 0 xs (x ∷ []) front) ∙ good) in
    hex_in-append xs (x ∷ []) 0 front
    ∙ ap (λ z. hex_in xs ++ z) (ap (λ z. hex_in (z ++ x ∷ [])) (held_is xs 0) ∙ by_parity front digit (length xs % 2 == 1) refl)
  where
    last_good : (p : ℕ) (b : Bool) → (if b then None else Some p) ≡ None → b ≡ true
    last_good p true h = refl
    last_good p false h = absurd (cc)

    by_parity : not_hex_from 0 xs ≡ None → is_hex x ≡ true → (q : Bool) → (length xs % 2 == 1) ≡ q →
        hex_in ((if q then unwrap_or (last_of xs) 0 ∷ [] else []) ++ x ∷ [])
        ≡ (if q then (16 * hex_value (unwrap_or (last_of xs) 0) + hex_value x) ∷ [] else [])
    by_parity good digit true e = hex-pair (unwrap_or (last_of xs) 0) x (is_digit_last xs 0 0 good (eqb-true (length xs % 2) 1 e)) digit
    by_parity good digit false e = refl

-- after good bytes the next one adds this, unless it is bad
pub before-push : (k : FilterKind) (xs : List ℕ) (x : ℕ) → (filter_of k).bad (xs ++ x ∷ []) ≡ None →
    (filter_of k).before (xs ++ x ∷ []) ≡ (filter_of k).before xs ++ adds k (length xs) (last_of xs) x
before-push kind.None xs x good = refl
before-push kind.ToCrlf xs x good = to_crlf-append xs (x ∷ []) ∙ ap (λ z. crlf_after 0 xs ++ z) (crlf_adds (last_of xs) x (length xs))
before-push kind.ToLf xs x good = to_lf-append xs (x ∷ []) ∙ ap (λ z. to_lf xs ++ z) (lf_adds (last_of xs) x (length xs))
before-push kind.HexOut xs x good = hex_out-append xs (x ∷ [])
before-push kind.HexIn xs x good = hex_adds xs x good

-- after good bytes the next one is bad so
pub bad-push : (k : FilterKind) (xs : List ℕ) (x : ℕ) → (filter_of k).bad xs ≡ None →
    is_some ((filter_of k).bad (xs ++ x ∷ [])) ≡ is_bad_byte k x
bad-push kind.None xs x good = refl
bad-push kind.ToCrlf xs x good = refl
bad-push kind.ToLf xs x good = refl
bad-push kind.HexOut xs x good = refl
bad-push kind.HexIn xs x good = ap is_some (not_hex_from-append 0 xs (x ∷ []) good) ∙ one (0 + length xs) (is_hex x)
  where
    one : (p : ℕ) (b : Bool) → is_some (if b then None else Some p) ≡ not b
    one p true = refl
    one p false = refl

-- a run uses at most what it is given
pub run-within : (k : FilterKind) (limit n count : ℕ) (last : Option ℕ) (src : List ℕ) → (run k limit n count last src).used ≤ length src
run-within k limit n count last [] = omega arith
run-within k limit n count last (x ∷ src) =
    go (run-within k limit (n + length (adds k count last x)) (count + 1) (Some x) src) (nat_le limit n || is_bad_byte k x)
  where
    go : (run k limit (n + length (adds k count last x)) (count + 1) (Some x) src).used ≤ length src → (b : Bool) →
        (goes_on b (adds k count last x) (run k limit (n + length (adds k count last x)) (count + 1) (Some x) src)).used ≤ length (x ∷ src)
    go h true = omega arith
    go h false = omega arith

last-push : (xs : List ℕ) (x : ℕ) → last_of (xs ++ x ∷ []) ≡ Some x
last-push xs x = last_or-append None xs (x ∷ [])

none_where : (o : Option ℕ) → is_some o ≡ false → o ≡ None
none_where None h = refl
none_where (Some x) h = absurd (cc)

or_right : (a b : Bool) → (a || b) ≡ false → b ≡ false
or_right true b h = absurd (cc)
or_right false b h = h

front : (xs src : List ℕ) (x : ℕ) → take (length xs + 1) (xs ++ x ∷ src) ≡ xs ++ x ∷ []
front xs src x =
    let a : (xs ++ x ∷ []) ++ src ≡ xs ++ x ∷ src = append_assoc xs (x ∷ []) src in
    let b : length (xs ++ x ∷ []) ≡ length xs + 1 = length-append xs (x ∷ []) in
    (λ i. take (sym b i) (sym a i)) ∙ take-append_seam (xs ++ x ∷ []) src

module _ (k : FilterKind) where
  abbrev f : Filter
  f = filter_of k

  -- A run over src, behind the bytes xs that were used and with others behind it, comes to where the definition stops. Of what
  -- was made, `gone` bytes have left the target, which holds `others` more.
  pub record Runs (stop : ℕ → Bool) (limit others gone : ℕ) (xs src rest : List ℕ) (ran : Ran) : Type 0 where
    pub used : first_from stop (length xs) (length src) ≡ length xs + ran.used
    pub made : (filter_of k).before (take (length xs + ran.used) (xs ++ (src ++ rest))) ≡ (filter_of k).before xs ++ ran.made
    pub good : (filter_of k).bad (take (length xs + ran.used) (xs ++ (src ++ rest))) ≡ None

  -- the test that tells where to stop looks at the target and at the next byte
  abbrev pub LooksAt : (ℕ → Bool) → ℕ → ℕ → ℕ → List ℕ → Type 0
  LooksAt stop limit others gone all =
      (n : ℕ) → stop n ≡ (nat_le limit (length (drop gone ((filter_of k).before (take n all))) + others) || is_some
      ((filter_of k).bad (take (n + 1) all)))

  stays : (xs all : List ℕ) → take (length xs + 0) (xs ++ all) ≡ xs
  stays xs all = (let a : length xs + 0 ≡ length xs = omega arith in ap (λ n. take n (xs ++ all)) a) ∙ take-append_seam xs all

  abbrev RunsOver : (ℕ → Bool) → ℕ → ℕ → ℕ → List ℕ → List ℕ → List ℕ → Type 0
  RunsOver stop limit others gone xs src rest =
      Runs stop limit others gone xs src rest (run k limit (length ((filter_of k).before xs) - gone + others) (length xs) (last_of xs) src)

  pub run-is : (stop : ℕ → Bool) (limit others gone : ℕ) (xs src rest : List ℕ) → LooksAt stop limit others gone (xs ++ (src ++ rest)) →
      (filter_of k).bad xs ≡ None → gone ≤ length ((filter_of k).before xs) → RunsOver stop limit others gone xs src rest
  run-is stop limit others gone xs [] rest looks good left = record {
    used = (let a : length xs ≡ length xs + 0 = omega arith in a);
    made = ap f.before (stays xs rest) ∙ sym (append-nil (f.before xs));
    good = ap f.bad (stays xs rest) ∙ good;
  }
  run-is stop limit others gone xs (x ∷ src) rest looks good left =
      go (λ again more_good within. run-is stop limit others gone (xs
      ++ x ∷ []) src rest again more_good within) (nat_le limit (length (f.before xs) - gone + others) || is_bad_byte k x) refl
    where
      out : List ℕ
      out = adds k (length xs) (last_of xs) x

      more : Ran
      more = run k limit ((length ((filter_of k).before xs) - gone + others) + length (adds k (length xs) (last_of xs) x))
          (length xs + 1) (Some x) src

      all : (xs ++ x ∷ []) ++ (src ++ rest) ≡ xs ++ (x ∷ (src ++ rest))
      all = append_assoc xs (x ∷ []) (src ++ rest)

      looked : stop (length xs) ≡ (nat_le limit (length ((filter_of k).before xs) - gone + others) || is_bad_byte k x)
      looked =
          let a = ap (λ z. length (drop gone (f.before z))) (take-append_seam xs (x ∷ (src ++ rest))) ∙ length-drop gone (f.before xs) in
          let b = ap (λ z. is_some (f.bad z)) (front xs (src ++ rest) x) ∙ bad-push k xs x good in
          looks (length xs) ∙ (λ i. nat_le limit (a i + others) || b i)

      Next : Type 0
      Next = LooksAt stop limit others gone ((xs ++ x ∷ []) ++ (src ++ rest)) → (filter_of k).bad (xs ++ x ∷ []) ≡ None →
          gone ≤ length ((filter_of k).before (xs ++ x ∷ [])) → RunsOver stop limit others gone (xs ++ x ∷ []) src rest

      goes : Next → (nat_le limit (length ((filter_of k).before xs) - gone + others) || is_bad_byte k x) ≡ false →
          Runs stop limit others gone xs (x ∷ src) rest (record { used = suc more.used; made = out ++ more.made })
      goes next e =
          let next_good : f.bad (xs ++ x ∷ []) ≡ None =
          none_where (f.bad (xs ++ x ∷ [])) (bad-push k xs x good
          ∙ or_right (nat_le limit (length (f.before xs) - gone + others)) (is_bad_byte k x) e) in
          let grew : f.before (xs ++ x ∷ []) ≡ f.before xs ++ out = before-push k xs x next_good in
          let longer : length (f.before (xs ++ x ∷ [])) ≡ length (f.before xs) + length out = ap length grew
          ∙ length-append (f.before xs) out in
          let one : length (xs ++ x ∷ []) ≡ length xs + 1 = length-append xs (x ∷ []) in
          let ih = next (subst (LooksAt stop limit others gone) (sym all) looks) next_good (omega (arith, longer, left)) in
          let n : length (f.before (xs ++ x ∷ [])) - gone + others ≡ (length (f.before xs) - gone + others) + length out =
          omega (arith, longer, left) in
          let same : run k limit (length (f.before (xs ++ x ∷ [])) - gone + others) (length (xs ++ x ∷ [])) (last_of (xs ++ x ∷ [])) src
          ≡ more =
          (let l = last-push xs x in λ i. run k limit (n i) (one i) (l i) src) in
          let used : length (xs ++ x ∷ []) + more.used ≡ length xs + suc more.used = omega (arith, one) in
          record {
            used =
                ap (λ b. if b then length xs else first_from stop (length xs + 1) (length src)) (looked ∙ e)
                ∙ (λ i. first_from stop (sym one i) (length src))
                ∙ ih.used ∙ ap (λ (z : Ran). length (xs ++ x ∷ []) + z.used) same ∙ used;
            made =
                (λ i. f.before (take (sym used i) (sym all i)))
                ∙ ap (λ (z : Ran). f.before (take (length (xs ++ x ∷ []) + z.used) ((xs ++ x ∷ []) ++ (src ++ rest)))) (sym same)
                ∙ ih.made ∙ ap (λ (z : Ran). f.before (xs ++ x ∷ []) ++ z.made) same ∙ ap (λ z. z ++ more.made) grew
                ∙ append_assoc (f.before xs) out more.made;
            good =
                (λ i. f.bad (take (sym used i) (sym all i)))
                ∙ ap (λ (z : Ran). f.bad (take (length (xs ++ x ∷ []) + z.used) ((xs ++ x ∷ []) ++ (src ++ rest)))) (sym same)
                ∙ ih.good;
          }

      go : Next → (b : Bool) → (nat_le limit (length ((filter_of k).before xs) - gone + others) || is_bad_byte k x) ≡ b →
          Runs stop limit others gone xs (x ∷ src) rest (goes_on b out more)
      go next true e = record {
        used = ap (λ b. if b then length xs else first_from stop (length xs + 1) (length src)) (looked ∙ e)
            ∙ (let a : length xs ≡ length xs + 0 = omega arith in a);
        made = ap f.before (stays xs (x ∷ (src ++ rest))) ∙ sym (append-nil (f.before xs));
        good = ap f.bad (stays xs (x ∷ (src ++ rest))) ∙ good;
      }
      go next false e = goes next e
