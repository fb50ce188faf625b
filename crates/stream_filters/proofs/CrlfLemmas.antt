-- What to-crlf makes of lists of bytes, flag by flag and piece by piece.
use Rattle.std.proofs.Common.{◌≡◌, ℕ, zero, suc, ◌+◌, ◌-◌, ◌*◌, ◌/◌, ◌%◌, ◌^◌, ◌<◌, ◌≤◌, Bool, true, false, not}
use Rattle.std.proofs.Common.{◌&&◌, ◌==◌, cond, if◌then◌else◌}
use Rattle.std.proofs.Common.{List, [], ◌∷◌, ◌++◌, length, take, drop, get_or, map, Some, refl, sym, ◌∙◌, ap, subst, arith, eqb}
use Rattle.std.proofs.Common.{append_assoc, length-append}
use Rattle.std.specs.Prelude.{min, slice_index, bit_and, replicate}
use Rattle.std.specs.List.{last_or, range_with_len}
use Rattle.std.specs.Simd.Lanes.{mask_l, zip2, top, chunk, pick_l}
use Rattle.std.proofs.lemmas.Bool.{eqb-true}
use Rattle.std.proofs.lemmas.List.{ext_get_or, length-take-le, length-drop, drop_more}
use Rattle.std.proofs.lemmas.List.FromFn.{length-map-range_with_len, get_or-map-range_with_len}
use Rattle.std.proofs.lemmas.Simd.{mask_l-lt, length-zip2, length-chunk}
use Rattle.std.proofs.Math.Seq.{take-add}
use Rattle.filter_model.specs.Filter.{CR, LF, crlf_after}
use Rattle.filter_model.proofs.FilterLemmas.{crlf_after-append, byte_of}
use Rattle.stream_filters.specs.Crlf.{is_bare_end, with_crs}

-- the flag of one lane
flag : (b c : Bool) → top 7 (bit_and (cond b 255 0) (cond (not c) 255 0)) ≡ (b && not c)
flag true true = refl
flag true false = refl
flag false true = refl
flag false false = refl

-- the mask of the lanes
pub flags : (n : ℕ) (before bytes : List ℕ) → length before ≡ n → length bytes ≡ n →
    map (top 7) (zip2 bit_and (zip2 (λ a b. cond (eqb a b) 255 0) bytes (replicate n LF))
    (zip2 (λ a b. cond (not (eqb a b)) 255 0) before (replicate n CR)))
    ≡ zip2 is_bare_end before bytes
flags n [] [] e f = refl
flags n [] (x ∷ bytes) e f = absurd (omega (arith, e, f))
flags n (l ∷ before) [] e f = absurd (omega (arith, e, f))
flags zero (l ∷ before) (x ∷ bytes) e f = absurd (omega (arith, e, f))
flags (suc n) (l ∷ before) (x ∷ bytes) e f =
    let ih = flags n before bytes (omega (arith, e)) (omega (arith, f)) in
    let one = flag (eqb x LF) (eqb l CR) in
    λ i. one i ∷ ih i

-- each byte, with a CR before each that has a flag
abbrev spread : List Bool → List ℕ → List ℕ
spread [] xs = []
spread (b ∷ bs) [] = []
spread (b ∷ bs) (x ∷ xs) = (if b then CR ∷ x ∷ [] else x ∷ []) ++ spread bs xs

with_crs-spread : (bs : List Bool) (xs : List ℕ) → length bs ≡ length xs → with_crs (mask_l bs) xs ≡ spread bs xs
with_crs-spread [] [] e = refl
with_crs-spread [] (x ∷ xs) e = absurd (omega (arith, e))
with_crs-spread (b ∷ bs) [] e = absurd (omega (arith, e))
with_crs-spread (true ∷ bs) (x ∷ xs) e =
    let odd : (1 + 2 * mask_l bs) % 2 ≡ 1 = omega arith in
    let half : (1 + 2 * mask_l bs) / 2 ≡ mask_l bs = omega arith in
    let ih = with_crs-spread bs xs (omega (arith, e)) in
    (λ i. (if odd i == 1 then CR ∷ x ∷ [] else x ∷ []) ++ with_crs (half i) xs) ∙ (λ i. CR ∷ x ∷ ih i)
with_crs-spread (false ∷ bs) (x ∷ xs) e =
    let even : (0 + 2 * mask_l bs) % 2 ≡ 0 = omega arith in
    let half : (0 + 2 * mask_l bs) / 2 ≡ mask_l bs = omega arith in
    let ih = with_crs-spread bs xs (omega (arith, e)) in
    (λ i. (if even i == 1 then CR ∷ x ∷ [] else x ∷ []) ++ with_crs (half i) xs) ∙ (λ i. x ∷ ih i)

spread-cut : (n : ℕ) (bs : List Bool) (xs : List ℕ) → length bs ≡ length xs →
    spread (take n bs) (take n xs) ++ spread (drop n bs) (drop n xs) ≡ spread bs xs
spread-cut zero bs xs e = refl
spread-cut (suc n) [] [] e = refl
spread-cut (suc n) [] (x ∷ xs) e = absurd (omega (arith, e))
spread-cut (suc n) (b ∷ bs) [] e = absurd (omega (arith, e))
spread-cut (suc n) (b ∷ bs) (x ∷ xs) e =
    append_assoc (if b then CR ∷ x ∷ [] else x ∷ []) (spread (take n bs) (take n xs)) (spread (drop n bs) (drop n xs))
    ∙ ap (λ zs. (if b then CR ∷ x ∷ [] else x ∷ []) ++ zs) (spread-cut n bs xs (omega (arith, e)))

-- with the flags of bare ends it is what to-crlf makes
spread-ends : (n l : ℕ) (rest : List ℕ) →
    spread (zip2 is_bare_end (take n (l ∷ rest)) (take n rest)) (take n rest) ≡ crlf_after l (take n rest)
spread-ends zero l rest = refl
spread-ends (suc n) l [] = refl
spread-ends (suc n) l (x ∷ rest) =
    (λ i. head (x == LF) (not (l == CR)) refl i ++ spread (zip2 is_bare_end (take n (x ∷ rest)) (take n rest)) (take n rest))
    ∙ ap (λ zs. (if x == LF && not (l == CR) then CR ∷ LF ∷ [] else x ∷ []) ++ zs) (spread-ends n x rest)
  where
    head : (b c : Bool) → (x == LF) ≡ b →
        (if b && c then CR ∷ x ∷ [] else x ∷ []) ≡ (if b && c then CR ∷ LF ∷ [] else x ∷ [])
    head true true e = let is = eqb-true x LF e in λ i. CR ∷ is i ∷ []
    head true false e = refl
    head false c e = refl

-- a fact of each list of n things, from the same of n things written out
abbrev pub listed : {A : Type 0} → (ℕ → A) → ℕ → List A
listed f n = map f (range_with_len 0 n)

pub spelled : {A : Type 0} (d : A) (P : List A → Type 0) (n : ℕ) → ((f : ℕ → A) → P (listed f n)) → (xs : List A) → length xs ≡ n → P xs
spelled d P n h xs long =
    let f = λ (k : ℕ). get_or xs k d in
    let many = length-map-range_with_len f 0 n in
    subst P (ext_get_or d _ xs (many ∙ sym long) (λ i l. get_or-map-range_with_len f 0 n i i d (omega arith) (omega arith))) (h f)

-- the halves of a mask of 16 flags
pub record Halves (ms : List Bool) : Type 0 where
  pub low : mask_l ms % 256 ≡ mask_l (take 8 ms)
  pub high : mask_l ms / 256 ≡ mask_l (drop 8 ms)

pub halves : (ms : List Bool) → length ms ≡ 16 → Halves ms
halves ms long =
    let whole = spelled false (λ ms. mask_l ms ≡ mask_l (take 8 ms) + 256 * mask_l (drop 8 ms)) 16 (λ f. omega arith) ms long in
    let front = length-take-le 8 ms (omega (arith, long)) in
    let below : mask_l (take 8 ms) < 256 = subst (λ n. mask_l (take 8 ms) < 2 ^ n) front (mask_l-lt (take 8 ms)) in
    record { low = omega (arith, whole, below); high = omega (arith, whole, below) }

-- the halves of 16 bytes, each with CR behind it
pub record Shuffled (xs : List ℕ) : Type 0 where
  pub cr : get_or (xs ++ replicate 16 CR) 16 0 ≡ CR
  pub low : take 8 (pick_l 0 (xs ++ replicate 16 CR)
      (0 ∷ 1 ∷ 2 ∷ 3 ∷ 4 ∷ 5 ∷ 6 ∷ 7 ∷ 16 ∷ 16 ∷ 16 ∷ 16 ∷ 16 ∷ 16 ∷ 16 ∷ 16 ∷ [])) ≡ take 8 xs
  pub high : take 8 (pick_l 0 (xs ++ replicate 16 CR)
      (8 ∷ 9 ∷ 10 ∷ 11 ∷ 12 ∷ 13 ∷ 14 ∷ 15 ∷ 16 ∷ 16 ∷ 16 ∷ 16 ∷ 16 ∷ 16 ∷ 16 ∷ 16 ∷ []))
      ≡ drop 8 xs

pub shuffled : (xs : List ℕ) → length xs ≡ 16 → Shuffled xs
shuffled xs = spelled 0 Shuffled 16 (λ f. record { cr = refl; low = refl; high = refl }) xs

-- 16 bytes behind a place
module _ (src : List ℕ) (at : ℕ) (there : at + 17 ≤ length src) where
  abbrev bytes : List ℕ
  bytes = chunk (at + 1) 16 src

  abbrev ends : List Bool
  ends = zip2 is_bare_end (chunk at 16 src) bytes

  pub bytes-long : length bytes ≡ 16
  bytes-long = length-chunk (at + 1) 16 src (omega (arith, there))

  ends-long : length ends ≡ 16
  ends-long =
      let before = length-chunk at 16 src (omega (arith, there)) in
      length-zip2 is_bare_end (chunk at 16 src) bytes (before ∙ sym bytes-long) ∙ before

  pub high-small : mask_l ends / 256 < 256
  high-small = let below = subst (λ n. mask_l ends < 2 ^ n) ends-long (mask_l-lt ends) in omega (arith, below)

  pub sixteen : with_crs (mask_l ends % 256) (take 8 bytes) ++ with_crs (mask_l ends / 256) (drop 8 bytes)
      ≡ crlf_after (slice_index src at) bytes
  sixteen =
      let half = halves ends ends-long in
      let same : length ends ≡ length bytes = ends-long ∙ sym bytes-long in
      let low : length (take 8 ends) ≡ length (take 8 bytes) =
      length-take-le 8 ends (omega (arith, ends-long)) ∙ sym (length-take-le 8 bytes (omega (arith, bytes-long))) in
      let high : length (drop 8 ends) ≡ length (drop 8 bytes) = omega (arith, same, length-drop 8 ends, length-drop 8 bytes) in
      let more : drop at src ≡ slice_index src at ∷ drop (at + 1) src = drop_more src at 0 (omega (arith, there)) in
      (λ i. with_crs (half.low i) (take 8 bytes) ++ with_crs (half.high i) (drop 8 bytes))
      ∙ (λ i. with_crs-spread (take 8 ends) (take 8 bytes) low i ++ with_crs-spread (drop 8 ends) (drop 8 bytes) high i)
      ∙ spread-cut 8 ends bytes same
      ∙ (λ i. spread (zip2 is_bare_end (take 16 (more i)) bytes) bytes)
      ∙ spread-ends 16 (slice_index src at) (drop (at + 1) src)

-- the byte at a place is the last before those behind it
last-at : (xs : List ℕ) (x at : ℕ) → at ≤ length xs → byte_of (last_or (Some x) (take at xs)) ≡ slice_index (x ∷ xs) at
last-at xs x zero within = refl
last-at [] x (suc at) within = absurd (omega (arith, within))
last-at (y ∷ ys) x (suc at) within = last-at ys y at (omega (arith, within))

-- more bytes behind the first
pub crlf-further : (src : List ℕ) (at n : ℕ) → at < length src →
    crlf_after (slice_index src 0) (take at (drop 1 src)) ++ crlf_after (slice_index src at) (take n (drop (at + 1) src))
    ≡ crlf_after (slice_index src 0) (take (at + n) (drop 1 src))
crlf-further [] at n within = absurd (omega (arith, within))
crlf-further (x ∷ xs) at n within =
    let e : at + 1 ≡ suc at = omega arith in
    let last = last-at xs x at (omega (arith, within)) in
    (λ i. crlf_after x (take at xs) ++ crlf_after (sym last i) (take n (drop (e i) (x ∷ xs))))
    ∙ sym (crlf_after-append x (take at xs) (take n (drop at xs)))
    ∙ ap (crlf_after x) (sym (take-add at n xs))

-- some of the bytes make no more than all
pub crlf-some : (n l : ℕ) (xs : List ℕ) → length (crlf_after l (take n xs)) ≤ length (crlf_after l xs)
crlf-some zero l xs = omega arith
crlf-some (suc n) l [] = omega arith
crlf-some (suc n) l (x ∷ xs) =
    let one : List ℕ = if x == LF && not (l == CR) then CR ∷ LF ∷ [] else x ∷ [] in
    let ih = crlf-some n x xs in
    omega (arith, length-append one (crlf_after x (take n xs)), length-append one (crlf_after x xs), ih)

-- a piece from there on, the first byte of which was used before
pub record NextPiece (src piece : List ℕ) (at : ℕ) : Type 0 where
  pub sixteens : (at + (length piece - 1)) % 16 ≡ 0
  pub within : at + (length piece - 1) < length src
  pub made : crlf_after (slice_index src 0) (take at (drop 1 src)) ++ crlf_after (slice_index piece 0) (drop 1 piece)
      ≡ crlf_after (slice_index src 0) (take (at + (length piece - 1)) (drop 1 src))

pub next-piece : (src rest piece : List ℕ) (at n : ℕ) → at < length src → at % 16 ≡ 0 → length src % 16 ≡ 1 → rest ≡ drop at src →
    n ≡ min (length rest) 513 → piece ≡ take n rest → NextPiece src piece at
next-piece src rest piece at n within sixteens all behind least is =
    let long = ap length behind ∙ length-drop at src in
    let many : length piece ≡ n = ap length is ∙ length-take-le n rest (omega (arith, least)) in
    let more : drop at src ≡ slice_index src at ∷ drop (at + 1) src = drop_more src at 0 within in
    let m : n ≡ suc (length piece - 1) = omega (arith, many, least, long, within) in
    let spelled_out : piece ≡ slice_index src at ∷ take (length piece - 1) (drop (at + 1) src) =
    is ∙ (λ i. take (m i) (behind i)) ∙ (λ i. take (suc (length piece - 1)) (more i)) in
    let front : List ℕ = crlf_after (slice_index src 0) (take at (drop 1 src)) in
    record {
      sixteens = omega (arith, many, least, long, within, sixteens, all);
      within = omega (arith, many, least, long, within);
      made =
          ap (λ xs. front ++ crlf_after (slice_index xs 0) (drop 1 xs)) spelled_out
          ∙ crlf-further src at (length piece - 1) within;
    }
