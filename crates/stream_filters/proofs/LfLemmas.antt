-- What to-lf makes of lists of bytes, flag by flag and piece by piece.
use Rattle.std.proofs.Common.{◌≡◌, ℕ, zero, suc, ◌+◌, ◌*◌, ◌/◌, ◌%◌, ◌^◌, ◌<◌, ◌≤◌, Bool, true, false, ◌&&◌, ◌==◌, cond, if◌then◌else◌}
use Rattle.std.proofs.Common.{List, [], ◌∷◌, ◌++◌, length, take, drop, map, refl, sym, ◌∙◌, ap, subst, arith, eqb, append_assoc}
use Rattle.std.specs.Prelude.{bit_and, replicate}
use Rattle.std.specs.Simd.Lanes.{mask_l, zip2, top, chunk, pick_l}
use Rattle.std.proofs.lemmas.List.{length-take-le, length-drop, drop-drop}
use Rattle.std.proofs.lemmas.Simd.{mask_l-lt, length-zip2, length-chunk}
use Rattle.filter_model.specs.Filter.{CR, LF, to_lf}
use Rattle.stream_filters.specs.Lf.{is_dropped_cr, without_marked}
use Rattle.stream_filters.proofs.CrlfLemmas.{spelled, halves}

-- the flag of one lane
flag : (b c : Bool) → top 7 (bit_and (cond b 255 0) (cond c 255 0)) ≡ (b && c)
flag true true = refl
flag true false = refl
flag false true = refl
flag false false = refl

-- the mask of the lanes
pub lf-flags : (n : ℕ) (bytes behind : List ℕ) → length bytes ≡ n → length behind ≡ n →
    map (top 7) (zip2 bit_and (zip2 (λ a b. cond (eqb a b) 255 0) bytes (replicate n CR))
    (zip2 (λ a b. cond (eqb a b) 255 0) behind (replicate n LF)))
    ≡ zip2 is_dropped_cr bytes behind
lf-flags n [] [] e f = refl
lf-flags n [] (y ∷ behind) e f = absurd (omega (arith, e, f))
lf-flags n (x ∷ bytes) [] e f = absurd (omega (arith, e, f))
lf-flags zero (x ∷ bytes) (y ∷ behind) e f = absurd (omega (arith, e, f))
lf-flags (suc n) (x ∷ bytes) (y ∷ behind) e f =
    let ih = lf-flags n bytes behind (omega (arith, e)) (omega (arith, f)) in
    let one = flag (eqb x CR) (eqb y LF) in
    λ i. one i ∷ ih i

-- each byte but those that have a flag
abbrev unflagged : List Bool → List ℕ → List ℕ
unflagged [] xs = []
unflagged (b ∷ bs) [] = []
unflagged (b ∷ bs) (x ∷ xs) = (if b then [] else x ∷ []) ++ unflagged bs xs

without_marked-unflagged : (bs : List Bool) (xs : List ℕ) → length bs ≡ length xs → without_marked (mask_l bs) xs ≡ unflagged bs xs
without_marked-unflagged [] [] e = refl
without_marked-unflagged [] (x ∷ xs) e = absurd (omega (arith, e))
without_marked-unflagged (b ∷ bs) [] e = absurd (omega (arith, e))
without_marked-unflagged (true ∷ bs) (x ∷ xs) e =
    let odd : (1 + 2 * mask_l bs) % 2 ≡ 1 = omega arith in
    let half : (1 + 2 * mask_l bs) / 2 ≡ mask_l bs = omega arith in
    let ih = without_marked-unflagged bs xs (omega (arith, e)) in
    (λ i. (if odd i == 1 then [] else x ∷ []) ++ without_marked (half i) xs) ∙ ih
without_marked-unflagged (false ∷ bs) (x ∷ xs) e =
    let even : (0 + 2 * mask_l bs) % 2 ≡ 0 = omega arith in
    let half : (0 + 2 * mask_l bs) / 2 ≡ mask_l bs = omega arith in
    let ih = without_marked-unflagged bs xs (omega (arith, e)) in
    (λ i. (if even i == 1 then [] else x ∷ []) ++ without_marked (half i) xs) ∙ (λ i. x ∷ ih i)

unflagged-cut : (n : ℕ) (bs : List Bool) (xs : List ℕ) → length bs ≡ length xs →
    unflagged (take n bs) (take n xs) ++ unflagged (drop n bs) (drop n xs) ≡ unflagged bs xs
unflagged-cut zero bs xs e = refl
unflagged-cut (suc n) [] [] e = refl
unflagged-cut (suc n) [] (x ∷ xs) e = absurd (omega (arith, e))
unflagged-cut (suc n) (b ∷ bs) [] e = absurd (omega (arith, e))
unflagged-cut (suc n) (b ∷ bs) (x ∷ xs) e =
    append_assoc (if b then [] else x ∷ []) (unflagged (take n bs) (take n xs)) (unflagged (drop n bs) (drop n xs))
    ∙ ap (λ zs. (if b then [] else x ∷ []) ++ zs) (unflagged-cut n bs xs (omega (arith, e)))

-- with the flags of CRs that LF follows it is what to-lf makes, before what it makes of the rest
unflagged-lf : (n : ℕ) (src : List ℕ) → n < length src →
    unflagged (zip2 is_dropped_cr (take n src) (take n (drop 1 src))) (take n src) ++ to_lf (drop n src) ≡ to_lf src
unflagged-lf zero src within = refl
unflagged-lf (suc n) [] within = absurd (omega (arith, within))
unflagged-lf (suc n) (x ∷ []) within = absurd (omega (arith, within))
unflagged-lf (suc n) (x ∷ y ∷ ys) within =
    append_assoc (if is_dropped_cr x y then [] else x ∷ [])
    (unflagged (zip2 is_dropped_cr (take n (y ∷ ys)) (take n ys)) (take n (y ∷ ys))) (to_lf (drop n (y ∷ ys)))
    ∙ ap (λ zs. (if is_dropped_cr x y then [] else x ∷ []) ++ zs) (unflagged-lf n (y ∷ ys) (omega (arith, within)))

-- the high half of 16 bytes
pub high-half : (xs : List ℕ) → length xs ≡ 16 →
    take 8 (pick_l 0 (xs ++ xs) (8 ∷ 9 ∷ 10 ∷ 11 ∷ 12 ∷ 13 ∷ 14 ∷ 15 ∷ 0 ∷ 1 ∷ 2 ∷ 3 ∷ 4 ∷ 5 ∷ 6 ∷ 7 ∷ [])) ≡ drop 8 xs
high-half xs = spelled 0 (λ xs.
    take 8 (pick_l 0 (xs ++ xs) (8 ∷ 9 ∷ 10 ∷ 11 ∷ 12 ∷ 13 ∷ 14 ∷ 15 ∷ 0 ∷ 1 ∷ 2 ∷ 3 ∷ 4 ∷ 5 ∷ 6 ∷ 7 ∷ [])) ≡ drop 8 xs) 16 (λ f. refl) xs

-- 16 bytes at a place, and one behind them
module _ (src : List ℕ) (at : ℕ) (there : at + 17 ≤ length src) where
  abbrev bytes : List ℕ
  bytes = chunk at 16 src

  abbrev dropped : List Bool
  dropped = zip2 is_dropped_cr bytes (chunk (at + 1) 16 src)

  pub sixteen-long : length bytes ≡ 16
  sixteen-long = length-chunk at 16 src (omega (arith, there))

  dropped-long : length dropped ≡ 16
  dropped-long =
      let behind = length-chunk (at + 1) 16 src (omega (arith, there)) in
      length-zip2 is_dropped_cr bytes (chunk (at + 1) 16 src) (sixteen-long ∙ sym behind) ∙ sixteen-long

  pub high-bits : mask_l dropped / 256 < 256
  high-bits = let below = subst (λ n. mask_l dropped < 2 ^ n) dropped-long (mask_l-lt dropped) in omega (arith, below)

  pub sixteen-lf : (without_marked (mask_l dropped % 256) (take 8 bytes) ++ without_marked (mask_l dropped / 256) (drop 8 bytes))
      ++ to_lf (drop (at + 16) src) ≡ to_lf (drop at src)
  sixteen-lf =
      let half = halves dropped dropped-long in
      let same : length dropped ≡ length bytes = dropped-long ∙ sym sixteen-long in
      let low : length (take 8 dropped) ≡ length (take 8 bytes) =
      length-take-le 8 dropped (omega (arith, dropped-long)) ∙ sym (length-take-le 8 bytes (omega (arith, sixteen-long))) in
      let high : length (drop 8 dropped) ≡ length (drop 8 bytes) =
      omega (arith, same, length-drop 8 dropped, length-drop 8 bytes) in
      let rest : List ℕ = to_lf (drop (at + 16) src) in
      (λ i. (without_marked (half.low i) (take 8 bytes) ++ without_marked (half.high i) (drop 8 bytes)) ++ rest)
      ∙ (λ i. (without_marked-unflagged (take 8 dropped) (take 8 bytes) low i
      ++ without_marked-unflagged (drop 8 dropped) (drop 8 bytes) high i) ++ rest)
      ∙ ap (λ xs. xs ++ rest) (unflagged-cut 8 dropped bytes same)
      ∙ (λ i. unflagged (zip2 is_dropped_cr bytes (take 16 (sym (drop-drop 1 at src) i))) bytes ++ to_lf (sym (drop-drop 16 at src) i))
      ∙ unflagged-lf 16 (drop at src) (omega (arith, there, length-drop at src))
