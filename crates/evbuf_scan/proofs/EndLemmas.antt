-- What of some bytes decides whether a line end stands at their front, and how long it is.
use Rattle.std.proofs.Common.{◌≡◌, ◌<◌, ◌≤◌, ◌+◌, ℕ, zero, suc, Bool, true, false, cond, eqb, ltb, ◌||◌, ◌&&◌, List, [], ◌∷◌, ◌++◌, length}
use Rattle.std.proofs.Common.{take, drop, refl, sym, ap, ◌∙◌, arith, rules, tests}
use Rattle.evbuf_scan.specs.declared.eol.Eol.{Eol}
use Rattle.evbuf_scan.specs.declared.eol.Eol.TheVariants.{Any, Crlf, CrlfStrict, Lf, Nul}
use Rattle.evbuf_scan.specs.Ends.{is_cr_or_lf, run_length, end_length, is_bounded, is_end}
use Rattle.evbuf_scan.proofs.PlaceLemmas.{Reads}

above_zero : (n : ℕ) → ltb 0 (n + 1) ≡ true
above_zero n = search (rules, tests)

-- a run begins with its first byte
is_end-any : (a : ℕ) (w : List ℕ) → is_end Any (a ∷ w) ≡ is_cr_or_lf a
is_end-any a w = elim (is_cr_or_lf a) as (λ v. ltb 0 (cond v (run_length w + 1) 0) ≡ v) [ true ↦ above_zero (run_length w) | false ↦ refl ]

is_end-settled : (style : Eol) (w zs : List ℕ) → 2 ≤ length w → is_end style (w ++ zs) ≡ is_end style w
is_end-settled style [] zs two = absurd (omega arith)
is_end-settled style (a ∷ []) zs two = absurd (omega arith)
is_end-settled Any (a ∷ b ∷ w) zs two = is_end-any a (b ∷ w ++ zs) ∙ sym (is_end-any a (b ∷ w))
is_end-settled Crlf (a ∷ b ∷ w) zs two = refl
is_end-settled CrlfStrict (a ∷ b ∷ w) zs two = refl
is_end-settled Lf (a ∷ b ∷ w) zs two = refl
is_end-settled Nul (a ∷ b ∷ w) zs two = refl

-- where LF ends a line, an LF that comes behind a CR makes no difference to that
lf_stays : (cr lf more : Bool) → ltb 0 (cond (cr && false) 2 (cond lf 1 0)) ≡ true → ltb 0 (cond (cr && more) 2 (cond lf 1 0)) ≡ true
lf_stays true true true h = refl
lf_stays true true false h = refl
lf_stays true false true h = refl
lf_stays true false false h = h
lf_stays false lf more h = h

never_strict : (cr : Bool) → ltb 0 (cond (cr && false) 2 0) ≡ false
never_strict true = refl
never_strict false = refl

is_end-grows : (style : Eol) (w zs : List ℕ) → is_end style w ≡ true → is_end style (w ++ zs) ≡ true
is_end-grows Any [] zs h = cc
is_end-grows Crlf [] zs h = cc
is_end-grows CrlfStrict [] zs h = cc
is_end-grows Lf [] zs h = cc
is_end-grows Nul [] zs h = cc
is_end-grows Any (a ∷ w) zs h = is_end-any a (w ++ zs) ∙ sym (is_end-any a w) ∙ h
is_end-grows Crlf (a ∷ []) [] h = h
is_end-grows Crlf (a ∷ []) (z ∷ zs) h = lf_stays (eqb a 13) (eqb a 10 && true) (eqb z 10 && true) h
is_end-grows CrlfStrict (a ∷ []) zs h = let no = never_strict (eqb a 13) in cc
is_end-grows Lf (a ∷ []) zs h = h
is_end-grows Nul (a ∷ []) zs h = h
is_end-grows style (a ∷ b ∷ w) zs h = is_end-settled style (a ∷ b ∷ w) zs (omega arith) ∙ h

is_end-needs : (style : Eol) (w : List ℕ) → is_end style w ≡ true → 2 ≤ length w + 1
is_end-needs Any [] h = cc
is_end-needs Crlf [] h = cc
is_end-needs CrlfStrict [] h = cc
is_end-needs Lf [] h = cc
is_end-needs Nul [] h = cc
is_end-needs style (a ∷ w) h = omega arith

-- two bytes decide
pub Reads-is_end : (style : Eol) → Reads (is_end style) 2
Reads-is_end style = record {
  settled = is_end-settled style;
  grows = is_end-grows style;
  needs = is_end-needs style;
}

pub run_length-within : (w : List ℕ) → run_length w ≤ length w
run_length-within [] = omega arith
run_length-within (b ∷ w) =
    elim (is_cr_or_lf b) as (λ v. cond v (run_length w + 1) 0 ≤ length (b ∷ w)) [
      | true ↦ omega (arith, run_length-within w)
      | false
          ↦ omega arith
    ]

-- a run that ends before so many bytes
pub run_length-take : (n : ℕ) (xs : List ℕ) → run_length (take n xs) < n → run_length xs ≡ run_length (take n xs)
run_length-take zero xs lt = absurd (omega arith)
run_length-take (suc n) [] lt = refl
run_length-take (suc n) (b ∷ xs) lt =
    elim (is_cr_or_lf b) as (λ v. cond v (run_length (take n xs) + 1) 0 < suc n → cond v (run_length xs + 1) 0 ≡ cond v
    (run_length (take n xs) + 1) 0) [
      | true ↦ λ below. ap (λ k. k + 1) (run_length-take n xs (omega arith))
      | false ↦ λ below. refl
    ] lt

-- a run that so many bytes don't end
pub run_length-drop : (n : ℕ) (xs : List ℕ) → n ≤ run_length (take n xs) → run_length xs ≡ n + run_length (drop n xs)
run_length-drop zero xs full = omega arith
run_length-drop (suc n) [] full = absurd (omega arith)
run_length-drop (suc n) (b ∷ xs) full =
    elim (is_cr_or_lf b) as (λ v. suc n ≤ cond v (run_length (take n xs) + 1) 0 → cond v (run_length xs + 1) 0 ≡ suc n + run_length
    (drop n xs)) [
      | true ↦ λ filled. omega (arith, run_length-drop n xs (omega arith))
      | false ↦ λ filled. absurd (omega arith)
    ] full

-- two bytes tell how long an end is that is no run
pub end_length-take : (style : Eol) (xs : List ℕ) → is_bounded style ≡ true → end_length style (take 2 xs) ≡ end_length style xs
end_length-take Any xs bounded = cc
end_length-take style [] bounded = refl
end_length-take style (a ∷ []) bounded = refl
end_length-take Crlf (a ∷ b ∷ xs) bounded = refl
end_length-take CrlfStrict (a ∷ b ∷ xs) bounded = refl
end_length-take Lf (a ∷ b ∷ xs) bounded = refl
end_length-take Nul (a ∷ b ∷ xs) bounded = refl

one_at_most : (cr lf : Bool) → cond (cr && false) 2 (cond lf 1 0) ≤ 1
one_at_most true true = omega arith
one_at_most true false = omega arith
one_at_most false true = omega arith
one_at_most false false = omega arith

two_at_most : (cr lf : Bool) → cond cr 2 (cond lf 1 0) ≤ 2
two_at_most true lf = omega arith
two_at_most false true = omega arith
two_at_most false false = omega arith

-- an end stands within the bytes
pub end_length-within : (style : Eol) (xs : List ℕ) → end_length style xs ≤ length xs
end_length-within Any xs = run_length-within xs
end_length-within style [] = omega arith
end_length-within Crlf (a ∷ []) = one_at_most (eqb a 13) (eqb a 10 && true)
end_length-within CrlfStrict (a ∷ []) = one_at_most (eqb a 13) false
end_length-within Lf (a ∷ []) = one_at_most false (eqb a 10 && true)
end_length-within Nul (a ∷ []) = one_at_most false (eqb a 0 && true)
end_length-within Crlf (a ∷ b ∷ xs) = let few = two_at_most (eqb a 13 && (eqb b 10 && true)) (eqb a 10 && true) in omega arith
end_length-within CrlfStrict (a ∷ b ∷ xs) = let few = two_at_most (eqb a 13 && (eqb b 10 && true)) false in omega arith
end_length-within Lf (a ∷ b ∷ xs) = let few = two_at_most false (eqb a 10 && true) in omega arith
end_length-within Nul (a ∷ b ∷ xs) = let few = two_at_most false (eqb a 0 && true) in omega arith
