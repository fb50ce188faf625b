-- Running filters: what they know after more bytes, and what they hold.
use Rattle.std.proofs.Common.{◌≡◌, ℕ, ◌+◌, ◌%◌, ◌≤◌, Bool, true, false, not, ◌==◌, ◌&&◌, ◌||◌, if◌then◌else◌, List, [], ◌∷◌, ◌++◌, length}
use Rattle.std.proofs.Common.{take, drop, Option, Some, None, is_none, refl, sym, ◌∙◌, ap, arith, length-append}
use Rattle.std.specs.Prelude.{is_some, bytes_eq}
use Rattle.std.specs.List.{last_or}
use Rattle.std.proofs.lemmas.List.{append-nil, length-take-le, drop-append-le}
use Rattle.std.proofs.lemmas.Slice.Eq.{bytes_eq-Decides}
use Rattle.std.proofs.Math.Seq.{take-add}
use Rattle.ev_types.specs.declared.filter.FilterKind.TheVariants as kind
use Rattle.filter_model.specs.Filter.{Filter, filter_of, holds, CR, to_lf, last_cr, hex_in, not_hex_from, or_else, odd_end}
use Rattle.filter_model.specs.FilterLaws.{last_of}
use Rattle.filter_model.specs.FilterRun.{is_cr}
use Rattle.filter_model.specs.Running.{RunningIsKnown}
use Rattle.filter_model.proofs.ListLemmas.{last_or-append}
use Rattle.filter_model.proofs.FilterLemmas.{cr_of, last_cr-last}

pub running_is_known : RunningIsKnown
running_is_known name f xs zs m n over done over' done' x m_in n_in a b = record {
  count = length-take-le m xs m_in ∙ sym a.used ∙ b.used ∙ sym (length-take-le n zs n_in);
  begun = let k = a.begun in let l = length-take-le m xs m_in in omega arith;
  last = sym a.last ∙ b.last;
  left_good = a.good;
  right_good = b.good;
}

-- the last byte after n more bytes: of those, or else the one before
pub last-used : (since used n : ℕ) (xs : List ℕ) → since ≤ used → used ≤ length xs →
    last_of (drop since (take (used + n) xs)) ≡ last_or (last_of (drop since (take used xs))) (take n (drop used xs))
last-used since used n xs begun there =
    let le : since ≤ length (take used xs) = let k = length-take-le used xs there in omega arith in
    ap (λ z. last_of (drop since z)) (take-add used n xs)
    ∙ ap last_of (drop-append-le since (take used xs) (take n (drop used xs)) le)
    ∙ last_or-append None (drop since (take used xs)) (take n (drop used xs))

same_bytes : (xs ys : List ℕ) → xs ≡ ys → bytes_eq xs ys ≡ true
same_bytes xs ys e = (bytes_eq-Decides xs ys).1 e

-- a filter whose end adds nothing and is never bad holds nothing
pub holds-none : (f : Filter) (xs : List ℕ) → f.at_end xs ≡ f.before xs → f.bad_at_end xs ≡ None → holds f xs ≡ false
holds-none f xs same good =
    ap (λ b. not b || (is_some (f.bad_at_end xs) && is_none (f.bad xs))) (same_bytes (f.at_end xs) (f.before xs) same)
    ∙ ap (λ o. is_some o && is_none (f.bad xs)) good

longer_differs : (xs : List ℕ) (z : ℕ) (zs : List ℕ) → bytes_eq (xs ++ (z ∷ zs)) xs ≡ false
longer_differs xs z zs = by_test (bytes_eq (xs ++ (z ∷ zs)) xs) refl
  where
    by_test : (b : Bool) → bytes_eq (xs ++ (z ∷ zs)) xs ≡ b → bytes_eq (xs ++ (z ∷ zs)) xs ≡ false
    by_test true e = absurd (let k = ap length ((bytes_eq-Decides (xs ++ (z ∷ zs)) xs).0 e) in omega (arith, length-append xs (z ∷ zs)))
    by_test false e = e

-- to-lf holds a last CR
pub holds-to_lf : (xs : List ℕ) → holds (filter_of kind.ToLf) xs ≡ is_cr (last_of xs)
holds-to_lf xs = by_last (last_of xs) (last_cr-last xs)
  where
    same : (ys : List ℕ) → last_cr xs ≡ [] → (not (bytes_eq (ys ++ last_cr xs) ys) || false) ≡ false
    same ys e = ap (λ b. not b || false) (same_bytes (ys ++ last_cr xs) ys (ap (λ z. ys ++ z) e ∙ append-nil ys))

    by_cr : (x : ℕ) (b : Bool) → last_cr xs ≡ (if b then x ∷ [] else []) → (not (bytes_eq (to_lf xs ++ last_cr xs) (to_lf xs)) || false) ≡ b
    by_cr x true e = ap (λ b. not b || false) (ap (λ z. bytes_eq (to_lf xs ++ z) (to_lf xs)) e ∙ longer_differs (to_lf xs) x [])
    by_cr x false e = same (to_lf xs) e

    by_last : (o : Option ℕ) → last_cr xs ≡ cr_of o → (not (bytes_eq (to_lf xs ++ last_cr xs) (to_lf xs)) || false) ≡ is_cr o
    by_last None e = same (to_lf xs) e
    by_last (Some x) e = by_cr x (x == CR) e

-- of good digits one is held where their count is odd
pub holds-hex_in : (xs : List ℕ) → not_hex_from 0 xs ≡ None → holds (filter_of kind.HexIn) xs ≡ (length xs % 2 == 1)
holds-hex_in xs good =
    ap (λ b. not b || (is_some (or_else (not_hex_from 0 xs) (odd_end xs)) && is_none (not_hex_from 0 xs)))
    (same_bytes (hex_in xs) (hex_in xs) refl)
    ∙ ap (λ o. is_some (or_else o (odd_end xs)) && is_none o) good
    ∙ by_test (length xs % 2 == 1)
  where
    by_test : (b : Bool) → (is_some (if b then Some (length xs) else None) && true) ≡ b
    by_test true = refl
    by_test false = refl
