-- How a filter ends, by the count of bytes that it used and the last of them.
use Rattle.std.proofs.Common.{◌≡◌, ℕ, Bool, true, false, not, ◌==◌, if◌then◌else◌, List, [], ◌∷◌, ◌++◌, length, Option, Some, None, is_none}
use Rattle.std.proofs.Common.{refl, sym, ◌∙◌, ap, append-nil}
use Rattle.std.proofs.lemmas.Bool.{eqb-true}
use Rattle.ev_types.specs.declared.filter.FilterKind.{FilterKind}
use Rattle.ev_types.specs.declared.filter.FilterKind.TheVariants as kind
use Rattle.filter_model.specs.Filter.{filter_of, holds, or_else, odd_end, CR, to_lf, hex_in}
use Rattle.filter_model.specs.FilterLaws.{last_of}
use Rattle.filter_model.specs.FilterRun.{is_cr, is_end_bad, holds_byte, end_adds}
use Rattle.filter_model.proofs.FilterLemmas.{cr_of, last_cr-last}
use Rattle.filter_model.proofs.RunningLemmas.{holds-none, holds-to_lf, holds-hex_in}

-- the place of a bad end is behind all bytes
pub end-place : (k : FilterKind) (xs : List ℕ) → (filter_of k).bad xs ≡ None →
    (filter_of k).bad_at_end xs ≡ (if is_end_bad k (length xs) then Some (length xs) else None)
end-place kind.None xs good = refl
end-place kind.ToCrlf xs good = refl
end-place kind.ToLf xs good = refl
end-place kind.HexOut xs good = refl
end-place kind.HexIn xs good = ap (λ o. or_else o (odd_end xs)) good

pub end-good : (k : FilterKind) (xs : List ℕ) → (filter_of k).bad xs ≡ None →
    is_none ((filter_of k).bad_at_end xs) ≡ not (is_end_bad k (length xs))
end-good k xs good = ap is_none (end-place k xs good) ∙ by_test (length xs) (is_end_bad k (length xs))
  where
    by_test : (n : ℕ) (b : Bool) → is_none (if b then Some n else None) ≡ not b
    by_test n true = refl
    by_test n false = refl

pub holds-byte : (k : FilterKind) (xs : List ℕ) → (filter_of k).bad xs ≡ None →
    holds (filter_of k) xs ≡ holds_byte k (length xs) (last_of xs)
holds-byte kind.None xs good = holds-none (filter_of kind.None) xs refl refl
holds-byte kind.ToCrlf xs good = holds-none (filter_of kind.ToCrlf) xs refl refl
holds-byte kind.ToLf xs good = holds-to_lf xs
holds-byte kind.HexOut xs good = holds-none (filter_of kind.HexOut) xs refl refl
holds-byte kind.HexIn xs good = holds-hex_in xs good

held_cr : (last : Option ℕ) → cr_of last ≡ (if is_cr last then CR ∷ [] else [])
held_cr None = refl
held_cr (Some x) = by_cr (x == CR) refl
  where
    by_cr : (b : Bool) → (x == CR) ≡ b → (if b then x ∷ [] else []) ≡ (if b then CR ∷ [] else [])
    by_cr true e = ap (λ n. n ∷ []) (eqb-true x CR e)
    by_cr false e = refl

pub at_end-adds : (k : FilterKind) (xs : List ℕ) → (filter_of k).at_end xs ≡ (filter_of k).before xs ++ end_adds k (last_of xs)
at_end-adds kind.None xs = sym (append-nil ((filter_of kind.None).before xs))
at_end-adds kind.ToCrlf xs = sym (append-nil ((filter_of kind.ToCrlf).before xs))
at_end-adds kind.ToLf xs = ap (λ z. to_lf xs ++ z) (last_cr-last xs ∙ held_cr (last_of xs))
at_end-adds kind.HexOut xs = sym (append-nil ((filter_of kind.HexOut).before xs))
at_end-adds kind.HexIn xs = sym (append-nil (hex_in xs))
