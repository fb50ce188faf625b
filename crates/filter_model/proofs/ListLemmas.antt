-- Beginnings of lists and last bytes.
use Rattle.std.proofs.Common.{◌≡◌, ℕ, List, [], ◌∷◌, ◌++◌, length, take, drop, Option, Some, refl, sym, ◌∙◌, ap, append_assoc}
use Rattle.std.proofs.Math.Seq.{take-append_seam}
use Rattle.std.proofs.lemmas.List.{append-nil, take-append-drop}
use Rattle.std.specs.List.{last_or}
use Rattle.filter_model.specs.FilterLaws.{IsPrefixOf}

-- what begins with xs goes on with something
pub IsPrefixOf-append : (xs rest ys : List ℕ) → xs ++ rest ≡ ys → IsPrefixOf xs ys
IsPrefixOf-append xs rest ys e = ap (take (length xs)) (sym e) ∙ take-append_seam xs rest

pub IsPrefixOf-rest : (xs ys : List ℕ) → IsPrefixOf xs ys → xs ++ drop (length xs) ys ≡ ys
IsPrefixOf-rest xs ys p = ap (λ z. z ++ drop (length xs) ys) (sym p) ∙ take-append-drop (length xs) ys

pub IsPrefixOf-same : (xs : List ℕ) → IsPrefixOf xs xs
IsPrefixOf-same xs = IsPrefixOf-append xs [] xs (append-nil xs)

pub IsPrefixOf-trans : (xs ys zs : List ℕ) → IsPrefixOf xs ys → IsPrefixOf ys zs → IsPrefixOf xs zs
IsPrefixOf-trans xs ys zs p q =
    IsPrefixOf-append xs (drop (length xs) ys ++ drop (length ys) zs) zs
    (sym (append_assoc xs (drop (length xs) ys) (drop (length ys) zs))
    ∙ ap (λ z. z ++ drop (length ys) zs) (IsPrefixOf-rest xs ys p)
    ∙ IsPrefixOf-rest ys zs q)

pub IsPrefixOf-take : (n : ℕ) (xs : List ℕ) → IsPrefixOf (take n xs) xs
IsPrefixOf-take n xs = IsPrefixOf-append (take n xs) (drop n xs) xs (take-append-drop n xs)

-- the last byte of two lists is that of the second, or else that of the first
pub last_or-append : (o : Option ℕ) (xs ys : List ℕ) → last_or o (xs ++ ys) ≡ last_or (last_or o xs) ys
last_or-append o [] ys = refl
last_or-append o (x ∷ xs) ys = last_or-append (Some x) xs ys
