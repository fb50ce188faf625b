-- A trace whose bytes lie in one list, as it grows.
use Rattle.std.proofs.Common.{◌≡◌, ◌≤◌, ℕ, List, [], ◌∷◌, ◌++◌, length, drop, sum_by, refl, arith, sym}
use Rattle.std.proofs.lemmas.List.{take-append-le, drop-append-le, length-drop, nil_from_length}
use Rattle.std.proofs.Math.Seq.{take-length}
use Rattle.std.proofs.lemmas.List.Sums.{sum_by-cons}
use Rattle.ev_types.specs.declared.entry.Entry.{Entry}
use Rattle.ev_types.specs.Trace.{bytes_beside, paired}

-- an entry at the end takes the bytes at the end
pub paired-push : (es : List Entry) (e : Entry) (bs ys : List ℕ) → sum_by bytes_beside es ≡ length bs → length ys ≡ bytes_beside e →
    paired (es ++ e ∷ []) (bs ++ ys) ≡ paired es bs ++ (e, ys) ∷ []
paired-push [] e bs ys h k =
    let none : bs ≡ [] = nil_from_length bs (sym h) in
    rw (none, ← k, take-length) refl
paired-push (f ∷ fs) e bs ys h k =
    let whole = sum_by-cons bytes_beside f fs in
    let within : bytes_beside f ≤ length bs = omega arith in
    let left : sum_by bytes_beside fs ≡ length (drop (bytes_beside f) bs) = omega (arith, length-drop (bytes_beside f) bs) in
    rw (
      take-append-le (bytes_beside f) bs ys within,
      drop-append-le (bytes_beside f) bs ys within,
      paired-push fs e
          (drop (bytes_beside f) bs) ys left k,
    ) refl
