-- Bytes of a block that were moved to its front.
use Rattle.std.proofs.Common.{◌≡◌, ℕ, ◌+◌, ◌-◌, ◌≤◌, List, ◌++◌, length, take, drop, ap, sym, ◌∙◌, arith, length-append, take-take}
use Rattle.std.proofs.lemmas.List.{take-append-le, take_at, drop-take}

-- a list that was written to the front is what stands there, whatever comes after it
pub take-written : (n size : ℕ) (bytes more rest after : List ℕ) → length bytes ≡ n → n ≤ size
    → take n (take size (((bytes ++ more) ++ rest) ++ after)) ≡ bytes
take-written n size bytes more rest after is within =
    take-take n size (((bytes ++ more) ++ rest) ++ after) within
    ∙ take-append-le n ((bytes ++ more) ++ rest) after (simp length-append (omega (arith, is)))
    ∙ take-append-le n (bytes ++ more) rest (simp length-append (omega (arith, is)))
    ∙ take_at bytes more n is

-- what stands between two places
pub between : (start end : ℕ) (items : List ℕ) → start ≤ end → take (end - start) (drop start items) ≡ drop start (take end items)
between start end items within =
    let e : start + (end - start) ≡ end = omega (arith, within) in
    sym (drop-take start (end - start) items) ∙ ap (λ k. drop start (take k items)) e
