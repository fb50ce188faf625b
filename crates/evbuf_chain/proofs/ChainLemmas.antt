-- A chain's bytes and marks: those of its chunks, and own bytes behind them.
use Rattle.std.proofs.Common.{◌≡◌, ℕ, ◌-◌, ◌≤◌, List, [], ◌∷◌, ◌++◌, length, take, drop, min, refl, ap, sym, ◌∙◌, arith}
use Rattle.std.proofs.Common.{append_assoc, append-nil, length-append, length-drop, None, inl, inr}
use Rattle.std.proofs.lemmas.Bool.Decides.{leb_tells}
use Rattle.std.proofs.lemmas.List.{replicate-append-replicate, drop_all}
use Rattle.evbuf_chain.specs.Mark.{Marks, unmarked}
use Rattle.evbuf_chain.specs.Covered.{covered, overlaid}
use Rattle.evbuf_chain.proofs.CoveredLemmas.{overlaid-parts}

-- so many own bytes come in behind
pub unmarked-append : (first more : List ℕ) → unmarked (length (first ++ more)) ≡ unmarked (length first) ++ unmarked (length more)
unmarked-append first more =
    ap unmarked (length-append first more) ∙ sym (replicate-append-replicate (length first) (length more) None)

pub marks-behind : (marks : Marks) (own now bytes : List ℕ) → now ≡ own ++ bytes
    → marks ++ unmarked (length now) ≡ (marks ++ unmarked (length own)) ++ unmarked (length bytes)
marks-behind marks own now bytes is =
    ap (λ bs. marks ++ unmarked (length bs)) is
    ∙ ap (λ ms. marks ++ ms) (unmarked-append own bytes)
    ∙ sym (append_assoc marks (unmarked (length own)) (unmarked (length bytes)))

pub bytes-behind : (chunks own now bytes : List ℕ) → now ≡ own ++ bytes → chunks ++ now ≡ (chunks ++ own) ++ bytes
bytes-behind chunks own now bytes is = ap (λ bs. chunks ++ bs) is ∙ sym (append_assoc chunks own bytes)

pub no-marks : (marks : Marks) → length marks ≡ 0 → marks ≡ []
no-marks [] none = refl
no-marks (mark ∷ marks) none = absurd (omega (arith, none))

pub no-bytes : (bytes : List ℕ) → length bytes ≡ 0 → bytes ≡ []
no-bytes [] none = refl
no-bytes (b ∷ bytes) none = absurd (omega (arith, none))

-- own bytes come in front where there is no chunk
pub bytes-before : (chunks own now bytes : List ℕ) → length chunks ≡ 0 → now ≡ bytes ++ own → chunks ++ now ≡ bytes ++ (chunks ++ own)
bytes-before chunks own now bytes none is =
    let gone : chunks ≡ [] = no-bytes chunks none in
    ap (λ bs. bs ++ now) gone ∙ is ∙ ap (λ bs. bytes ++ (bs ++ own)) (sym gone)

pub marks-before : (marks : Marks) (own now bytes : List ℕ) → length marks ≡ 0 → now ≡ bytes ++ own
    → marks ++ unmarked (length now) ≡ unmarked (length bytes) ++ (marks ++ unmarked (length own))
marks-before marks own now bytes none is =
    let gone : marks ≡ [] = no-marks marks none in
    ap (λ ms. ms ++ unmarked (length now)) gone
    ∙ ap (λ bs. unmarked (length bs)) is
    ∙ unmarked-append bytes own
    ∙ ap (λ ms. unmarked (length bytes) ++ (ms ++ unmarked (length own))) (sym gone)

-- a window over which all that lies in it was written
pub covered-all : (bytes : List ℕ) (from : ℕ) (window : List ℕ) → length window ≤ length bytes - from
    → covered 0 bytes from window ≡ take (length window) (drop from bytes)
covered-all bytes from window within =
    let n : ℕ = length window in
    let at_front : 0 - from ≡ 0 = omega arith in
    let skip : from - 0 ≡ from = omega arith in
    let least : n ≡ min (length (drop from bytes)) (length window) = omega (arith, within, length-drop from bytes) in
    ap (λ k. take k window ++ overlaid (drop (from - 0) bytes) (drop k window)) at_front
    ∙ ap (λ k. overlaid (drop k bytes) window) skip
    ∙ overlaid-parts n (drop from bytes) window least
    ∙ ap (λ ws. take n (drop from bytes) ++ ws) (drop_all n window (omega arith))
    ∙ append-nil (take n (drop from bytes))

-- no more than all is dropped
pub drop-least : (n k size : ℕ) (bytes : List ℕ) → k ≡ min n size → size ≡ length bytes → drop k bytes ≡ drop n bytes
drop-least n k size bytes k_is size_is = elim (leb_tells n (length bytes)) [
  | inl within ↦ let e : k ≡ n = omega (arith, k_is, size_is, within.1) in ap (λ j. drop j bytes) e
  | inr past ↦
      drop_all k bytes (omega (arith, k_is, size_is, past.1)) ∙ sym (drop_all n bytes (omega (arith, past.1)))
]
