-- Slices that show bytes one after another.
use Rattle.std.proofs.Common.{◌≡◌, ℕ, ◌+◌, ◌-◌, ◌≤◌, List, [], ◌∷◌, ◌++◌, length, take, ap, sym, ◌∙◌, arith, length-append, length-take}
use Rattle.std.proofs.Common.{append_assoc, append-nil, reverse}
use Rattle.std.proofs.lemmas.Grind.{flat_map-append}
use Rattle.std.proofs.lemmas.List.{reverse-append}
use Rattle.std.specs.Borrow.{Bor}
use Rattle.evbuf_chain.specs.Buffered.{joined}
use Rattle.evbuf_chain.proofs.EndLemmas.{take-append}

pub joined-push : (slices now : List (Bor (List ℕ))) (slice : Bor (List ℕ)) → now ≡ slices ++ slice ∷ []
    → joined now ≡ joined slices ++ slice.now
joined-push slices now slice is =
    ap joined is ∙ flat_map-append (λ s. s.now) slices (slice ∷ []) ∙ ap (λ bs. joined slices ++ bs) (append-nil slice.now)

pub joined-reverse_push : (slices now : List (Bor (List ℕ))) (slice : Bor (List ℕ)) → now ≡ slices ++ slice ∷ []
    → joined (reverse now) ≡ slice.now ++ joined (reverse slices)
joined-reverse_push slices now slice is = ap (λ ss. joined (reverse ss)) is ∙ ap joined (reverse-append slices (slice ∷ []))

-- one more chunk was shown behind
pub shown-next : (slices now : List (Bor (List ℕ))) (slice : Bor (List ℕ)) (n k : ℕ) (first more : List ℕ)
    → now ≡ slices ++ slice ∷ [] → slice.now ≡ take n first → k ≡ length slice.now
    → joined now ++ take (n - k) more ≡ joined slices ++ take n (first ++ more)
shown-next slices now slice n k first more is slice_is k_is =
    let e : n - k ≡ n - length first = omega (arith, k_is, ap length slice_is, length-take n first) in
    ap (λ bs. bs ++ take (n - k) more) (joined-push slices now slice is)
    ∙ append_assoc (joined slices) slice.now (take (n - k) more)
    ∙ ap (λ bs. joined slices ++ (bs ++ take (n - k) more)) slice_is
    ∙ ap (λ j. joined slices ++ (take n first ++ take j more)) e
    ∙ ap (λ bs. joined slices ++ bs) (sym (take-append n first more))

-- The chunk that ends at a place was shown before those behind it, as far as it begins before n.
taken-before : (n place : ℕ) (rest more last : List ℕ) → rest ≡ more ++ last → length rest ≤ place
    → take (n - (place - length last - length more)) more ++ take (n - (place - length last)) last ≡ take (n - (place - length rest)) rest
taken-before n place rest more last is within =
    let size : length rest ≡ length more + length last = ap length is ∙ length-append more last in
    let m : ℕ = n - (place - length rest) in
    let same : n - (place - length last - length more) ≡ m = omega (arith, size, within) in
    let behind : n - (place - length last) ≡ m - length more = omega (arith, size, within) in
    ap (λ k. take k more ++ take (n - (place - length last)) last) same
    ∙ ap (λ k. take m more ++ take k last) behind
    ∙ sym (take-append m more last)
    ∙ ap (λ bs. take m bs) (sym is)

pub shown-before : (turned now : List (Bor (List ℕ))) (slice : Bor (List ℕ)) (n place k : ℕ) (rest more last all : List ℕ)
    → take (n - (place - length rest)) rest ++ joined (reverse turned) ≡ all
    → rest ≡ more ++ last → length rest ≤ place → k ≡ length last → now ≡ turned ++ slice ∷ [] → slice.now ≡ take (n - (place - k)) last
    → take (n - (place - k - length more)) more ++ joined (reverse now) ≡ all
shown-before turned now slice n place k rest more last all so is within k_is now_is slice_is =
    ap (λ bs. take (n - (place - k - length more)) more ++ bs) (joined-reverse_push turned now slice now_is)
    ∙ ap (λ bs. take (n - (place - k - length more)) more ++ (bs ++ joined (reverse turned))) slice_is
    ∙ ap (λ j. take (n - (place - j - length more)) more ++ (take (n - (place - j)) last ++ joined (reverse turned))) k_is
    ∙ sym (append_assoc (take (n - (place - length last - length more)) more) (take (n - (place - length last)) last)
    (joined (reverse turned)))
    ∙ ap (λ bs. bs ++ joined (reverse turned)) (taken-before n place rest more last is within)
    ∙ so

pub shown-past : (turned : List (Bor (List ℕ))) (n place k : ℕ) (rest more last all : List ℕ)
    → take (n - (place - length rest)) rest ++ joined (reverse turned) ≡ all
    → rest ≡ more ++ last → length rest ≤ place → k ≡ length last → n ≤ place - k
    → take (n - (place - k - length more)) more ++ joined (reverse turned) ≡ all
shown-past turned n place k rest more last all so is within k_is past =
    let none : n - (place - length last) ≡ 0 = omega (arith, k_is, past) in
    ap (λ j. take (n - (place - j - length more)) more ++ joined (reverse turned)) k_is
    ∙ ap (λ bs. bs ++ joined (reverse turned))
    (sym (append-nil (take (n - (place - length last - length more)) more))
    ∙ ap (λ j. take (n - (place - length last - length more)) more ++ take j last) (sym none)
    ∙ taken-before n place rest more last is within)
    ∙ so

-- the last of the slices that are turned came behind the others
pub turned-next : (slices now turned less : List (Bor (List ℕ))) (slice : Bor (List ℕ))
    → now ≡ slices ++ slice ∷ [] → turned ≡ less ++ slice ∷ []
    → joined now ++ joined (reverse less) ≡ joined slices ++ joined (reverse turned)
turned-next slices now turned less slice now_is turned_is =
    ap (λ bs. bs ++ joined (reverse less)) (joined-push slices now slice now_is)
    ∙ append_assoc (joined slices) slice.now (joined (reverse less))
    ∙ ap (λ bs. joined slices ++ bs) (sym (joined-reverse_push less turned slice turned_is))
