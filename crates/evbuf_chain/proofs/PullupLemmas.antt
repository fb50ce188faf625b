-- A pullup that leaves all as it is, since the first bytes are own bytes already, and one that made a chunk of them.
use Rattle.std.proofs.Common.{◌≡◌, ℕ, ◌+◌, ◌-◌, ◌≤◌, ◌⊎◌, List, [], ◌++◌, length, take, drop, ap, sym, ◌∙◌, arith, inl, inr}
use Rattle.std.proofs.Common.{append-nil, None, refl}
use Rattle.std.proofs.lemmas.List.{drop-replicate, replicate-append-replicate}
use Rattle.evbuf_chain.specs.Mark.{Marks, unmarked, ended_tickets}
use Rattle.evbuf_chain.specs.ChunkValue.{tickets_of}
use Rattle.evbuf_chain.specs.Buffered.{IsPulledUp}
use Rattle.evbuf_chain.specs.ChainView.{buffered}
use Rattle.evbuf_chain.specs.Leaving.{PullsUp}
use Rattle.evbuf_chain.specs.declared.chain.Chain.TheInside.{Inside}
use Rattle.evbuf_chain.proofs.DrainLemmas.{none-ended}
use Rattle.evbuf_chain.proofs.EndLemmas.{ended-own}
use Rattle.evbuf_chain.proofs.ChainLemmas.{no-marks, no-bytes}

unmarked-split : (n k : ℕ) → n ≤ k → unmarked n ++ drop n (unmarked k) ≡ unmarked k
unmarked-split n k within =
    let e : n + (k - n) ≡ k = omega (arith, within) in
    ap (λ ms. unmarked n ++ ms) (drop-replicate n k None) ∙ replicate-append-replicate n (k - n) None ∙ ap unmarked e

still-marks : (marks : Marks) (n k : ℕ) → (n ≡ 0) ⊎ (length marks ≡ 0) → n ≤ length marks + k
    → marks ++ unmarked k ≡ unmarked n ++ drop n (marks ++ unmarked k)
still-marks marks n k (inl zero_is) within = sym (ap (λ j. unmarked j ++ drop j (marks ++ unmarked k)) zero_is)
still-marks marks n k (inr none) within =
    let e : marks ++ unmarked k ≡ unmarked k = ap (λ ms. ms ++ unmarked k) (no-marks marks none) in
    e ∙ sym (unmarked-split n k (omega (arith, within, none))) ∙ ap (λ ms. unmarked n ++ drop n ms) (sym e)

still-ended : (marks : Marks) (n k : ℕ) → (n ≡ 0) ⊎ (length marks ≡ 0) → ended_tickets (take n (marks ++ unmarked k)) ≡ []
still-ended marks n k (inl zero_is) = ap (λ j. ended_tickets (take j (marks ++ unmarked k))) zero_is
still-ended marks n k (inr none) = ended-own n marks k ∙ none-ended n marks (no-marks marks none)

same-case : (n a b : ℕ) → a ≡ b → (n ≡ 0) ⊎ (b ≡ 0) → (n ≡ 0) ⊎ (a ≡ 0)
same-case n a b is (inl zero_is) = inl zero_is
same-case n a b is (inr none) = inr (is ∙ none)

-- no chunk is there, or no byte is asked for
pub is-pulled_up : (chain : Inside) (n : ℕ) → (n ≡ 0) ⊎ (length chain.chunks.bytes ≡ 0)
    → length chain.chunks.marks ≡ length chain.chunks.bytes → n ≤ length chain.chunks.bytes + length chain.own.items
    → IsPulledUp (buffered chain) n (buffered chain)
is-pulled_up chain n already marked there =
    let k : ℕ = length chain.own.items in
    let case = same-case n (length chain.chunks.marks) (length chain.chunks.bytes) marked already in
    record {
      bytes = refl;
      marks = still-marks chain.chunks.marks n k case (omega (arith, marked, there));
      spare = omega arith;
      released =
          sym (append-nil (tickets_of chain.ended))
          ∙ ap (λ ts. tickets_of chain.ended ++ ts) (sym (still-ended chain.chunks.marks n k case));
    }

pub front-own : (chunks own : List ℕ) (n : ℕ) → (n ≡ 0) ⊎ (length chunks ≡ 0) → take n own ≡ take n (chunks ++ own)
front-own chunks own n (inl zero_is) = ap (λ j. take j own) zero_is ∙ sym (ap (λ j. take j (chunks ++ own)) zero_is)
front-own chunks own n (inr none) = ap (λ bs. take n (bs ++ own)) (sym (no-bytes chunks none))

pub IsPulledUp-pulled : (old new : Inside) (n : ℕ)
    → PullsUp old.chunks old.own (tickets_of old.ended) n new.chunks new.own (tickets_of new.ended)
    → IsPulledUp (buffered old) n (buffered new)
IsPulledUp-pulled old new n so = record { bytes = so.bytes; marks = so.marks; spare = omega (arith, so.spare); released = so.ended }
