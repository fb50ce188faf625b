-- Chunks one after another.
use Rattle.std.proofs.Common.{◌≡◌, ℕ, ◌+◌, List, [], ◌∷◌, ◌++◌, length, refl, ap, sym, ◌∙◌, append_assoc, Some, None, arith}
use Rattle.std.proofs.Common.{length-append, ◌-◌, subst}
use Rattle.std.proofs.lemmas.Grind.{flat_map-append}
use Rattle.std.proofs.lemmas.List.{append-nil}
use mathlib.Core.List.{reverse, reverse-cons}
use Rattle.evbuf_chain.specs.Mark.{Marks, AreWhole, reference_marks}
use Rattle.evbuf_chain.specs.ChunkValue.{ChunkValue, chunk_bytes, chunk_marks, tickets_of, first_bytes}
use Rattle.evbuf_chain.specs.ChunksView.{IsChunks}

-- one more behind
pub chunk_bytes-push : (chunks : List ChunkValue) (chunk : ChunkValue)
    → chunk_bytes (chunks ++ chunk ∷ []) ≡ chunk_bytes chunks ++ chunk.bytes
chunk_bytes-push chunks chunk =
    flat_map-append (λ p. p.bytes) chunks (chunk ∷ []) ∙ ap (λ bs. chunk_bytes chunks ++ bs) (append-nil chunk.bytes)

pub chunk_marks-push : (chunks : List ChunkValue) (chunk : ChunkValue)
    → chunk_marks (chunks ++ chunk ∷ []) ≡ chunk_marks chunks ++ chunk.marks
chunk_marks-push chunks chunk =
    flat_map-append (λ p. p.marks) chunks (chunk ∷ []) ∙ ap (λ ms. chunk_marks chunks ++ ms) (append-nil chunk.marks)

pub tickets_of-push : (chunks : List ChunkValue) (chunk : ChunkValue) → tickets_of (chunks ++ chunk ∷ []) ≡ tickets_of chunks ++ chunk.ended
tickets_of-push chunks chunk =
    flat_map-append (λ p. p.ended) chunks (chunk ∷ []) ∙ ap (λ ts. tickets_of chunks ++ ts) (append-nil chunk.ended)

-- marks that are whole stay so behind others, and others behind them
pub AreWhole-append : (xs ys : Marks) → AreWhole xs → AreWhole ys → AreWhole (xs ++ ys)
AreWhole-append [] ys whole more = more
AreWhole-append (None ∷ xs) ys whole more = AreWhole-append xs ys whole more
AreWhole-append (Some mark ∷ xs) ys whole more = (
  (whole.0.0 ++ ys, ap (λ ms. ms ++ ys) whole.0.1 ∙ append_assoc (reference_marks mark.ticket mark.behind) whole.0.0 ys),
  AreWhole-append xs ys whole.1 more,
)

pub AreWhole-behind : (xs ys : Marks) → AreWhole (xs ++ ys) → AreWhole ys
AreWhole-behind [] ys whole = whole
AreWhole-behind (None ∷ xs) ys whole = AreWhole-behind xs ys whole
AreWhole-behind (Some mark ∷ xs) ys whole = AreWhole-behind xs ys whole.1

-- one more behind, in front, and the first one gone, each with its number of bytes
pub IsChunks-push_back : (chunks more : List ChunkValue) (chunk : ChunkValue) (at k : ℕ)
    → IsChunks (record { queue = chunks; len = at }) → more ≡ chunks ++ chunk ∷ [] → k ≡ length chunk.bytes
    → length chunk.marks ≡ length chunk.bytes → AreWhole chunk.marks
    → IsChunks (record { queue = more; len = at + k })
IsChunks-push_back chunks more chunk at k is more_is k_is marked whole =
    let bytes_are : chunk_bytes more ≡ chunk_bytes chunks ++ chunk.bytes = ap chunk_bytes more_is ∙ chunk_bytes-push chunks chunk in
    let marks_are : chunk_marks more ≡ chunk_marks chunks ++ chunk.marks = ap chunk_marks more_is ∙ chunk_marks-push chunks chunk in
    let P : Marks → Type 0 = λ ms. AreWhole ms in
    record {
      len = omega (arith, is.len, ap length bytes_are, length-append (chunk_bytes chunks) chunk.bytes, k_is);
      marked =
          omega (
            arith,
            is.marked,
            ap length bytes_are,
            ap length marks_are,
            length-append (chunk_bytes chunks) chunk.bytes,
            length-append (chunk_marks chunks) chunk.marks,
            marked,
          );
      whole = subst P (sym marks_are) (AreWhole-append (chunk_marks chunks) chunk.marks is.whole whole);
    }

pub IsChunks-push_front : (chunks more : List ChunkValue) (chunk : ChunkValue) (at k : ℕ)
    → IsChunks (record { queue = chunks; len = at }) → more ≡ chunk ∷ chunks → k ≡ length chunk.bytes
    → length chunk.marks ≡ length chunk.bytes → AreWhole chunk.marks
    → IsChunks (record { queue = more; len = at + k })
IsChunks-push_front chunks more chunk at k is more_is k_is marked whole =
    let bytes_are : chunk_bytes more ≡ chunk.bytes ++ chunk_bytes chunks = ap chunk_bytes more_is in
    let marks_are : chunk_marks more ≡ chunk.marks ++ chunk_marks chunks = ap chunk_marks more_is in
    let P : Marks → Type 0 = λ ms. AreWhole ms in
    record {
      len = omega (arith, is.len, ap length bytes_are, length-append chunk.bytes (chunk_bytes chunks), k_is);
      marked =
          omega (
            arith,
            is.marked,
            ap length bytes_are,
            ap length marks_are,
            length-append chunk.bytes (chunk_bytes chunks),
            length-append chunk.marks (chunk_marks chunks),
            marked,
          );
      whole = subst P (sym marks_are) (AreWhole-append chunk.marks (chunk_marks chunks) whole is.whole);
    }

pub IsChunks-pop_front : (chunks less : List ChunkValue) (chunk : ChunkValue) (at k : ℕ)
    → IsChunks (record { queue = chunks; len = at }) → chunks ≡ chunk ∷ less → k ≡ length chunk.bytes
    → length chunk.marks ≡ length chunk.bytes
    → IsChunks (record { queue = less; len = at - k })
IsChunks-pop_front chunks less chunk at k is chunks_are k_is marked =
    let bytes_are : chunk_bytes chunks ≡ chunk.bytes ++ chunk_bytes less = ap chunk_bytes chunks_are in
    let marks_are : chunk_marks chunks ≡ chunk.marks ++ chunk_marks less = ap chunk_marks chunks_are in
    let P : Marks → Type 0 = λ ms. AreWhole ms in
    record {
      len = omega (arith, is.len, ap length bytes_are, length-append chunk.bytes (chunk_bytes less), k_is);
      marked =
          omega (
            arith,
            is.marked,
            ap length bytes_are,
            ap length marks_are,
            length-append chunk.bytes (chunk_bytes less),
            length-append chunk.marks (chunk_marks less),
            marked,
          );
      whole = AreWhole-behind chunk.marks (chunk_marks less) (subst P marks_are is.whole);
    }

-- the top of a stack that is turned comes last
pub chunk_bytes-reverse : (chunk : ChunkValue) (below : List ChunkValue)
    → chunk_bytes (reverse (chunk ∷ below)) ≡ chunk_bytes (reverse below) ++ chunk.bytes
chunk_bytes-reverse chunk below = ap chunk_bytes (reverse-cons chunk below) ∙ chunk_bytes-push (reverse below) chunk

-- the bytes of the last chunk, or others where there is none
abbrev pub bottom_bytes : List ℕ → List ChunkValue → List ℕ
bottom_bytes default [] = default
bottom_bytes default (chunk ∷ chunks) = bottom_bytes chunk.bytes chunks

abbrev first_or : List ℕ → List ChunkValue → List ℕ
first_or default [] = default
first_or default (chunk ∷ chunks) = chunk.bytes

first_or-push : (default : List ℕ) (chunks : List ChunkValue) (chunk : ChunkValue)
    → first_or default (chunks ++ chunk ∷ []) ≡ first_or chunk.bytes chunks
first_or-push default [] chunk = refl
first_or-push default (p ∷ chunks) chunk = refl

bottom_bytes-reverse : (default : List ℕ) (chunks : List ChunkValue) → bottom_bytes default chunks ≡ first_or default (reverse chunks)
bottom_bytes-reverse default [] = refl
bottom_bytes-reverse default (chunk ∷ chunks) =
    bottom_bytes-reverse chunk.bytes chunks
    ∙ sym (ap (first_or default) (reverse-cons chunk chunks) ∙ first_or-push default (reverse chunks) chunk)

first_or-first : (chunks : List ChunkValue) → first_or [] chunks ≡ first_bytes chunks
first_or-first [] = refl
first_or-first (chunk ∷ chunks) = refl

-- the last chunk of a stack is the first of it turned
pub bottom_bytes-first : (chunks : List ChunkValue) → bottom_bytes [] chunks ≡ first_bytes (reverse chunks)
bottom_bytes-first chunks = bottom_bytes-reverse [] chunks ∙ first_or-first (reverse chunks)
