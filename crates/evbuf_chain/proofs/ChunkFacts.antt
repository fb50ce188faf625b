-- What holds of each chunk.
use Rattle.std.proofs.Common.{◌≡◌, ℕ, ◌+◌, ◌-◌, ◌<◌, ◌≤◌, [], ◌∷◌, length, take, drop, refl, ap, sym, ◌∙◌, arith, length-drop}
use Rattle.std.proofs.Common.{append-nil, subst, None}
use Rattle.std.specs.Rc.{rc_slice_items}
use Rattle.std.proofs.lemmas.List.{take-replicate, drop-replicate}
use Rattle.evbuf_chain.specs.Mark.{Marks, AreWhole, reference_marks, unmarked, ended_tickets, uncut_marks}
use Rattle.evbuf_chain.specs.ChunkViews.{chunk_value}
use Rattle.byte_queue.specs.QueuedBytes.{Queued}
use Rattle.evbuf_chain.specs.declared.chunk.Held.{Held}
use Rattle.evbuf_chain.specs.declared.chunk.Reference.{Reference}
use Rattle.evbuf_chain.specs.declared.chunk.Held.TheVariants.{Own, Shared, Ended}
use Rattle.evbuf_chain.proofs.MarkLemmas.{length-reference_marks, drop-reference_marks, length-unmarked, AreWhole-unmarked}
use Rattle.evbuf_chain.proofs.MarkLemmas.{AreWhole-reference}
use Rattle.evbuf_chain.proofs.MarkLemmas.{ended_tickets-part, uncut_marks-part, ended_tickets-unmarked-all, uncut_marks-unmarked-all}
use Rattle.evbuf_chain.proofs.MarkLemmas.{ended_tickets-reference}

pub AreWhole-own : (n : ℕ) → AreWhole (unmarked n)
AreWhole-own n = let P : Marks → Type 0 = λ ms. AreWhole ms in subst P (append-nil (unmarked n)) (AreWhole-unmarked n [] tt)

AreWhole-shared : (ticket n : ℕ) → AreWhole (reference_marks ticket n)
AreWhole-shared ticket n =
    let P : Marks → Type 0 = λ ms. AreWhole ms in subst P (append-nil (reference_marks ticket n)) (AreWhole-reference ticket n [] tt)

-- each byte has a mark or none
pub chunk_value-marked : (held : Held) → length (chunk_value held).marks ≡ length (chunk_value held).bytes
chunk_value-marked (Own own) = length-unmarked (length own.items)
chunk_value-marked (Shared r) =
    length-reference_marks r.ticket (length (rc_slice_items r.bytes) - r.from) ∙ sym (length-drop r.from (rc_slice_items r.bytes))
chunk_value-marked (Ended ticket) = refl

-- the marks are whole
pub chunk_value-whole : (held : Held) → AreWhole (chunk_value held).marks
chunk_value-whole (Own own) = AreWhole-own (length own.items)
chunk_value-whole (Shared r) = AreWhole-shared r.ticket (length (rc_slice_items r.bytes) - r.from)
chunk_value-whole (Ended ticket) = tt

-- no reference ends among the first bytes of a chunk, if they are not all
pub chunk_value-no_end : (held : Held) (n : ℕ) → n < length (chunk_value held).bytes → ended_tickets (take n (chunk_value held).marks) ≡ []
chunk_value-no_end (Own own) n cut =
    ap ended_tickets (take-replicate n (length own.items) None (omega (arith, cut))) ∙ ended_tickets-unmarked-all n
chunk_value-no_end (Shared r) n cut =
    ended_tickets-part r.ticket n (length (rc_slice_items r.bytes) - r.from)
    (omega (arith, cut, length-drop r.from (rc_slice_items r.bytes)))
chunk_value-no_end (Ended ticket) n cut = absurd (omega (arith, cut))

pub chunk_value-no_mark : (held : Held) (n : ℕ) → n < length (chunk_value held).bytes
    → uncut_marks (take n (chunk_value held).marks) ≡ unmarked n
chunk_value-no_mark (Own own) n cut =
    ap uncut_marks (take-replicate n (length own.items) None (omega (arith, cut))) ∙ uncut_marks-unmarked-all n
chunk_value-no_mark (Shared r) n cut =
    uncut_marks-part r.ticket n (length (rc_slice_items r.bytes) - r.from) (omega (arith, cut, length-drop r.from (rc_slice_items r.bytes)))
chunk_value-no_mark (Ended ticket) n cut = absurd (omega (arith, cut))

-- a reference ends with its last byte
pub own-last : (held : Held) (own : Queued) → held ≡ Own own → ended_tickets (chunk_value held).marks ≡ []
own-last held own is = ap (λ h. ended_tickets (chunk_value h).marks) is ∙ ended_tickets-unmarked-all (length own.items)

pub shared-last : (held : Held) (r : Reference) → held ≡ Shared r → ended_tickets (chunk_value held).marks ≡ r.ticket ∷ []
shared-last held r is =
    let n : ℕ = length (rc_slice_items r.bytes) - r.from in
    ap (λ h. ended_tickets (chunk_value h).marks) is
    ∙ ap ended_tickets (sym (append-nil (reference_marks r.ticket n)))
    ∙ ended_tickets-reference r.ticket n [] (omega (arith, r.some))

-- a chunk without its first bytes
pub own-dropped : (own less : Queued) (n : ℕ) → less.items ≡ drop n own.items
    → (chunk_value (Own less)).marks ≡ drop n (chunk_value (Own own)).marks
own-dropped own less n is =
    ap (λ bs. unmarked (length bs)) is
    ∙ ap unmarked (length-drop n own.items)
    ∙ sym (drop-replicate n (length own.items) None)

pub shared-dropped : (r : Reference) (n : ℕ)
    → reference_marks r.ticket (length (rc_slice_items r.bytes) - (r.from + n))
    ≡ drop n (reference_marks r.ticket (length (rc_slice_items r.bytes) - r.from))
shared-dropped r n =
    let L : ℕ = length (rc_slice_items r.bytes) in
    let e : L - (r.from + n) ≡ L - r.from - n = omega arith in
    ap (reference_marks r.ticket) e ∙ sym (drop-reference_marks r.ticket n (L - r.from))

-- the first own bytes have no mark
pub own-front : (own : Queued) (n : ℕ) → n ≤ length own.items → take n (chunk_value (Own own)).marks ≡ unmarked n
own-front own n within = take-replicate n (length own.items) None within
