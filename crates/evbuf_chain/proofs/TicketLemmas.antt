-- Tickets of references over lists of marks that are cut and joined.
use Rattle.std.proofs.Common.{◌≡◌, ℕ, zero, suc, ◌<◌, if◌then◌else◌, [], ◌∷◌, ◌++◌, length, take, drop, refl, ap, sym, ◌∙◌, append_assoc}
use Rattle.std.proofs.Common.{append-nil, arith, Some, None, nat_le, true, false, Bool}
use Rattle.std.proofs.lemmas.List.{take-append-drop}
use Rattle.std.proofs.lemmas.Grind.{common_steps}
use Rattle.evbuf_chain.specs.Mark.{Marks, Mark, reference_marks, ended_tickets, last_ticket, uncut_mark, uncut_marks}
use Rattle.evbuf_chain.specs.Tickets.{outstanding, OneTicketEach, DrainKeepsTickets, PullupKeepsTickets, MoveKeepsTickets}
use Rattle.evbuf_chain.proofs.MarkLemmas.{ended_tickets-append, ended_tickets-unmarked, ended_tickets-reference, last_ticket-more}
use Rattle.evbuf_chain.proofs.MarkLemmas.{no-ticket}

-- the tickets of two parts are those of the whole
pub ended_tickets-parts : (n : ℕ) (marks : Marks)
    → ended_tickets (take n marks) ++ ended_tickets (drop n marks) ≡ ended_tickets marks
ended_tickets-parts n marks =
    sym (ended_tickets-append (take n marks) (drop n marks)) ∙ ap ended_tickets (take-append-drop n marks)

kept_or_cut : (kept : Bool) (mark : Mark) (xs : Marks) → (kept ≡ false → last_ticket mark ≡ [])
    → ended_tickets ((if kept then Some mark else None) ∷ xs) ≡ last_ticket mark ++ ended_tickets xs
kept_or_cut true mark xs not_last = refl
kept_or_cut false mark xs not_last = sym (ap (λ ts. ts ++ ended_tickets xs) (not_last refl))

beyond : (m n : ℕ) → nat_le m n ≡ false → 0 < m
beyond m n cut = grind (arith, common_steps)

-- a mark that is cut off was not the last of its reference
ended_tickets-uncut_mark : (n : ℕ) (mark : Mark) (xs : Marks)
    → ended_tickets (uncut_mark n mark ∷ xs) ≡ last_ticket mark ++ ended_tickets xs
ended_tickets-uncut_mark n mark xs =
    kept_or_cut (nat_le mark.behind n) mark xs
    (λ (cut : nat_le mark.behind n ≡ false). last_ticket-more mark (beyond mark.behind n cut))

pub ended_tickets-uncut : (xs : Marks) → ended_tickets (uncut_marks xs) ≡ ended_tickets xs
ended_tickets-uncut [] = refl
ended_tickets-uncut (None ∷ xs) = ended_tickets-uncut xs
ended_tickets-uncut (Some mark ∷ xs) =
    ended_tickets-uncut_mark (length xs) mark (uncut_marks xs) ∙ ap (λ ts. last_ticket mark ++ ts) (ended_tickets-uncut xs)

pub drain_keeps : DrainKeepsTickets
drain_keeps marks released n =
    append_assoc released (ended_tickets (take n marks)) (ended_tickets (drop n marks))
    ∙ ap (λ ts. released ++ ts) (ended_tickets-parts n marks)

pub pullup_keeps : PullupKeepsTickets
pullup_keeps marks released n =
    ap (λ ts. (released ++ ended_tickets (take n marks)) ++ ts) (ended_tickets-unmarked n (drop n marks))
    ∙ drain_keeps marks released n

pub move_keeps : MoveKeepsTickets
move_keeps to from n =
    ap (λ ts. ts ++ ended_tickets (drop n from)) (ended_tickets-append to (uncut_marks (take n from)))
    ∙ append_assoc (ended_tickets to) (ended_tickets (uncut_marks (take n from))) (ended_tickets (drop n from))
    ∙ ap (λ ts. ended_tickets to ++ (ts ++ ended_tickets (drop n from))) (ended_tickets-uncut (take n from))
    ∙ ap (λ ts. ended_tickets to ++ ts) (ended_tickets-parts n from)

one-end : (ticket n : ℕ) → 0 < n → ended_tickets (reference_marks ticket n) ≡ ticket ∷ []
one-end ticket n some =
    ap ended_tickets (sym (append-nil (reference_marks ticket n))) ∙ ended_tickets-reference ticket n [] some

pub one_each : OneTicketEach
one_each marks released ticket zero = (
  released,
  ended_tickets marks,
  refl,
  ap (λ ms. (released ++ ticket ∷ []) ++ ended_tickets ms) (append-nil marks)
      ∙ append_assoc released (ticket ∷ []) (ended_tickets marks),
)
one_each marks released ticket (suc n) = (
  outstanding marks released,
  [],
  sym (append-nil (outstanding marks released)),
  ap (λ ts. (released ++ ts) ++ ended_tickets (marks ++ reference_marks ticket (suc n))) (no-ticket (suc n) ticket (omega arith))
      ∙ ap (λ ts. ts ++ ended_tickets (marks ++ reference_marks ticket (suc n))) (append-nil released)
      ∙ ap (λ ts. released ++ ts) (ended_tickets-append marks (reference_marks ticket (suc n)))
      ∙ ap (λ ts. released ++ (ended_tickets marks ++ ts)) (one-end ticket (suc n) (omega arith))
      ∙ sym (append_assoc released (ended_tickets marks) (ticket ∷ [])),
)
