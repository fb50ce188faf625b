-- The entries of a poll, and what sides want.
use Rattle.std.proofs.Common.{◌≡◌, inl, inr, ℕ, zero, suc, ◌+◌, Bool, true, false, ◌||◌, List, [], ◌∷◌, ◌++◌, length, take, if◌then◌else◌}
use Rattle.std.proofs.Common.{Option, refl, sym, ◌∙◌, ap, subst, arith, append_assoc, append-nil}
use Rattle.std.specs.Prelude.{◌≤◌, filter}
use Rattle.std.proofs.lemmas.List.Folds.{list_any-append}
use Rattle.ev_port.specs.Table.{is_marked}
use Rattle.ev_port.specs.FaultCounts.{Counted}
use mathlib.Core.Logic.{◌⊎◌}
use Rattle.ev_types.specs.declared.side.SideId.{SideId}
use Rattle.ev_types.specs.declared.entry.Entry.TheVariants as entry
use Rattle.ev_types.specs.Trace.{Trace}
use Rattle.ev_port.specs.declared.port.Polled.TheVariants as polled
use Rattle.ev_port.specs.declared.port.Want.{Want}
use Rattle.ev_port.specs.Faults.{Faults, PollFaults}
use Rattle.ev_port.specs.Counting.{counted}
use Rattle.ev_port.specs.Polling.{IsMarked, AllMarked, want_events, ready_events, poll_events}
use Rattle.relay_state.specs.State.{State}
use Rattle.relay_drive.specs.declared.fault.DriveFault.{DriveFault}
use Rattle.relay_drive.specs.declared.fault.DriveFault.TheVariants as fault
use Rattle.relay_drive.specs.Steps.{Then}
use Rattle.relay_drive.specs.Phases.{wants_of_link, wants_of_links, Polls, AcceptsMore, CutAccepting}
use Rattle.relay_model.specs.Told.{has_failed, failed_by}
use Rattle.relay_drive.specs.Advances.{Heard, has_poll_failed, is_poll_failed}
use Rattle.relay_drive.proofs.GoesLemmas.{Counted-same}

pub want_events-push : (ws : List Want) (w : Want) →
    want_events (ws ++ w ∷ []) ≡ want_events ws ++ (entry.Want w.side w.read w.write, []) ∷ []
want_events-push [] w = refl
want_events-push (x ∷ ws) w = ap (λ t. (entry.Want x.side x.read x.write, []) ∷ t) (want_events-push ws w)

abbrev marks : Want → Trace
marks w = if w.can_read then (entry.Ready w.side true w.can_write, []) ∷ []
    else (if w.can_write then (entry.Ready w.side false true, []) ∷ [] else [])

pub ready_events-push : (ws : List Want) (w : Want) → ready_events (ws ++ w ∷ []) ≡ ready_events ws ++ ready_events (w ∷ [])
ready_events-push [] w = refl
ready_events-push (x ∷ ws) w = ap (λ t. marks x ++ t) (ready_events-push ws w)
    ∙ sym (append_assoc (marks x) (ready_events ws) (ready_events (w ∷ [])))

-- marks change no name of a want
pub want_events-marked : (ws ms : List Want) → length ms ≡ length ws → AllMarked ws ms → want_events ms ≡ want_events ws
want_events-marked [] [] h m = refl
want_events-marked [] (y ∷ ms) h m = absurd (omega (arith, h))
want_events-marked (x ∷ ws) [] h m = absurd (omega (arith, h))
want_events-marked (x ∷ ws) (y ∷ ms) h m =
    let first : IsMarked x y = m zero x (omega arith) in
    let side = first.side in
    let read = first.read in
    let write = first.write in
    let rest = want_events-marked ws ms (omega (arith, h)) (λ k d lt. m (suc k) d (omega (arith, lt))) in
    λ i. (entry.Want (side i) (read i) (write i), []) ∷ rest i

-- no entry of a poll tells of a fault of an end

want_failed : (ws : List Want) (e : SideId) → has_failed e (want_events ws) ≡ false
want_failed [] e = refl
want_failed (w ∷ ws) e = want_failed ws e

want_polls : (ws : List Want) → has_poll_failed (want_events ws) ≡ false
want_polls [] = refl
want_polls (w ∷ ws) = want_polls ws

mark_failed : (r w : Bool) (e x : SideId) →
    has_failed x (if r then (entry.Ready e true w, []) ∷ [] else (if w then (entry.Ready e false true, []) ∷ [] else [])) ≡ false
mark_failed true w e x = refl
mark_failed false true e x = refl
mark_failed false false e x = refl

mark_polls : (r w : Bool) (e : SideId) →
    has_poll_failed (if r then (entry.Ready e true w, []) ∷ [] else (if w then (entry.Ready e false true, []) ∷ [] else [])) ≡ false
mark_polls true w e = refl
mark_polls false true e = refl
mark_polls false false e = refl

both_false : (a b : Bool) → a ≡ false → b ≡ false → a || b ≡ false
both_false a b p q = ap (λ z. z || b) p ∙ q

ready_failed : (ws : List Want) (e : SideId) → has_failed e (ready_events ws) ≡ false
ready_failed [] e = refl
ready_failed (w ∷ ws) e =
    list_any-append (failed_by e) (marks w) (ready_events ws)
    ∙ both_false (has_failed e (marks w)) (has_failed e (ready_events ws)) (mark_failed w.can_read w.can_write w.side e)
    (ready_failed ws e)

ready_polls : (ws : List Want) → has_poll_failed (ready_events ws) ≡ false
ready_polls [] = refl
ready_polls (w ∷ ws) =
    list_any-append is_poll_failed (marks w) (ready_events ws)
    ∙ both_false (has_poll_failed (marks w)) (has_poll_failed (ready_events ws)) (mark_polls w.can_read w.can_write w.side)
    (ready_polls ws)

pub Heard-poll : (f g : Faults) (timeout : Option ℕ) (ws : List Want) (accept : Bool) → PollFaults f g false →
    Heard f g (poll_events timeout ws (polled.Ready accept)) false
Heard-poll f g timeout ws accept h = record {
  ends = λ e. subst (λ z. Counted (f.ends e) (g.ends e) z)
      (sym (list_any-append (failed_by e) (want_events ws) (ready_events ws)
      ∙ both_false (has_failed e (want_events ws)) (has_failed e (ready_events ws)) (want_failed ws e) (ready_failed ws e)))
      (Counted-same (f.ends e) (g.ends e) (h.ends e));
  polling = subst (λ z. Counted f.polling g.polling z)
      (sym (list_any-append is_poll_failed (want_events ws) (ready_events ws)
      ∙ both_false (has_poll_failed (want_events ws)) (has_poll_failed (ready_events ws)) (want_polls ws) (ready_polls ws))) h.polling;
  listener = Counted-same f.listener g.listener h.listener;
}

pub Heard-failed_poll : (f g : Faults) (timeout : Option ℕ) (ws : List Want) → PollFaults f g true →
    Heard f g (poll_events timeout ws polled.Failed) false
Heard-failed_poll f g timeout ws h = record {
  ends = λ e. subst (λ z. Counted (f.ends e) (g.ends e) z)
      (sym (list_any-append (failed_by e) (want_events ws) ((entry.PollFailed, []) ∷ [])
      ∙ both_false (has_failed e (want_events ws)) false (want_failed ws e) refl))
      (Counted-same (f.ends e) (g.ends e) (h.ends e));
  polling = subst (λ z. Counted f.polling g.polling z)
      (sym (list_any-append is_poll_failed (want_events ws) ((entry.PollFailed, []) ∷ []) ∙ ap (λ b. b || true) (want_polls ws))) h.polling;
  listener = Counted-same f.listener g.listener h.listener;
}

-- links by their numbers
pub wants_of_links-push : (s : State) (ks : List ℕ) (k : ℕ) → wants_of_links s (ks ++ k ∷ []) ≡ wants_of_links s ks ++ wants_of_link s k
wants_of_links-push s [] k = append-nil (wants_of_link s k)
wants_of_links-push s (x ∷ ks) k = ap (λ t. wants_of_link s x ++ t) (wants_of_links-push s ks k)
    ∙ sym (append_assoc (wants_of_link s x) (wants_of_links s ks) (wants_of_link s k))

pub counted_three : (a b c d l m n : ℕ) → b ≡ counted a l → counted c 0 ≡ counted b m → counted d 0 ≡ counted c n →
    counted d 0 ≡ counted a (l + (m + n))
counted_three a b c d l m n h g k = omega (arith, h, g, k)

-- accepting is refused only for want of memory or by the listener
pub cut_accepting : (f : DriveFault) (marked : List Want) {s new : State} {a : Trace} → (f ≡ fault.Memory) ⊎ (f ≡ fault.OpenFault) →
    Then (Polls marked true) AcceptsMore s a new → CutAccepting f s a new
cut_accepting f marked {s = s} {new = new} {a = a} c h = go c
  where
    go : (f ≡ fault.Memory) ⊎ (f ≡ fault.OpenFault) → CutAccepting f s a new
    go (inl e) = subst (λ x. CutAccepting x s a new) (sym e) (marked, h)
    go (inr e) = subst (λ x. CutAccepting x s a new) (sym e) (marked, h)

-- what was written through a slice of a whole vector
pub written_back : {X : Type 0} (n : ℕ) (new rest : List X) → n ≡ length new → take n (new ++ rest) ≡ new
written_back n new rest e = ap (λ m. take m (new ++ rest)) e ∙ take_front new rest
  where
    take_front : {X : Type 0} (xs ys : List X) → take (length xs) (xs ++ ys) ≡ xs
    take_front [] ys = refl
    take_front (x ∷ xs) ys = ap (λ z. x ∷ z) (take_front xs ys)

-- a want has one entry
pub length-want_events : (ws : List Want) → length (want_events ws) ≡ length ws
length-want_events [] = refl
length-want_events (w ∷ ws) = let rest = length-want_events ws in omega (arith, rest)

-- no more are marked than there are
pub length-marked : (ws : List Want) → length (filter is_marked ws) ≤ length ws
length-marked [] = omega arith
length-marked (w ∷ ws) = go (is_marked w) (length-marked ws)
  where
    go : (b : Bool) → length (filter is_marked ws) ≤ length ws →
        length (if b then w ∷ filter is_marked ws else filter is_marked ws) ≤ length (w ∷ ws)
    go true h = omega (arith, h)
    go false h = omega (arith, h)
