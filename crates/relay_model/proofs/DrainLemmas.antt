-- A run that drains its links makes no more closing turns than the most: the last of them begins where fewer were made.
use Rattle.std.proofs.Common.{◌≡◌, ℕ, ◌+◌, ◌-◌, List, [], ◌∷◌, ◌++◌, length, count_by, ◌⊎◌, inl, inr, refl, ◌∙◌, ap, arith}
use Rattle.std.specs.Prelude.{nat_le, nat_lt}
use Rattle.std.proofs.lemmas.Bool.{and_parts, ltb-true}
use Rattle.std.proofs.lemmas.List.Sums.{sum_by-append, sum_by-cons}
use Rattle.ev_types.specs.declared.entry.Entry.TheVariants as entry
use Rattle.ev_types.specs.Trace.{Event, Trace}
use Rattle.relay_model.specs.RatesKept.{is_turn}
use Rattle.relay_model.specs.Scripted.{begun}
use Rattle.relay_model.specs.OpenLinks.{open_link_count}
use Rattle.relay_model.specs.ClosingTurns.{most_closing_turns, DrainsInMost}
use Rattle.relay_model.proofs.Shapes.{one_where}

-- a trace with the last turn that begins in it
record LastTurn (t : Trace) : Type 0 where
  before : Trace
  ms : ℕ
  bytes : List ℕ
  after : Trace
  is : t ≡ before ++ (entry.Turn ms, bytes) ∷ after
  last : count_by is_turn after ≡ 0

last-turn : (t : Trace) → (count_by is_turn t ≡ 0) ⊎ LastTurn t
last-turn [] = inl refl
last-turn (y ∷ t) = elim (last-turn t) [
  | inl none ↦ here y none
  | inr k ↦
      inr (record {
        before = y ∷ k.before;
        ms = k.ms;
        bytes = k.bytes;
        after = k.after;
        is = ap (λ v. y ∷ v) k.is;
        last = k.last;
      })
]
  where
    here : (y : Event) → count_by is_turn t ≡ 0 → (count_by is_turn (y ∷ t) ≡ 0) ⊎ LastTurn (y ∷ t)
    here (entry.Turn ms, bytes) none = inr (record { before = []; ms = ms; bytes = bytes; after = t; is = refl; last = none })
    here (entry.Poll timeout, bytes) none = inl none
    here (entry.Want side r w, bytes) none = inl none
    here (entry.PollFailed, bytes) none = inl none
    here (entry.Ready side r w, bytes) none = inl none
    here (entry.Opened link connected, bytes) none = inl none
    here (entry.Conn side answer, bytes) none = inl none
    here (entry.Read side room answer, bytes) none = inl none
    here (entry.Write side offered answer, bytes) none = inl none
    here (entry.Fired side why, bytes) none = inl none
    here (entry.Asked side act answer, bytes) none = inl none
    here (entry.Freed side cause moved given, bytes) none = inl none
    here (entry.CloseWrite side, bytes) none = inl none
    here (entry.Close side, bytes) none = inl none

turns-append : (t u : Trace) → count_by is_turn (t ++ u) ≡ count_by is_turn t + count_by is_turn u
turns-append t u = sum_by-append (λ v. one_where (is_turn v)) t u

pub drains_in_most : DrainsInMost
drains_in_most turns g answer t run = elim (last-turn run.closing) [
  | inl none ↦ (let a = run.all in omega (arith, whole, none, a))
  | inr k ↦
      (let begins = run.each k.before k.after k.ms k.bytes k.is in
      let fewer = ltb-true (begun turns (run.scripted ++ k.before) - length turns) most
      (and_parts (nat_le 1 (open_link_count begins.0)) (nat_lt (begun turns (run.scripted ++ k.before) - length turns) most) begins.2).1 in
      let a = run.all in
      let b = turns-append run.scripted k.before in
      let c : count_by is_turn run.closing ≡ count_by is_turn k.before + count_by is_turn ((entry.Turn k.ms, k.bytes) ∷ k.after) =
      ap (count_by is_turn) k.is ∙ turns-append k.before ((entry.Turn k.ms, k.bytes) ∷ k.after) in
      let d = sum_by-cons (λ v. one_where (is_turn v)) (entry.Turn k.ms, k.bytes) k.after in
      let e = k.last in
      omega (arith, whole, fewer, a, b, c, d, e))
]
  where
    most : ℕ
    most = most_closing_turns turns g run.scripted run.plain

    whole : begun turns t ≡ count_by is_turn run.scripted + count_by is_turn run.closing
    whole = ap (count_by is_turn) run.is ∙ turns-append run.scripted run.closing
