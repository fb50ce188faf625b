-- Where there is nothing that a round could do, it changes nothing.
use Rattle.std.proofs.Common.{◌≡◌, ℕ, suc, ◌+◌, ◌/◌, Bool, true, false, not, ◌||◌, ◌&&◌, ◌==◌, nat_le, if◌then◌else◌, List, [], length}
use Rattle.std.proofs.Common.{Option, Some, None, refl, sym, ◌∙◌, ap, arith, eqb-true, leb-true}
use Rattle.std.specs.Prelude.{nat_lt, is_some}
use Rattle.std.proofs.lemmas.List.{nil_from_length}
use Rattle.filter_model.specs.Filter.{or_else}
use Rattle.filter_model.specs.Running.{Running}
use Rattle.filter_model.specs.FilterRun.{nothing_ran}
use Rattle.filter_model.specs.FilterStep.{after_bytes, ending, stepped}
use Rattle.relay_state.specs.State.{lane_moved}
use Rattle.relay_state.specs.Passage.{Passage, holds_back, hold_part, read_by, read_part, move_part, has_moved_all, written_by, write_step}
use Rattle.relay_state.specs.Passage.{write_part, pass_round}
use Rattle.relay_sides.specs.Links.{IsTold}
use Rattle.relay_sides.specs.Progress.{round_by, is_settled}
use Rattle.relay_sides.specs.declared.pass.RoundRules.{RoundRules}
use Rattle.relay_sides.proofs.StepLemmas.{idle}
use Rattle.relay_sides.proofs.RoundLemmas.{read_idle, write_idle}

-- of no bytes, before the end, a filter makes nothing
step-nothing : (r : Running) (limit n : ℕ) → r.stopped ≡ None → stepped r false limit n [] ≡ idle r
step-nothing r limit n running = go r.finished refl
  where
    used : r.used + 0 ≡ r.used
    used = omega arith

    place : (room : Bool) → (if room && false then Some (r.used + 0) else None) ≡ r.stopped
    place true = sym running
    place false = sym running

    go : (b : Bool) → r.finished ≡ b → stepped r false limit n [] ≡ idle r
    go true e = λ i. if e i || is_some r.stopped then idle r else ending (after_bytes r []) nothing_ran true false (nat_lt (n + 0) limit)
    go false e =
        (λ i. if e i || is_some (running i) then idle r else ending (after_bytes r []) nothing_ran true false (nat_lt (n + 0) limit))
        ∙ (λ i. record {
          used = 0;
          made = [];
          after = record r { used = used i; finished = sym e i; stopped = place (nat_lt (n + 0) limit) i };
        })

or_else-none : (o : Option ℕ) → or_else o None ≡ o
or_else-none (Some x) = refl
or_else-none None = refl

-- what a settled direction is
record Settled (t : RoundRules) (x : Passage) : Type 0 where
  going : t.ended ≡ false
  free : x.flow.held ≡ false
  below : nat_le t.hold (length x.lane.buffers.raw_output) ≡ false
  raw_input : x.lane.buffers.raw_input ≡ []
  input : x.lane.buffers.input ≡ []
  output : x.lane.buffers.output ≡ []
  unread : x.flow.read_done ≡ false
  reader : x.lane.reader.stopped ≡ None
  writer : x.lane.writer.stopped ≡ None

left : (a b : Bool) → (a && b) ≡ true → a ≡ true
left true b h = refl
left false b h = absurd (cc)

right : (a b : Bool) → (a && b) ≡ true → b ≡ true
right true b h = h
right false b h = absurd (cc)

is_not : (b : Bool) → not b ≡ true → b ≡ false
is_not true h = absurd (let wrong : false ≡ true = h in cc)
is_not false h = refl

none_is : (p : Option ℕ) → is_some p ≡ false → p ≡ None
none_is None h = refl
none_is (Some n) h = absurd (let wrong : true ≡ false = h in cc)

neither : (p q : Option ℕ) → not (is_some p || is_some q) ≡ true → (p ≡ None) × (q ≡ None)
neither None q h = (refl, none_is q (is_not (is_some q) h))
neither (Some n) q h = absurd (let wrong : false ≡ true = h in cc)

empty : (xs : List ℕ) → (length xs == 0) ≡ true → xs ≡ []
empty xs h = nil_from_length xs (eqb-true (length xs) 0 h)

above : (m n : ℕ) → nat_lt m n ≡ true → nat_le n m ≡ false
above m n h = go (nat_le n m) refl
  where
    go : (b : Bool) → nat_le n m ≡ b → nat_le n m ≡ false
    go true e = absurd (let less = leb-true (suc m) n h in let more = leb-true n m e in omega (arith, less, more))
    go false e = e

settled_is : (t : RoundRules) (x : Passage) → is_settled t x ≡ true → Settled t x
settled_is t x h =
    let b = x.lane.buffers in
    let p5 = left _ _ h in
    let p4 = left _ _ p5 in
    let p3 = left _ _ p4 in
    let p2 = left _ _ p3 in
    let passed = right _ _ p4 in
    let two = neither x.lane.reader.stopped x.lane.writer.stopped (right _ _ h) in
    record {
      going = is_not t.ended (left _ _ p2);
      free = is_not x.flow.held (right _ _ p2);
      below = above (length b.raw_output) t.hold (right _ _ p3);
      raw_input = empty b.raw_input (left _ _ (left _ _ passed));
      input = empty b.input (right _ _ (left _ _ passed));
      output = empty b.output (right _ _ passed);
      unread = is_not x.flow.read_done (right _ _ p5);
      reader = two.0;
      writer = two.1;
    }

module _ (t : RoundRules) (x : Passage) (told : IsTold x) (is : Settled t x) where
  free_still : holds_back t.hold x ≡ x.flow.held
  free_still =
      (λ i. if is.below i then true else (if nat_le (length x.lane.buffers.raw_output) (t.hold / 2) then false else is.free i))
      ∙ either (nat_le (length x.lane.buffers.raw_output) (t.hold / 2)) ∙ sym is.free
    where
      either : (q : Bool) → (if q then false else false) ≡ false
      either true = refl
      either false = refl

  hold_still : hold_part t.hold x ≡ x
  hold_still = λ i. let f = x.flow in record x { flow = record f { held = free_still i } }

  read_still : read_part t.mark t.ended x ≡ x
  read_still =
      ap (λ s. read_by s x)
      ((λ i. stepped x.lane.reader (is.going i) t.mark (length x.lane.buffers.input) (is.raw_input i))
      ∙ step-nothing x.lane.reader t.mark (length x.lane.buffers.input) is.reader)
      ∙ read_idle t.hold t.mark t.ended x told x.from_bad (ap (or_else x.from_bad) is.reader ∙ or_else-none x.from_bad)

  move_still : move_part x ≡ x
  move_still = go (not x.flow.held && length x.lane.buffers.output == 0)
    where
      moved : x.flow.moved + length x.lane.buffers.input ≡ x.flow.moved
      moved = let none = ap length is.input in omega (arith, none)

      go : (q : Bool) →
          (let f = x.flow in if q then record x {
            flow = record f { moved = f.moved + length x.lane.buffers.input };
            lane = lane_moved x.lane;
          } else x) ≡ x
      go true =
          let f = x.flow in
          let l = x.lane in
          let b = l.buffers in
          λ i. record x {
            flow = record f { moved = moved i };
            lane = record l { buffers = record b { input = sym is.input i; output = (is.input ∙ sym is.output) i } };
          }
      go false = refl

  write_still : (may_end : Bool) → write_part t.hold may_end x ≡ x
  write_still may_end =
      (λ i. if is.free i then x else written_by (write_step t.hold (may_end && has_moved_all x) x.lane) x)
      ∙ ap (λ s. written_by s x)
      ((λ i. stepped x.lane.writer (not_over may_end i) t.hold (length x.lane.buffers.raw_output) (is.output i))
      ∙ step-nothing x.lane.writer t.hold (length x.lane.buffers.raw_output) is.writer)
      ∙ write_idle t.hold false x told x.to_bad (ap (or_else x.to_bad) is.writer ∙ or_else-none x.to_bad)
    where
      not_over : (b : Bool) → (b && has_moved_all x) ≡ false
      not_over true = λ i. is.unread i && length x.lane.buffers.input == 0
      not_over false = refl

  round_still : round_by t x ≡ x
  round_still = go t.from_live t.to_live
    where
      go : (from to : Bool) → pass_round t.mark t.hold t.ended from to x ≡ x
      go true false = refl
      go false false = refl
      go false true = ap (write_part t.hold false) hold_still ∙ write_still false
      go true true =
          ap (λ y. write_part t.hold true (move_part (read_part t.mark t.ended y))) hold_still
          ∙ ap (λ y. write_part t.hold true (move_part y)) read_still ∙ ap (write_part t.hold true) move_still ∙ write_still true

pub settled_stays : (t : RoundRules) (x : Passage) → IsTold x → is_settled t x ≡ true → round_by t x ≡ x
settled_stays t x told h = round_still t x told (settled_is t x h)
