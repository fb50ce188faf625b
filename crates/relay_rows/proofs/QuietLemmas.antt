-- A silent step of the replay is one of the relation.
use Rattle.std.specs.Prelude.{fold}
use Rattle.std.specs.List.{list_all}
use Rattle.std.proofs.Common.{◌≡◌, ◌⊎◌, inl, inr, ℕ, Bool, true, false, ◌&&◌, if◌then◌else◌, is_none, List, [], ◌∷◌, Option, Some, None}
use Rattle.std.proofs.Common.{refl, ap, ◌∙◌}
use Rattle.std.proofs.lemmas.Bool.{and_parts}
use Rattle.std.proofs.lemmas.List.{set-get_or}
use Rattle.ev_types.specs.declared.side.SideId.{SideId}
use Rattle.ev_types.specs.declared.entry.Entry.{Entry}
use Rattle.ev_types.specs.Sides.{peer, number}
use Rattle.ev_types.specs.Trace.{Trace}
use Rattle.filter_model.specs.Filter.{or_else}
use Rattle.relay_model.specs.Flow.{Flow, no_flow}
use Rattle.relay_model.specs.Settings.{Settings}
use Rattle.relay_model.specs.Plain.{Plain, PlainSide, no_side, side_at, flow_at, put_side, put_flow, change_flow}
use Rattle.relay_model.specs.Past.{Past, past}
use Rattle.relay_model.specs.Rooms.{read_mark}
use Rattle.relay_model.specs.Pass.{with_held, with_used, read_place, with_read_done, with_moved, with_turned, write_place, with_write_done}
use Rattle.relay_model.specs.Round.{Part, meets, filter_in, filter_out, hold_of, read_run, write_run, do_part, round_parts, round}
use Rattle.relay_model.specs.Serve.{call_for, marks_left}
use Rattle.relay_model.specs.Close.{closing_entry}
use Rattle.relay_model.specs.Stages.{Stage, Wanting, Marking, Accepting, Serving, Filtering, Dispatching, Firing, Passing, Closing, State}
use Rattle.relay_model.specs.Stages.{at}
use Rattle.relay_model.specs.Turn.{Quietly}
use Rattle.relay_rows.specs.Same.{same_flow}
use Rattle.relay_rows.specs.Put.{asks_nothing}
use Rattle.relay_rows.specs.Quiet.{keeps_place, leaves, is_passed, quiet}
use Rattle.relay_rows.proofs.SameLemmas.{same_number-is, same_flow-is}
use Rattle.relay_rows.proofs.PutLemmas.{provided-is, asks_nothing-is}

-- a direction whose counts stay leaves the state
pub put_flow-same : (e : SideId) (f : Flow) (s : Plain) → f ≡ flow_at s e → put_flow e f s ≡ s
put_flow-same e f s h =
    ap (λ x. put_flow e x s) h ∙ (λ i. record s { flows = set-get_or s.flows (number e) no_flow i })

-- a side that stays leaves the state
pub put_side-same : (e : SideId) (x : PlainSide) (s : Plain) → x ≡ side_at s e → put_side e x s ≡ s
put_side-same e x s h =
    ap (λ y. put_side e y s) h ∙ (λ i. record s { sides = set-get_or s.sides (number e) no_side i })

meets-same : (e : SideId) (place : Option ℕ) (s : Plain) → keeps_place e place s ≡ true → meets e place s ≡ s
meets-same e place s h =
    let kept = same_number-is (or_else (side_at s e).bad place) (side_at s e).bad h in
    put_side-same e (record (side_at s e) { bad = or_else (side_at s e).bad place }) s (λ i. record (side_at s e) { bad = kept i })

goes-same : (e : SideId) (change : Flow → Flow) (s : Plain) → same_flow (change (flow_at s e)) (flow_at s e) ≡ true → change_flow e
    change s ≡ s
goes-same e change s h = put_flow-same e (change (flow_at s e)) s (same_flow-is (change (flow_at s e)) (flow_at s e) h)

module _ (g : Settings) (p : Past) (e : SideId) (s : Plain) where
  read_run-same : (ended : Bool) →
      same_flow (with_used (filter_in g p e s) (p.read e) (read_mark s e) (flow_at s e)) (flow_at s e) ≡ true →
      keeps_place e (read_place (filter_in g p e s) (p.read e) (read_mark s e) ended (flow_at s e)) s ≡ true →
      read_run g p e ended s ≡ s
  read_run-same ended used place =
      ap (λ ran. meets e (read_place (filter_in g p e s) (p.read e) (read_mark s e) ended (flow_at ran e)) ran)
      (goes-same e (with_used (filter_in g p e s) (p.read e) (read_mark s e)) s used)
      ∙ meets-same e (read_place (filter_in g p e s) (p.read e) (read_mark s e) ended (flow_at s e)) s place

  write_run-same : (may_end : Bool) →
      same_flow (with_turned (filter_in g p e s) (filter_out g p e s) (p.read e) (hold_of g p e s) (flow_at s e)) (flow_at s e) ≡ true →
      keeps_place (peer e) (write_place (filter_in g p e s) (filter_out g p e s) (p.read e) (hold_of g p e s) may_end
      (flow_at s e)) s ≡ true →
      write_run g p e may_end s ≡ s
  write_run-same may_end turned place =
      ap (λ ran. meets (peer e) (write_place (filter_in g p e s) (filter_out g p e s) (p.read e) (hold_of g p e s) may_end
      (flow_at ran e)) ran)
      (goes-same e (with_turned (filter_in g p e s) (filter_out g p e s) (p.read e) (hold_of g p e s)) s turned)
      ∙ meets-same (peer e) (write_place (filter_in g p e s) (filter_out g p e s) (p.read e) (hold_of g p e s) may_end
      (flow_at s e)) s place

  pub do_part-same : (x : Part) → leaves g p e s x ≡ true → do_part g p e x s ≡ s
  do_part-same Part.Hold h = goes-same e (with_held (filter_in g p e s) (filter_out g p e s) (p.read e) (hold_of g p e s)) s h
  do_part-same Part.Read h =
      let f = flow_at s e in
      let ended = (side_at s e).ended in
      let used = same_flow (with_used (filter_in g p e s) (p.read e) (read_mark s e) f) f in
      let place = keeps_place e (read_place (filter_in g p e s) (p.read e) (read_mark s e) ended f) s in
      let over = same_flow (with_read_done (filter_in g p e s) (p.read e) (read_mark s e) ended f) f in
      let a = and_parts (used && place) over h in
      let b = and_parts used place a.0 in
      ap (λ ran. change_flow e (with_read_done (filter_in g p e s) (p.read e) (read_mark s e) ended) ran) (read_run-same ended b.0 b.1)
      ∙ goes-same e (with_read_done (filter_in g p e s) (p.read e) (read_mark s e) ended) s a.1
  do_part-same Part.Move h = goes-same e (with_moved (filter_in g p e s) (p.read e)) s h
  do_part-same Part.Write h =
      let f = flow_at s e in
      let turned = same_flow (with_turned (filter_in g p e s) (filter_out g p e s) (p.read e) (hold_of g p e s) f) f in
      let place = keeps_place (peer e) (write_place (filter_in g p e s) (filter_out g p e s) (p.read e) (hold_of g p e s) true f) s in
      let over = same_flow (with_write_done (filter_in g p e s) (filter_out g p e s) (p.read e) (hold_of g p e s) f) f in
      let a = and_parts (turned && place) over h in
      let b = and_parts turned place a.0 in
      ap (λ ran. change_flow e (with_write_done (filter_in g p e s) (filter_out g p e s) (p.read e) (hold_of g p e s)) ran)
      (write_run-same true b.0 b.1)
      ∙ goes-same e (with_write_done (filter_in g p e s) (filter_out g p e s) (p.read e) (hold_of g p e s)) s a.1
  do_part-same Part.Drain h =
      let f = flow_at s e in
      let turned = same_flow (with_turned (filter_in g p e s) (filter_out g p e s) (p.read e) (hold_of g p e s) f) f in
      let place = keeps_place (peer e) (write_place (filter_in g p e s) (filter_out g p e s) (p.read e) (hold_of g p e s) false f) s in
      let b = and_parts turned place h in
      write_run-same false b.0 b.1

  parts-same : (xs : List Part) → list_all (leaves g p e s) xs ≡ true → fold (λ state x. do_part g p e x state) s xs ≡ s
  parts-same [] h = refl
  parts-same (x ∷ xs) h =
      let w = and_parts (leaves g p e s x) (list_all (leaves g p e s) xs) h in
      ap (λ state. fold (λ state x. do_part g p e x state) state xs) (do_part-same x w.0) ∙ parts-same xs w.1

  pub is_passed-is : is_passed g p e s ≡ true → round g p e s ≡ s
  is_passed-is h = parts-same (round_parts g p e s) h

passing_at : (test : Bool) (P : Type 0) (old other new : State) → (test ≡ true → P) →
    (if test then Some old else Some other) ≡ Some new → (P × (new ≡ old)) ⊎ (new ≡ other)
passing_at true P old other new f h = inl (f refl, cc)
passing_at false P old other new f h = inr (cc)

none_left : (x : Option Entry) → is_none x ≡ true → x ≡ None
none_left None h = refl
none_left (Some e) h = absurd (cc)

pub quiet-is : (g : Settings) (t : Trace) (x : Stage) (s : Plain) (new : State) → quiet g t x s ≡ Some new → Quietly g t x s new
quiet-is g t (Wanting []) s new h = cc
quiet-is g t (Marking (w ∷ ws) marks) s new h = cc
quiet-is g t (Marking [] marks) s new h = cc
quiet-is g t (Accepting n marks) s new h = cc
quiet-is g t (Serving (m ∷ ms)) s new h =
    let w = provided-is (asks_nothing (call_for g (past g t) s m)) (at (Serving (marks_left s m ms)) s) new h in
    (asks_nothing-is (call_for g (past g t) s m) w.0, w.1)
quiet-is g t (Filtering e ms) s new h = cc
quiet-is g t (Serving []) s new h = cc
quiet-is g t (Firing x rs) s new h = cc
quiet-is g t (Dispatching []) s new h = cc
quiet-is g t (Passing [] (e ∷ es)) s new h =
    passing_at (is_passed g (past g t) e s) (round g (past g t) e s ≡ s) (at (Passing [] es) s)
    (at (Passing (round_parts g (past g t) e s) (e ∷ es)) s) new
    (is_passed-is g (past g t) e s) h
quiet-is g t (Passing (x ∷ xs) (e ∷ es)) s new h = cc
quiet-is g t (Passing [] []) s new h = cc
quiet-is g t (Closing (c ∷ cs)) s new h =
    let w = provided-is (is_none (closing_entry g (past g t) s c)) (at (Closing cs) s) new h in
    (none_left (closing_entry g (past g t) s c) w.0, w.1)
quiet-is g t (Closing []) s new h = cc
quiet-is g t _ s new h = absurd (cc)
