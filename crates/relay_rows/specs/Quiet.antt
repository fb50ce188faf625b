-- The state after one silent step, where the relay goes on with no entry.
use Rattle.std.specs.Prelude.{ℕ, Bool, true, false, ◌&&◌, if◌then◌else◌, is_none, [], ◌∷◌, Option, Some, None}
use Rattle.std.specs.List.{list_all}
use Rattle.ev_types.specs.declared.side.SideId.{SideId}
use Rattle.ev_types.specs.Sides.{peer}
use Rattle.ev_types.specs.Trace.{Trace}
use Rattle.relay_model.specs.Settings.{Settings}
use Rattle.relay_model.specs.Due.{batch}
use Rattle.relay_model.specs.Plain.{Plain, side_at, flow_at, all_sides}
use Rattle.relay_model.specs.Past.{Past, past}
use Rattle.relay_model.specs.Rooms.{wanted, read_mark}
use Rattle.relay_model.specs.Pass.{with_held, with_used, read_place, with_read_done, with_moved, with_turned, write_place, with_write_done}
use Rattle.filter_model.specs.Filter.{or_else}
use Rattle.relay_model.specs.Round.{Part, round_parts, do_part, filter_in, filter_out, hold_of}
use Rattle.relay_model.specs.Serve.{call_for, marks_left, after_got}
use Rattle.relay_model.specs.Close.{closing_from, closing_entry}
use Rattle.relay_model.specs.Stages.{Stage, Between, Wanting, Marking, Accepting, Serving, Filtering, Dispatching, Firing, Passing, Closing}
use Rattle.relay_model.specs.Stages.{State, at}
use Rattle.relay_model.specs.Turn.{after_fire}
use Rattle.relay_rows.specs.Same.{same_number, same_flow}
use Rattle.relay_rows.specs.Put.{provided, asks_nothing}

-- would the side keep its bad place where one of its filters meets this one
abbrev pub keeps_place : SideId → Option ℕ → Plain → Bool
keeps_place e place s = same_number (or_else (side_at s e).bad place) (side_at s e).bad

-- Would a part of a round leave the direction from a side as it is, with the bad places of its sides?
abbrev pub leaves : Settings → Past → SideId → Plain → Part → Bool
leaves g p e s Part.Hold =
    same_flow (with_held (filter_in g p e s) (filter_out g p e s) (p.read e) (hold_of g p e s) (flow_at s e)) (flow_at s e)
leaves g p e s Part.Read =
    let f = flow_at s e in
    let ended = (side_at s e).ended in
    same_flow (with_used (filter_in g p e s) (p.read e) (read_mark s e) f) f
    && keeps_place e (read_place (filter_in g p e s) (p.read e) (read_mark s e) ended f) s
    && same_flow (with_read_done (filter_in g p e s) (p.read e) (read_mark s e) ended f) f
leaves g p e s Part.Move = same_flow (with_moved (filter_in g p e s) (p.read e) (flow_at s e)) (flow_at s e)
leaves g p e s Part.Write =
    let f = flow_at s e in
    same_flow (with_turned (filter_in g p e s) (filter_out g p e s) (p.read e) (hold_of g p e s) f) f
    && keeps_place (peer e) (write_place (filter_in g p e s) (filter_out g p e s) (p.read e) (hold_of g p e s) true f) s
    && same_flow (with_write_done (filter_in g p e s) (filter_out g p e s) (p.read e) (hold_of g p e s) f) f
leaves g p e s Part.Drain =
    let f = flow_at s e in
    same_flow (with_turned (filter_in g p e s) (filter_out g p e s) (p.read e) (hold_of g p e s) f) f
    && keeps_place (peer e) (write_place (filter_in g p e s) (filter_out g p e s) (p.read e) (hold_of g p e s) false f) s

-- a direction is passed where no part of a round would change it
abbrev pub is_passed : Settings → Past → SideId → Plain → Bool
is_passed g p e s = list_all (leaves g p e s) (round_parts g p e s)

-- The state after a silent step, or none where an entry has to come first.
abbrev pub quiet : Settings → Trace → Stage → Plain → Option State
quiet g t (Wanting []) s = Some (at (Marking (wanted g (past g t) s) []) s)
quiet g t (Marking (w ∷ ws) marks) s = Some (at (Marking ws marks) s)
quiet g t (Marking [] marks) s = Some (at (Accepting 0 marks) s)
quiet g t (Accepting n marks) s = Some (at (Serving marks) s)
quiet g t (Serving (m ∷ ms)) s = provided (asks_nothing (call_for g (past g t) s m)) (at (Serving (marks_left s m ms)) s)
quiet g t (Filtering e ms) s = Some (at (Serving ms) (after_got g (past g t) e s))
quiet g t (Serving []) s = Some (at (Dispatching (batch s.due)) (record s { due = [] }))
quiet g t (Firing x rs) s = Some (at (after_fire x rs) s)
quiet g t (Dispatching []) s = Some (at (Passing [] (all_sides s)) s)
quiet g t (Passing [] (e ∷ es)) s =
    if is_passed g (past g t) e s then Some (at (Passing [] es) s)
    else Some (at (Passing (round_parts g (past g t) e s) (e ∷ es)) s)
quiet g t (Passing (x ∷ xs) (e ∷ es)) s = Some (at (Passing xs (e ∷ es)) (do_part g (past g t) e x s))
quiet g t (Passing [] []) s = Some (at (Closing (closing_from 0 s.opened)) s)
quiet g t (Closing (c ∷ cs)) s = provided (is_none (closing_entry g (past g t) s c)) (at (Closing cs) s)
quiet g t (Closing []) s = Some (at Between s)
quiet g t _ s = None
