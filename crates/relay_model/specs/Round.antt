-- Rounds of passing, on the plain state. A round of a direction has four parts where both of its sides are live; where
-- the side that it begins at is freed, only what was moved already goes on, and no filter is finished; where the side
-- that it ends at is freed, a round has no part.
use Rattle.std.specs.Prelude.{ℕ, Bool, true, false, List, [], ◌∷◌, fold, Option}
use Rattle.ev_types.specs.declared.side.SideId.{SideId}
use Rattle.ev_types.specs.Sides.{peer}
use Rattle.filter_model.specs.Filter.{Filter, or_else}
use Rattle.relay_model.specs.Settings.{Settings}
use Rattle.relay_model.specs.Plain.{Plain, side_at, flow_at, change_side, change_flow, is_live}
use Rattle.relay_model.specs.Past.{Past}
use Rattle.relay_model.specs.Rooms.{read_filter, write_filter, read_mark, hold_mark}
use Rattle.relay_model.specs.Pass.{with_held, with_used, read_place, with_read_done, with_moved, with_turned, write_place, with_write_done}

pub data Part : Type 0 where
  Hold : Part  -- the direction becomes held, or stops being held
  Read : Part  -- the read filter runs, and finishes
  Move : Part  -- the input goes to the output
  Write : Part  -- the write filter runs, and finishes
  Drain : Part  -- the write filter runs, and can't finish

-- the parts of a round, by whether the sides live at which the direction begins and ends
abbrev pub parts_of : Bool → Bool → List Part
parts_of true true = Part.Hold ∷ Part.Read ∷ Part.Move ∷ Part.Write ∷ []
parts_of false true = Part.Hold ∷ Part.Drain ∷ []
parts_of live false = []

-- a bad place is met by a filter of a side: the first one in time is kept
abbrev pub meets : SideId → Option ℕ → Plain → Plain
meets e place s = change_side e (λ x. record x { bad = or_else x.bad place }) s

module _ (g : Settings) (p : Past) (e : SideId) where
  abbrev pub filter_in : Plain → Filter
  filter_in s = read_filter g s e

  abbrev pub filter_out : Plain → Filter
  filter_out s = write_filter g s (peer e)

  abbrev pub hold_of : Plain → ℕ
  hold_of s = hold_mark g s (peer e)

  -- The read filter of the side runs, up to the end or not. A bad byte or a bad end marks the side.
  abbrev pub read_run : Bool → Plain → Plain
  read_run ended s =
      let ran = change_flow e (with_used (filter_in s) (p.read e) (read_mark s e)) s in
      meets e (read_place (filter_in s) (p.read e) (read_mark s e) ended (flow_at ran e)) ran

  -- The write filter of the peer runs, up to the end or not. A bad byte or a bad end marks the peer.
  abbrev pub write_run : Bool → Plain → Plain
  write_run may_end s =
      let ran = change_flow e (with_turned (filter_in s) (filter_out s) (p.read e) (hold_of s)) s in
      meets (peer e) (write_place (filter_in s) (filter_out s) (p.read e) (hold_of s) may_end (flow_at ran e)) ran

  abbrev pub do_part : Part → Plain → Plain
  do_part Part.Hold s = change_flow e (with_held (filter_in s) (filter_out s) (p.read e) (hold_of s)) s
  do_part Part.Read s = change_flow e (with_read_done (filter_in s) (p.read e) (read_mark s e) (side_at s e).ended) (read_run (side_at s e).ended s)
  do_part Part.Move s = change_flow e (with_moved (filter_in s) (p.read e)) s
  do_part Part.Write s = change_flow e (with_write_done (filter_in s) (filter_out s) (p.read e) (hold_of s)) (write_run true s)
  do_part Part.Drain s = write_run false s

  -- the parts of the next round
  abbrev pub round_parts : Plain → List Part
  round_parts s = parts_of (is_live s e) (is_live s (peer e))

  -- one whole round
  abbrev pub round : Plain → Plain
  round s = fold (λ state x. do_part x state) s (round_parts s)
