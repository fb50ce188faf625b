-- The end of a turn: faulty sides are freed, writing is ended behind the last byte, and links that are done are freed.
use Rattle.std.specs.Prelude.{ℕ, zero, suc, ◌+◌, Bool, true, ◌==◌, ◌&&◌, not, if◌then◌else◌, List, [], ◌∷◌, ◌++◌, length, Option, Some}
use Rattle.std.specs.Prelude.{None, option_map}
use Rattle.ev_types.specs.declared.side.Side.TheVariants.{In, Out}
use Rattle.ev_types.specs.declared.side.SideId.{SideId}
use Rattle.ev_types.specs.declared.why.Cause.{Cause}
use Rattle.ev_types.specs.declared.why.Cause.TheVariants as cause
use Rattle.ev_types.specs.declared.entry.Entry.{Entry}
use Rattle.ev_types.specs.declared.entry.Entry.TheVariants as entry
use Rattle.ev_types.specs.Sides.{peer}
use Rattle.relay_model.specs.Settings.{Settings}
use Rattle.relay_model.specs.Plain.{Plain, PlainSide, side_at, flow_at, change_side, is_live, freed}
use Rattle.relay_model.specs.Past.{Past}
use Rattle.relay_model.specs.Rooms.{raw_input_at, input_at, output_at, raw_output_at, output_length}

-- one thing that is looked at
pub data CloseStep : Type 0 where
  Faulty : SideId → CloseStep  -- is the side to be freed for a fault
  EndWriting : SideId → CloseStep  -- is writing to be ended at the side
  BothDone : ℕ → CloseStep  -- are both sides of the link to be freed as done, In first
  OutDone : ℕ → CloseStep  -- its Out side is freed as done, as In was just now
  PeerGone : SideId → CloseStep  -- is the side to be freed as its peer is gone
  Shut : SideId → CloseStep  -- is the end to be closed

-- what is looked at for one link, in order
abbrev pub closing_of : ℕ → List CloseStep
closing_of k =
    let i : SideId = record { link = k; side = In } in
    let o : SideId = record { link = k; side = Out } in
    CloseStep.Faulty i ∷ CloseStep.Faulty o ∷ CloseStep.EndWriting o ∷ CloseStep.EndWriting i ∷ CloseStep.BothDone k
    ∷ CloseStep.PeerGone i ∷ CloseStep.PeerGone o ∷ CloseStep.Shut i ∷ CloseStep.Shut o ∷ []

-- for n links from number k on
abbrev pub closing_from : ℕ → ℕ → List CloseStep
closing_from k zero = []
closing_from k (suc n) = closing_of k ++ closing_from (k + 1) n

-- why a side is to be freed for a fault: its end failed, else a timeout passed, else a filter met a bad place
abbrev pub fault : PlainSide → Option Cause
fault x = if x.failed then Some cause.Failed else (if x.expired then Some cause.Timeout else option_map cause.Filter x.bad)

-- A free tells how many bytes were moved from the side's input to its peer's output, and how many its own end took.
abbrev pub freed_entry : Plain → SideId → Cause → Entry
freed_entry s e why = entry.Freed e why (flow_at s e).moved (flow_at s (peer e)).given

-- all bytes of the direction that begins at a side were given, and no more will come
abbrev pub is_complete : Settings → Past → Plain → SideId → Bool
is_complete g p s from =
    (side_at s from).ended && (flow_at s from).write_done
    && length (raw_input_at p s from) == 0 && length (input_at g p s from) == 0
    && length (output_at g p s (peer from)) == 0 && length (raw_output_at g p s (peer from)) == 0

abbrev pub entry_where : Bool → Entry → Option Entry
entry_where holds x = if holds then Some x else None

-- what is put where the thing is to be done, or nothing
abbrev pub closing_entry : Settings → Past → Plain → CloseStep → Option Entry
closing_entry g p s (CloseStep.Faulty e) = if is_live s e then option_map (freed_entry s e) (fault (side_at s e)) else None
closing_entry g p s (CloseStep.EndWriting e) =
    let x = side_at s e in
    entry_where (x.live && is_live s (peer e) && is_complete g p s (peer e) && not x.connecting && not x.write_ended) (entry.CloseWrite e)
closing_entry g p s (CloseStep.BothDone k) =
    let i : SideId = record { link = k; side = In } in
    let x = side_at s i in
    let y = side_at s (peer i) in
    entry_where (x.live && y.live && x.write_ended && y.write_ended) (freed_entry s i cause.Done)
closing_entry g p s (CloseStep.OutDone k) = Some (freed_entry s (record { link = k; side = Out }) cause.Done)
closing_entry g p s (CloseStep.PeerGone e) =
    entry_where (is_live s e && not (is_live s (peer e)) && output_length g p s e == 0) (freed_entry s e cause.PeerGone)
closing_entry g p s (CloseStep.Shut e) = entry_where (not (is_live s e) && not (side_at s e).closed) (entry.Close e)

-- what that changes
abbrev pub closed_by : CloseStep → Plain → Plain
closed_by (CloseStep.Faulty e) s = freed e s
closed_by (CloseStep.EndWriting e) s = change_side e (λ x. record x { write_ended = true }) s
closed_by (CloseStep.BothDone k) s = freed (record { link = k; side = In }) s
closed_by (CloseStep.OutDone k) s = freed (record { link = k; side = Out }) s
closed_by (CloseStep.PeerGone e) s = freed e s
closed_by (CloseStep.Shut e) s = change_side e (λ x. record x { closed = true }) s

-- what is looked at next, where the thing was done: freeing both sides of a link as done is one step with two entries
abbrev pub steps_left : CloseStep → List CloseStep → List CloseStep
steps_left (CloseStep.BothDone k) xs = CloseStep.OutDone k ∷ xs
steps_left _ xs = xs
