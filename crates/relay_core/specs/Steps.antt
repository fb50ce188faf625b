-- The steps of closing as the code names them: their order, what they change, and what they put into the trace. A step that frees both
-- sides of a link is two for the model, and here it is one.
use Rattle.std.specs.Prelude.{◌≡◌, ⊤, ℕ, Bool, false, ◌&&◌, not, is_some, List, [], ◌∷◌, Option, Some, None, option_map}
use Rattle.std.specs.List.{All}
use Rattle.ev_types.specs.declared.why.Cause.TheVariants as cause
use Rattle.ev_types.specs.declared.entry.Entry.{Entry}
use Rattle.ev_types.specs.declared.entry.Entry.TheVariants as entry
use Rattle.ev_types.specs.Trace.{Trace}
use Rattle.relay_model.specs.Plain.{PlainSide, side_at}
use Rattle.relay_model.specs.Close.{CloseStep, fault, freed_entry}
use Rattle.relay_state.specs.State.{State}
use Rattle.relay_state.specs.Closing.{in_side, out_side, closed, closing_entry}
use Rattle.relay_core.specs.RelayValue.{RelayValue, IsLeftWhereDone}
use Rattle.relay_core.specs.declared.close.Closing.{Closing}
use Rattle.relay_core.specs.declared.close.Closing.TheVariants as closing

-- Failed sides are freed; writing is ended where all was given, in the direction from In first; a link that is done at both sides is
-- freed; a side whose peer is gone is freed; the ends of freed sides are closed.
abbrev pub steps_of : ℕ → List Closing
steps_of k =
    closing.Faulty (in_side k) ∷ closing.Faulty (out_side k) ∷ closing.EndWriting (out_side k) ∷ closing.EndWriting (in_side k)
    ∷ closing.BothDone k ∷ closing.PeerGone (in_side k) ∷ closing.PeerGone (out_side k)
    ∷ closing.Shut (in_side k) ∷ closing.Shut (out_side k) ∷ []

abbrev pub link_of_step : Closing → ℕ
link_of_step (closing.Faulty e) = e.link
link_of_step (closing.EndWriting e) = e.link
link_of_step (closing.BothDone k) = k
link_of_step (closing.PeerGone e) = e.link
link_of_step (closing.Shut e) = e.link

-- where a step shuts a side, its link is not kept whole if it is over
abbrev pub LeavesWhereDone : Closing → RelayValue → Type 0
LeavesWhereDone (closing.Shut e) r = IsLeftWhereDone r e.link
LeavesWhereDone _ r = ⊤

-- the step as the model names it
abbrev pub close_step : Closing → CloseStep
close_step (closing.Faulty e) = CloseStep.Faulty e
close_step (closing.EndWriting e) = CloseStep.EndWriting e
close_step (closing.BothDone k) = CloseStep.BothDone k
close_step (closing.PeerGone e) = CloseStep.PeerGone e
close_step (closing.Shut e) = CloseStep.Shut e

-- this step of closing is not called for
abbrev pub IsUncalled : State → Closing → Type 0
IsUncalled s step = is_some (closing_entry s (close_step step)) ≡ false

-- closing has nothing to do at this link
abbrev pub IsSettled : State → ℕ → Type 0
IsSettled s k = All (IsUncalled s) (steps_of k)

-- a side was not freed, has not ended and is not faulty, and writing was not ended at it
abbrev pub is_running_side : PlainSide → Bool
is_running_side x = x.live && (not x.ended && (not x.write_ended && not (is_some (fault x))))

-- so it is of both sides of a link
abbrev pub is_running : State → ℕ → Bool
is_running s k = is_running_side (side_at s.plain (in_side k)) && is_running_side (side_at s.plain (out_side k))

-- what a step changes
abbrev pub after_closing : State → Closing → State
after_closing s (closing.BothDone k) = closed (CloseStep.OutDone k) (closed (CloseStep.BothDone k) s)
after_closing s (closing.Faulty e) = closed (CloseStep.Faulty e) s
after_closing s (closing.EndWriting e) = closed (CloseStep.EndWriting e) s
after_closing s (closing.PeerGone e) = closed (CloseStep.PeerGone e) s
after_closing s (closing.Shut e) = closed (CloseStep.Shut e) s

-- an entry with no bytes, or nothing
abbrev pub entry_events : Option Entry → Trace
entry_events None = []
entry_events (Some x) = (x, []) ∷ []

-- what a step puts
abbrev pub closing_events : State → Closing → Trace
closing_events s (closing.Faulty e) = entry_events (option_map (freed_entry s.plain e) (fault (side_at s.plain e)))
closing_events s (closing.EndWriting e) = (entry.CloseWrite e, []) ∷ []
closing_events s (closing.BothDone k) =
    (freed_entry s.plain (in_side k) cause.Done, []) ∷ (freed_entry s.plain (out_side k) cause.Done, []) ∷ []
closing_events s (closing.PeerGone e) = (freed_entry s.plain e cause.PeerGone, []) ∷ []
closing_events s (closing.Shut e) = (entry.Close e, []) ∷ []
