-- What a trace says of an end: what was read from it and given to it, whether it has ended, and what was told when its
-- side was freed. Which traces can be stands in Turn.
use Rattle.std.specs.Prelude.{ℕ, Bool, false, if◌then◌else◌, List, [], ◌∷◌}
use Rattle.std.specs.List.{flat_map, list_any}
use Rattle.ev_types.specs.declared.side.SideId.{SideId}
use Rattle.ev_types.specs.declared.answer.ReadAnswer.TheVariants as read
use Rattle.ev_types.specs.declared.answer.WriteAnswer.TheVariants as write
use Rattle.ev_types.specs.declared.entry.Entry.TheVariants as entry
use Rattle.ev_types.specs.Sides.{same_end}
use Rattle.ev_types.specs.Trace.{Event, Trace}

-- the bytes that one event read from an end
abbrev pub read_by : SideId → Event → List ℕ
read_by e (entry.Read side room (read.Got n), bytes) = if same_end side e then bytes else []
read_by e _ = []

-- the bytes that an end took in one event
abbrev pub given_by : SideId → Event → List ℕ
given_by e (entry.Write side offered (write.Took n), bytes) = if same_end side e then bytes else []
given_by e _ = []

-- an event in which an end ended
abbrev pub ended_by : SideId → Event → Bool
ended_by e (entry.Read side room read.Ended, bytes) = same_end side e
ended_by e _ = false

-- all bytes that were read from an end
abbrev pub bytes_read : SideId → Trace → List ℕ
bytes_read e t = flat_map (read_by e) t

-- all bytes that were given to an end
abbrev pub bytes_given : SideId → Trace → List ℕ
bytes_given e t = flat_map (given_by e) t

-- an end has ended where one of its reads said so
abbrev pub has_ended : SideId → Trace → Bool
has_ended e t = list_any (ended_by e) t

-- how many bytes an event says were moved from a side, where the event is its free
abbrev pub told_moved_by : SideId → Event → List ℕ
told_moved_by e (entry.Freed side cause moved given, bytes) = if same_end side e then moved ∷ [] else []
told_moved_by e _ = []

-- how many bytes an event says an end was given, where the event is the free of its side
abbrev pub told_given_by : SideId → Event → List ℕ
told_given_by e (entry.Freed side cause moved given, bytes) = if same_end side e then given ∷ [] else []
told_given_by e _ = []

-- an event in which writing was ended at an end
abbrev pub write_closed_by : SideId → Event → Bool
write_closed_by e (entry.CloseWrite side, bytes) = same_end side e
write_closed_by e _ = false

-- what was told as moved from a side when it was freed: a number for each free, none before
abbrev pub moved_at_free : SideId → Trace → List ℕ
moved_at_free e t = flat_map (told_moved_by e) t

-- what was told as given to an end when its side was freed
abbrev pub given_at_free : SideId → Trace → List ℕ
given_at_free e t = flat_map (told_given_by e) t

-- writing was ended at an end
abbrev pub is_write_closed : SideId → Trace → Bool
is_write_closed e t = list_any (write_closed_by e) t
