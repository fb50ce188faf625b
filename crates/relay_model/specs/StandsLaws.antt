-- What follows of a whole relay where nothing is lost, made or changed: the words on each direction, at its sides' filters.
use Rattle.std.specs.Prelude.{◌≡◌, ℕ, ◌<◌, true, false, if◌then◌else◌, ◌++◌, take, Contains}
use Rattle.ev_types.specs.declared.side.SideId.{SideId}
use Rattle.ev_types.specs.Sides.{peer}
use Rattle.ev_types.specs.Trace.{Trace}
use Rattle.relay_model.specs.Trace.{bytes_read, bytes_given, has_ended, moved_at_free, is_write_closed}
use Rattle.filter_model.specs.FilterLaws.{IsPrefixOf, more}
use Rattle.relay_model.specs.Flow.{middle, output, raw_output, passed, passed_at_end}
use Rattle.relay_model.specs.ConservedLaws.{write_adds}
use Rattle.relay_model.specs.Settings.{Settings}
use Rattle.relay_model.specs.Plain.{Plain, flow_at, is_live}
use Rattle.relay_model.specs.Rooms.{read_filter, write_filter}
use Rattle.relay_model.specs.Stands.{Kept, AllAccounted, KeptConserved, buffers_at}

-- The bytes that were given to a side are a beginning of what the filters make of the bytes that were read from its peer.
abbrev pub BytesGivenBegin : Type 0
BytesGivenBegin = (g : Settings) (t : Trace) (s : Plain) → AllAccounted g t s → (e : SideId) →
    IsPrefixOf (bytes_given (peer e) t) (passed (read_filter g s e) (write_filter g s (peer e)) (has_ended e t) (bytes_read e t))

-- Where writing was ended at a side, they are all that the filters make of those, with their ends.
abbrev pub ClosedIsWhole : Type 0
ClosedIsWhole = (g : Settings) (t : Trace) (s : Plain) → AllAccounted g t s → (e : SideId) → is_write_closed (peer e) t ≡ true →
    bytes_given (peer e) t ≡ passed_at_end (read_filter g s e) (write_filter g s (peer e)) (bytes_read e t)

-- While both sides of a link live, its buffers hold exactly the rest.
abbrev pub BuffersHoldTheRest : Type 0
BuffersHoldTheRest = (g : Settings) (t : Trace) (v : Kept) → KeptConserved g t v → (e : SideId) → e.link < v.plain.opened →
    is_live v.plain e ≡ true → is_live v.plain (peer e) ≡ true →
    bytes_given (peer e) t
    ++ ((buffers_at v.buffers e).raw_output
    ++ write_adds (read_filter g v.plain e) (write_filter g v.plain (peer e)) (has_ended e t) (bytes_read e t) (flow_at v.plain e) (buffers_at v.buffers e))
    ≡ passed (read_filter g v.plain e) (write_filter g v.plain (peer e)) (has_ended e t) (bytes_read e t)

-- Once a side was freed, what was given to its peer and what waits there are what was moved before: so many bytes as the free
-- told.
abbrev pub FreeAccountsForTheRest : Type 0
FreeAccountsForTheRest = (g : Settings) (t : Trace) (s : Plain) → AllAccounted g t s → (e : SideId) → e.link < s.opened → (moved : ℕ) →
    Contains (moved_at_free e t) moved → (flow_at s e).write_done ≡ false →
    bytes_given (peer e) t
    ++ (raw_output (read_filter g s e) (write_filter g s (peer e)) (bytes_read e t) (flow_at s e)
    ++ more (write_filter g s (peer e)) (take (flow_at s e).turned (middle (read_filter g s e) (bytes_read e t) (flow_at s e)))
    (output (read_filter g s e) (bytes_read e t) (flow_at s e)))
    ≡ (write_filter g s (peer e)).before (take moved (if has_ended e t then (read_filter g s e).at_end (bytes_read e t) else (read_filter g s e).before (bytes_read e t)))
