-- How much is still to be done in a direction. No step makes it more but a read, and each event that moves on takes of it: so turns that
-- move on are few.
use Rattle.std.specs.Prelude.{◌≡◌, ℕ, ◌+◌, ◌*◌, ◌≤◌, Bool, true, false, ◌||◌, not, nat_lt, if◌then◌else◌, ⊤, List, [], ◌∷◌, ◌++◌, length}
use Rattle.std.specs.Prelude.{sum_by, count_by}
use Rattle.std.specs.List.{flat_map, list_any, list_all}
use Rattle.ev_types.specs.declared.side.SideId.{SideId}
use Rattle.ev_types.specs.declared.answer.ReadAnswer.TheVariants as read
use Rattle.ev_types.specs.declared.answer.WriteAnswer.TheVariants as write
use Rattle.ev_types.specs.declared.entry.Entry.TheVariants as entry
use Rattle.ev_types.specs.Sides.{peer, same_end}
use Rattle.ev_types.specs.Trace.{Event, Trace}
use Rattle.relay_model.specs.Trace.{ended_by, bytes_read, has_ended}
use Rattle.filter_model.specs.Filter.{Filter}
use Rattle.relay_model.specs.Flow.{Flow, raw_input, input, output, raw_output}
use Rattle.relay_model.specs.Settings.{Settings, HasNoHooks}
use Rattle.relay_model.specs.Plain.{Plain, side_at, flow_at}
use Rattle.relay_model.specs.Past.{past}
use Rattle.relay_model.specs.Rooms.{read_filter, write_filter, input_length, output_length}
use Rattle.relay_model.specs.Stages.{State}
use Rattle.relay_model.specs.Turn.{Reaches}
use Rattle.relay_model.specs.Onward.{Leads}
use Rattle.relay_model.specs.Totals.{connected_by}
use Rattle.relay_model.specs.MovingOn.{moves_on}

-- Of one direction

-- a number as long as a filter isn't finished, and then 0
abbrev pub left_until : Bool → ℕ → ℕ
left_until done n = if done then 0 else n

-- The weight of a direction. A byte of its raw input weighs four, one of the input or the output two, one of the raw output one; the
-- read filter weighs two until it is finished, and the write filter one.
abbrev pub weight : Filter → Filter → List ℕ → Flow → ℕ
weight r w read f =
    4 * length (raw_input read f) + 2 * length (input r read f) + 2 * length (output r read f) + length (raw_output r w read f)
    + left_until f.read_done 2 + left_until f.write_done 1

-- the weight of the direction that begins at a side, with its filters and what was read there
abbrev pub work_left : Settings → Trace → Plain → SideId → ℕ
work_left g t s e = weight (read_filter g s e) (write_filter g s (peer e)) (bytes_read e t) (flow_at s e)

-- From a state to a later one of its run, work and given bytes together are no more than they were, and four for each byte that was
-- read. So no step makes work but a read, which makes four for a byte; and each byte that is given takes one off.
abbrev pub WorkFalls : Type 0
WorkFalls = (g : Settings) (t u : Trace) (s new : State) (e : SideId) → Reaches g t s → Leads g t s u new →
    work_left g u new.plain e + (flow_at new.plain e).given + 4 * length (bytes_read e t)
    ≤ work_left g t s.plain e + (flow_at s.plain e).given + 4 * length (bytes_read e u)

-- bytes are got from an end
abbrev pub gets_by : SideId → Event → Bool
gets_by e (entry.Read side room (read.Got n), bytes) = same_end side e
gets_by e _ = false

-- bytes of the direction that begins at a side are given: the end of its peer takes them
abbrev pub gives_of : SideId → Event → Bool
gives_of e (entry.Write side offered (write.Took n), bytes) = same_end side (peer e)
gives_of e _ = false

-- an event that carries a direction on: bytes are got or given, or the end that it begins at ends
abbrev pub carries_on : SideId → Event → Bool
carries_on e y = gets_by e y || gives_of e y || ended_by e y

-- what is left of carrying it on: its work, and one until that end has ended
abbrev pub carrying_left : Settings → Trace → Plain → SideId → ℕ
carrying_left g t s e = work_left g t s e + (if not (has_ended e t) then 1 else 0)

-- In a part of a run so many events carry a direction on at most: by how much what is left of that fell, and five for each byte that was
-- read in it.
abbrev pub CarryingIsMeasured : Type 0
CarryingIsMeasured = (g : Settings) (t part : Trace) (s new : State) (e : SideId) → Reaches g t s → Leads g t s (t ++ part) new →
    count_by (carries_on e) part + carrying_left g (t ++ part) new.plain e + 5 * length (bytes_read e t)
    ≤ carrying_left g t s.plain e + 5 * length (bytes_read e (t ++ part))

-- an event that moves on in a direction: it is carried on, or the end that it begins at is connected
abbrev pub moves_on_in : SideId → Event → Bool
moves_on_in e y = carries_on e y || connected_by e y

-- 1 while an end is connecting, and before its link is opened
abbrev pub left_to_connect : Plain → SideId → ℕ
left_to_connect s e = if nat_lt e.link s.opened then (if (side_at s e).connecting then 1 else 0) else 1

-- what is left of moving on in it
abbrev pub moves_left : Settings → Trace → Plain → SideId → ℕ
moves_left g t s e = carrying_left g t s e + left_to_connect s e

-- the bytes in the four buffers of the direction that begins at a side
abbrev pub buffered_from : Settings → Trace → Plain → SideId → ℕ
buffered_from g t s e = input_length g (past g t) s e + output_length g (past g t) s (peer e)

-- What is left of moving on in a direction is at most four for each byte that it buffers, and five.
abbrev pub MovesLeftAreFew : Type 0
MovesLeftAreFew = (g : Settings) (t : Trace) (s : Plain) (e : SideId) → moves_left g t s e ≤ 4 * buffered_from g t s e + 5

-- Of some directions, told by the sides that they begin at

-- each event of a part that moves on does so in one of them
abbrev pub MovesAreOf : List SideId → Trace → Type 0
MovesAreOf es part = list_all (λ y. not (moves_on y) || list_any (λ e. moves_on_in e y) es) part ≡ true

-- what is left of moving on in them
abbrev pub all_moves_left : Settings → Trace → Plain → List SideId → ℕ
all_moves_left g t s es = sum_by (λ e. moves_left g t s e) es

-- how many bytes were read where they begin
abbrev pub all_read_count : Trace → List SideId → ℕ
all_read_count t es = sum_by (λ e. length (bytes_read e t)) es

-- the bytes in their buffers
abbrev pub all_buffered_from : Settings → Trace → Plain → List SideId → ℕ
all_buffered_from g t s es = sum_by (λ e. buffered_from g t s e) es

-- With no hooks, in a part of a run in which all that moves on does so in these directions, so many events move on at most: by how much
-- what is left of that fell, and five for each byte that was read in it.
abbrev pub MovesAreMeasured : Type 0
MovesAreMeasured = (g : Settings) (t part : Trace) (s new : State) (es : List SideId) → HasNoHooks g → Reaches g t s →
    Leads g t s (t ++ part) new → MovesAreOf es part →
    count_by moves_on part + all_moves_left g (t ++ part) new.plain es + 5 * all_read_count t es
    ≤ all_moves_left g t s.plain es + 5 * all_read_count (t ++ part) es

-- of each two turns in a row one has an event that moves on
abbrev pub PairsMoveOn : List Trace → Type 0
PairsMoveOn [] = ⊤
PairsMoveOn (x ∷ []) = ⊤
PairsMoveOn (x ∷ y ∷ turns) = ((list_any moves_on x || list_any moves_on y) ≡ true) × PairsMoveOn (y ∷ turns)

-- With no hooks, such turns, where all that moves on does so in these directions, are at most 10 for each byte that was read in them, 8
-- for each byte that the directions buffered before, 10 for each direction, and 1.
abbrev pub TurnsAreFew : Type 0
TurnsAreFew = (g : Settings) (t : Trace) (s : State) (turns : List Trace) (new : State) (es : List SideId) → HasNoHooks g → Reaches g t s →
    Leads g t s (t ++ flat_map (λ turn. turn) turns) new → MovesAreOf es (flat_map (λ turn. turn) turns) → PairsMoveOn turns →
    length turns + 10 * all_read_count t es
    ≤ 10 * all_read_count (t ++ flat_map (λ turn. turn) turns) es + 8 * all_buffered_from g t s.plain es + 10 * length es + 1
