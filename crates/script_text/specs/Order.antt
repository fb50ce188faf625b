-- Which line may stand behind which: what the lines so far say of links and ends, and what they leave room for.
use Rattle.std.specs.Prelude.{ℕ, List, [], ◌∷◌, ◌++◌, ◌==◌, ◌&&◌, ◌||◌, not, Bool, true, false, if◌then◌else◌, nat_lt, length}
use Rattle.std.specs.Prelude.{slice_index_or, Option, Some, None, option_map}
use Rattle.std.specs.List.{list_any, flat_map}
use Rattle.ev_types.specs.Sides.{number}
use Rattle.ev_types.specs.declared.side.SideId.{SideId}
use Rattle.ev_types.specs.declared.turn_line.TurnLine.{TurnLine}
use Rattle.ev_types.specs.declared.turn_line.TurnLine.TheVariants.{NewLink, Conn, Pending, Eof, ReadFail, Take, WriteFail, Spur, PollFail}
use Rattle.script_text.specs.declared.line.Line.{Line}
use Rattle.script_text.specs.declared.line.Line.TheVariants.{Set, Plan, At, Within, Skipped}
use Rattle.script_text.specs.declared.setting.Setting.{Setting}
use Rattle.script_text.specs.declared.setting.Setting.TheVariants.{Group, Member}
use Rattle.rate_group.specs.declared.group_set.GroupSet.{GroupSet}
use Rattle.ev_types.specs.ScriptTurn.{ScriptTurn, lines_of}
use Rattle.script_text.specs.Given.{with_setting}
use Rattle.script_text.specs.Script.{SoFar}

-- the link that a line opens, with whether the line says wait
abbrev pub opened_by : TurnLine → List Bool
opened_by (NewLink wait) = wait ∷ []
opened_by _ = []

-- the links that some lines open, in their order
abbrev pub opened_links : List TurnLine → List Bool
opened_links before = flat_map opened_by before

-- how many links some lines open
abbrev pub opened : List TurnLine → ℕ
opened before = length (opened_links before)

-- is this a link that some lines open with wait
abbrev pub is_undecided : ℕ → List TurnLine → Bool
is_undecided link before = slice_index_or (opened_links before) link false

-- does a line end what the end with this number gives, or fail it
abbrev pub is_end_of : ℕ → TurnLine → Bool
is_end_of end (Eof side) = number side == end
is_end_of end (ReadFail side) = number side == end
is_end_of end _ = false

-- do some lines end what the end with this number gives, or fail it
abbrev pub is_ended : ℕ → List TurnLine → Bool
is_ended end before = list_any (is_end_of end) before

-- do some lines open the link of this end
abbrev pub is_known : SideId → List TurnLine → Bool
is_known side before = nat_lt side.link (opened before)

-- May this line of a turn stand behind the others? There are at most 256 links. A line names a link that was opened
-- before, and one that decides a link names one that was opened with wait. An end whose bytes were ended or failed
-- gets no more of them.
abbrev pub may_follow : List TurnLine → TurnLine → Bool
may_follow before (NewLink wait) = nat_lt (opened before) 256
may_follow before (Conn link made) = is_undecided link before
may_follow before (Pending side bytes) = is_known side before && not (is_ended (number side) before)
may_follow before (Eof side) = is_known side before
may_follow before (ReadFail side) = is_known side before
may_follow before (Take side more) = is_known side before
may_follow before (WriteFail side) = is_known side before
may_follow before (Spur side) = is_known side before
may_follow before PollFail = true

-- May this setting stand behind these groups? A group has the next number, and sides are members of one that was set before.
abbrev pub may_be_set : List GroupSet → Setting → Bool
may_be_set groups (Group number group) = number == length groups
may_be_set groups (Member side number) = nat_lt number (length groups)
may_be_set groups _ = true

-- the group that a line sets
abbrev pub group_set : Setting → List GroupSet
group_set (Group number group) = group ∷ []
group_set _ = []

-- a line more in the last turn
abbrev pub with_line : List ScriptTurn → TurnLine → List ScriptTurn
with_line [] line = []
with_line (turn ∷ []) line = (turn.0, turn.1 ++ line ∷ []) ∷ []
with_line (turn ∷ next ∷ more) line = turn ∷ with_line (next ∷ more) line

-- The script with a line more, where that line may stand there. Settings and plans stand before the first turn, each setting once.
-- There are at most 20,000 turns, and each line but `at`, `set` and `on` belongs to a turn. A skipped line may stand anywhere, and adds nothing.
abbrev pub extended : SoFar → Line → Option SoFar
extended so_far (Set setting) =
    if nat_lt 0 (length so_far.turns) || not (may_be_set so_far.groups setting) then None
    else option_map (λ g. record so_far { given = g; groups = so_far.groups ++ group_set setting }) (with_setting so_far.given setting)
extended so_far (Plan side item) =
    if nat_lt 0 (length so_far.turns) then None else Some (record so_far { plans = so_far.plans ++ (side, item) ∷ [] })
extended so_far (At ms) =
    if nat_lt (length so_far.turns) 20000
    then Some (record so_far { turns = so_far.turns ++ (ms, []) ∷ [] }) else None
extended so_far (Within line) =
    if nat_lt 0 (length so_far.turns) && may_follow (lines_of so_far.turns) line
    then Some (record so_far { turns = with_line so_far.turns line }) else None
extended so_far Skipped = Some so_far
