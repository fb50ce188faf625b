-- Groups: members share one bucket a direction. Who was a member at which place is told from the trace, and so is
-- what members moved, when the group was suspended, and what is left.
use Rattle.std.specs.Prelude.{ℕ, zero, suc, ◌+◌, ◌-◌, ◌/◌, min, max, Bool, false, ◌==◌, ◌&&◌, ◌||◌, nat_lt, if◌then◌else◌, List, [], ◌∷◌}
use Rattle.std.specs.Prelude.{◌++◌, length, take, count_by, fold, Option, Some, None, slice_index_or}
use Rattle.token_bucket.specs.declared.limit.Dir.{Dir}
use Rattle.ev_types.specs.declared.side.SideId.{SideId}
use Rattle.ev_types.specs.declared.act.Act.TheVariants as act
use Rattle.ev_types.specs.declared.answer.AskAnswer.TheVariants as ask
use Rattle.ev_types.specs.declared.entry.Entry.TheVariants as entry
use Rattle.ev_types.specs.Sides.{same_end}
use Rattle.ev_types.specs.Trace.{Event, Trace}
use Rattle.relay_model.specs.Settings.{Settings, GroupSet, group_set}
use Rattle.relay_model.specs.Plain.{Plain}
use Rattle.relay_model.specs.Rates.{level, moved_by}
use Rattle.token_bucket.specs.Spells.{Spell, Beat, Begins, Moves, spells}
use Rattle.token_bucket.specs.Levels.{limit_of}

-- Members

abbrev pub same_group : Option ℕ → ℕ → Bool
same_group None n = false
same_group (Some m) n = m == n

-- the group of a side after an event, by that before it: its link opens, it joins or leaves, it is freed
abbrev pub group_by : Settings → SideId → Option ℕ → Event → Option ℕ
group_by g e was (entry.Opened link connected, bytes) = if link == e.link then group_set g e.side else was
group_by g e was (entry.Asked me (act.Join side n) ask.Ok, bytes) = if same_end side e then Some n else was
group_by g e was (entry.Asked me (act.Free side) ask.Ok, bytes) = if same_end side e then None else was
group_by g e was (entry.Asked me (act.Leave side) ask.Ok, bytes) = if same_end side e then None else was
group_by g e was (entry.Freed side cause moved given, bytes) = if same_end side e then None else was
group_by g e was _ = was

-- the group of a side after a trace
abbrev pub group_after : Settings → SideId → Trace → Option ℕ
group_after g e t = fold (λ was x. group_by g e was x) None t

-- What an event is to a group, behind a trace: bytes count where their side is a member at that place.
abbrev pub beat_among : Settings → ℕ → Dir → Trace → Event → Beat
beat_among g n d before (entry.Turn ms, bytes) = Begins ms
beat_among g n d before (entry.Read side room answer, bytes) =
    Moves (if same_group (group_after g side before) n then moved_by side d (entry.Read side room answer, bytes) else 0)
beat_among g n d before (entry.Write side offered answer, bytes) =
    Moves (if same_group (group_after g side before) n then moved_by side d (entry.Write side offered answer, bytes) else 0)
beat_among g n d before _ = Moves 0

abbrev pub beats_among : Settings → ℕ → Dir → Trace → Trace → List Beat
beats_among g n d before [] = []
beats_among g n d before (x ∷ t) = beat_among g n d before x ∷ beats_among g n d (before ++ x ∷ []) t

-- all turns as the group's buckets see them
abbrev pub group_spells : Settings → ℕ → Dir → Trace → List Spell
group_spells g n d t = spells (beats_among g n d [] t)

-- What is left to a group

-- the share that each member has at least: the configured one, lowered to the smaller of the two rates
abbrev pub least_share : GroupSet → ℕ
least_share x = min x.share (min x.cfg.read_rate x.cfg.write_rate)

-- what a group's bucket holds after these turns, or 0 where it is overdrawn: it held the rate at time 0
abbrev pub group_level : GroupSet → Dir → List Spell → ℕ → ℕ
group_level x d all time = level (limit_of x.cfg d) 0 (limit_of x.cfg d).rate all time

abbrev pub no_spell : Spell
no_spell = record { time = 0; moved = 0 }

-- what it held as the turn with the number n began, and as it ended
abbrev pub level_at_start : GroupSet → Dir → List Spell → ℕ → ℕ
level_at_start x d all n =
    let turn = slice_index_or all (n - 1) no_spell in
    group_level x d (take (n - 1) all ++ record { time = turn.time; moved = 0 } ∷ []) turn.time

abbrev pub level_at_end : GroupSet → Dir → List Spell → ℕ → ℕ
level_at_end x d all n = group_level x d (take n all) (slice_index_or all (n - 1) no_spell).time

-- A group is suspended at the end of a turn where nothing was left then. Where it was suspended as the turn before
-- ended, it stays so unless this turn began with the least share.
abbrev pub suspended_in : GroupSet → Dir → List Spell → ℕ → Bool
suspended_in x d all zero = false
suspended_in x d all (suc n) =
    level_at_end x d all (n + 1) == 0 || (suspended_in x d all n && nat_lt (level_at_start x d all (n + 1)) (least_share x))

-- is it suspended now, the last turn being the running one
abbrev pub is_suspended : GroupSet → Dir → List Spell → Bool
is_suspended x d all = suspended_in x d all (length all)

-- how many live sides are in the group
abbrev pub members : Plain → ℕ → ℕ
members s n = count_by (λ x. x.live && same_group x.group n) s.sides

-- what a member may move: nothing while the group is suspended, else its part of what is left, or the least share
abbrev pub share_among : GroupSet → Dir → List Spell → ℕ → ℕ → ℕ
share_among x d all time count = if is_suspended x d all then 0 else max (group_level x d all time / count) (least_share x)
