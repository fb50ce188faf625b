-- Buckets. What one holds is the least of some numbers, one for each turn since its limit was set. A bucket of a side
-- is told here from the trace, and what its limit promises; those of groups stand in Groups.
use Rattle.std.specs.Prelude.{ℕ, ◌+◌, ◌-◌, ◌*◌, ◌/◌, if◌then◌else◌, List, map, drop}
use Rattle.token_bucket.specs.declared.limit.Dir.{Dir}
use Rattle.token_bucket.specs.declared.limit.Dir.TheVariants as dir
use Rattle.token_bucket.specs.Levels.{Limit, limit_of}
use Rattle.token_bucket.specs.Spells.{ticks, Spell, moved_in, since_each, least_with, Beat, Begins, Moves, spells}
use Rattle.ev_types.specs.declared.side.SideId.{SideId}
use Rattle.ev_types.specs.declared.answer.ReadAnswer.TheVariants as read
use Rattle.ev_types.specs.declared.answer.WriteAnswer.TheVariants as write
use Rattle.ev_types.specs.declared.entry.Entry.TheVariants as entry
use Rattle.ev_types.specs.Sides.{same_end}
use Rattle.ev_types.specs.Trace.{Event, Trace}
use Rattle.relay_model.specs.Plain.{Standing}

-- the moment at which the next tick begins
abbrev pub next_tick : ℕ → ℕ → ℕ
next_tick tick time = (time / tick + 1) * tick

-- What a bucket holds at a time, or 0 where it is overdrawn. It held so much as its limit was set; the turns behind
-- that one follow, the running one last. It is the least of what it held and what came since, less what was moved,
-- and of the same from each of these turns on with a full bucket.
abbrev pub level : Limit → ℕ → ℕ → List Spell → ℕ → ℕ
level l set_at held later time = least_with (held + l.rate * ticks l.tick set_at time - moved_in later) (since_each l time later)

-- the bytes that one event moves at a side in a direction
abbrev pub moved_by : SideId → Dir → Event → ℕ
moved_by e dir.Read (entry.Read side room (read.Got n), bytes) = if same_end side e then n else 0
moved_by e dir.Write (entry.Write side offered (write.Took n), bytes) = if same_end side e then n else 0
moved_by e d _ = 0

abbrev pub beat_of : SideId → Dir → Event → Beat
beat_of e d (entry.Turn ms, bytes) = Begins ms
beat_of e d x = Moves (moved_by e d x)

-- all turns as a side's buckets see them
abbrev pub side_spells : SideId → Dir → Trace → List Spell
side_spells e d t = spells (map (beat_of e d) t)

abbrev pub held_as_set : Standing → Dir → ℕ
held_as_set x dir.Read = x.read_level
held_as_set x dir.Write = x.write_level

-- what a side's bucket holds under its limit, all turns being these: those behind the one in which it was set count
abbrev pub standing_level : Standing → Dir → List Spell → ℕ → ℕ
standing_level x d all time = level (limit_of x.cfg d) x.time (held_as_set x d) (drop x.turn all) time
