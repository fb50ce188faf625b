-- What limits promise: from the start of any turn to any place of any later turn, no more is moved than one burst and
-- what comes in the ticks between. Stated on the trace alone.
use Rattle.std.specs.Prelude.{◌≡◌, ℕ, ◌+◌, ◌-◌, ◌*◌, ◌≤◌, Bool, true, false, ◌==◌, if◌then◌else◌, [], ◌∷◌, ◌++◌, fold, sum_by, count_by}
use Rattle.std.specs.Prelude.{Option, Some, None, slice_get}
use Rattle.token_bucket.specs.declared.limit.Dir.{Dir}
use Rattle.token_bucket.specs.declared.limit.LimitCfg.{LimitCfg}
use Rattle.ev_types.specs.declared.side.SideId.{SideId}
use Rattle.ev_types.specs.declared.act.Act.TheVariants as act
use Rattle.ev_types.specs.declared.answer.AskAnswer.TheVariants as ask
use Rattle.ev_types.specs.declared.entry.Entry.TheVariants as entry
use Rattle.ev_types.specs.Sides.{same_end}
use Rattle.ev_types.specs.Trace.{Event, Trace}
use Rattle.relay_model.specs.Settings.{Settings, GroupSet, rate_set}
use Rattle.relay_model.specs.Rates.{moved_by}
use Rattle.token_bucket.specs.Spells.{ticks, Beat, Begins, Moves}
use Rattle.token_bucket.specs.Levels.{Limit, limit_of}
use Rattle.relay_model.specs.Groups.{beats_among, least_share}

abbrev pub is_turn : Event → Bool
is_turn (entry.Turn ms, bytes) = true
is_turn _ = false

abbrev pub time_by : ℕ → Event → ℕ
time_by was (entry.Turn ms, bytes) = ms
time_by was _ = was

-- the time of the last turn that begins in a trace, or this one where none does
abbrev pub last_time : ℕ → Trace → ℕ
last_time was t = fold (λ time x. time_by time x) was t

-- is it a change of the limit of a side
abbrev pub is_rate_ask : SideId → Event → Bool
is_rate_ask e (entry.Asked me (act.Rate side cfg) ask.Ok, bytes) = same_end side e
is_rate_ask e _ = false

-- the limit of a side after an event, by that before it: its link opens, or a hook sets another one
abbrev pub limit_by : Settings → SideId → Option LimitCfg → Event → Option LimitCfg
limit_by g e was (entry.Opened link connected, bytes) = if link == e.link then rate_set g e.side else was
limit_by g e was (entry.Asked me (act.Rate side cfg) ask.Ok, bytes) = if same_end side e then cfg else was
limit_by g e was _ = was

-- the limit of a side after a trace
abbrev pub limit_after : Settings → SideId → Trace → Option LimitCfg
limit_after g e t = fold (λ was x. limit_by g e was x) None t

-- the bytes that a side moves in these entries
abbrev pub moved_over : SideId → Dir → Trace → ℕ
moved_over e d t = sum_by (λ x. moved_by e d x) t

abbrev pub bytes_of : Beat → ℕ
bytes_of (Begins time) = 0
bytes_of (Moves n) = n

-- the bytes that a group's members move in the entries behind a trace
abbrev pub moved_among : Settings → ℕ → Dir → Trace → Trace → ℕ
moved_among g n d before t = sum_by bytes_of (beats_among g n d before t)

-- one burst, and what comes in the ticks from one moment to a later one
abbrev pub most_moved : Limit → ℕ → ℕ → ℕ
most_moved l from to = l.burst + l.rate * ticks l.tick from to

-- A side keeps to its limit. A turn begins under a limit that was set before it. Whole turns follow, in which nothing
-- changed the limit, up to the start of a last one; what stands there of that one may end with such a change.
abbrev pub KeepsRate : Settings → Trace → SideId → Dir → Type 0
KeepsRate g t e d =
    (cfg : LimitCfg) (before run last after : Trace) (ms : ℕ) →
    t ≡ before ++ (entry.Turn ms, []) ∷ run ++ last ++ after →
    limit_after g e before ≡ Some cfg →
    count_by (is_rate_ask e) run ≡ 0 →
    count_by is_turn last ≡ 0 →
    moved_over e d (run ++ last) ≤ most_moved (limit_of cfg d) ms (last_time ms run)

-- A group keeps to its limit but for the least share less one byte, whoever joins and leaves.
abbrev pub GroupKeepsRate : Settings → Trace → ℕ → Dir → Type 0
GroupKeepsRate g t n d =
    (x : GroupSet) (before run after : Trace) (ms : ℕ) →
    slice_get g.groups n ≡ Some x →
    t ≡ before ++ (entry.Turn ms, []) ∷ run ++ after →
    moved_among g n d (before ++ (entry.Turn ms, []) ∷ []) run ≤ most_moved (limit_of x.cfg d) ms (last_time ms run) + (least_share x - 1)

-- all sides and all groups keep to their limits
pub record RatesKept (g : Settings) (t : Trace) : Type 0 where
  pub sides : (e : SideId) (d : Dir) → KeepsRate g t e d
  pub groups : (n : ℕ) (d : Dir) → GroupKeepsRate g t n d
