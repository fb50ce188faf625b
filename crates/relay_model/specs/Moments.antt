-- What time brings: the timeout of the poll, the timers that are taken as a turn begins, and the directions that expire.
use Rattle.std.specs.Prelude.{ℕ, ◌+◌, ◌-◌, Bool, true, false, ◌==◌, ◌&&◌, ◌||◌, not, nat_lt, nat_le, if◌then◌else◌, List, [], ◌∷◌, ◌++◌}
use Rattle.std.specs.Prelude.{map, filter, length, fold, Option, Some, None, option_map}
use Rattle.std.specs.List.{flat_map, list_any}
use Rattle.token_bucket.specs.declared.limit.Dir.{Dir}
use Rattle.token_bucket.specs.declared.limit.Dir.TheVariants as dir
use Rattle.ev_types.specs.declared.side.SideId.{SideId}
use Rattle.ev_types.specs.declared.why.Why.TheVariants as why
use Rattle.relay_model.specs.Settings.{Settings, GroupSet}
use Rattle.relay_model.specs.Plain.{Plain, PlainSide, Standing, side_at, change_side, is_live, all_sides}
use Rattle.relay_model.specs.Rates.{standing_level, next_tick}
use Rattle.token_bucket.specs.Spells.{least_with}
use Rattle.relay_model.specs.Groups.{members, is_suspended}
use Rattle.relay_model.specs.Past.{Past}
use Rattle.relay_model.specs.Rooms.{wants}
use Rattle.relay_model.specs.Reasons.{raise, happened, timeout_flag}
use Rattle.relay_model.specs.Asks.{enabled}

abbrev pub timeout_of : PlainSide → Dir → ℕ
timeout_of x dir.Read = x.timeouts.read_ms
timeout_of x dir.Write = x.timeouts.write_ms

abbrev pub last_activity : PlainSide → Dir → ℕ
last_activity x dir.Read = x.last_read
last_activity x dir.Write = x.last_write

-- is there a timeout for a direction of a live side
abbrev pub is_timed : PlainSide → Dir → Bool
is_timed x d = x.live && nat_le 1 (timeout_of x d)

-- a direction of a side was active at a time
abbrev pub active_at : ℕ → Dir → PlainSide → PlainSide
active_at time dir.Read x = record x { last_read = time }
active_at time dir.Write x = record x { last_write = time }

-- The timeout of the poll

abbrev pub both_ways : List Dir
both_ways = dir.Read ∷ dir.Write ∷ []

abbrev pub moment_where : Bool → ℕ → List ℕ
moment_where holds moment = if holds then moment ∷ [] else []

-- when a side that wants a direction with a timeout expires
abbrev pub expiry : Settings → Past → Plain → SideId → Dir → List ℕ
expiry g p s e d =
    let x = side_at s e in
    moment_where (is_timed x d && wants g p s e d) (last_activity x d + timeout_of x d)

abbrev pub is_used_up : Past → Plain → SideId → Standing → Dir → Bool
is_used_up p s e x d = standing_level x d (p.turns e d) s.time == 0

-- when a bucket of a live side that holds nothing gains again
abbrev pub limit_gain : Past → Plain → SideId → Option Standing → List ℕ
limit_gain p s e None = []
limit_gain p s e (Some x) =
    moment_where (is_live s e && list_any (is_used_up p s e x) both_ways) (next_tick x.cfg.tick_ms s.time)

-- when each suspended group with members gains again, the groups counted from a number on
abbrev pub group_gains : Past → Plain → ℕ → List GroupSet → List ℕ
group_gains p s n [] = []
group_gains p s n (x ∷ xs) =
    moment_where (nat_le 1 (members s n) && list_any (λ d. is_suspended x d (p.group_turns n d)) both_ways) (next_tick x.cfg.tick_ms s.time)
    ++ group_gains p s (n + 1) xs

-- the moments for which a poll wakes up
abbrev pub moments : Settings → Past → Plain → List ℕ
moments g p s =
    map (λ x. x.deadline) s.timers
    ++ flat_map (λ e. flat_map (expiry g p s e) both_ways) (all_sides s)
    ++ flat_map (λ e. limit_gain p s e (side_at s e).limit) (all_sides s)
    ++ group_gains p s 0 g.groups

abbrev pub earliest : List ℕ → Option ℕ
earliest [] = None
earliest (x ∷ xs) = Some (least_with x xs)

-- Does a callback wait for this turn, or a live side that has expired?
abbrev pub is_pressing : Plain → Bool
is_pressing s = nat_le 1 (length s.due) || list_any (λ e. (side_at s e).live && (side_at s e).expired) (all_sides s)

-- A poll doesn't wait where something is pressing. Else it waits for the earliest moment, and for ever where there is none.
abbrev pub poll_timeout : Settings → Past → Plain → Option ℕ
poll_timeout g p s = if is_pressing s then Some 0 else option_map (λ moment. moment - s.time) (earliest (moments g p s))

-- The start of a turn

-- The timers whose deadline has come are taken, and become reasons in their order.
abbrev pub timers_taken : Settings → Plain → Plain
timers_taken g s =
    fold (λ state x. raise g x.side why.Timer state)
    (record s { timers = filter (λ x. nat_lt s.time x.deadline) s.timers })
    (filter (λ x. nat_le x.deadline s.time) s.timers)

abbrev pub has_run_out : PlainSide → Dir → ℕ → Bool
has_run_out x d time = nat_le (timeout_of x d) (time - last_activity x d)

-- the direction is disabled, and the side is to be freed for it
abbrev pub expire : Dir → PlainSide → PlainSide
expire d x = record (enabled d false x) { expired = true }

-- A direction with a timeout counts as active while it isn't wanted. Where it is wanted and has not been active for as
-- long as its timeout, it expires, and an event becomes due.
abbrev pub timed : Settings → Past → SideId → Plain → Dir → Plain
timed g p e s d =
    if not (is_timed (side_at s e) d) then s
    else (if not (wants g p s e d) then change_side e (active_at s.time d) s
    else (if has_run_out (side_at s e) d s.time then raise g e (happened d timeout_flag) (change_side e (expire d) s)
    else s))

abbrev pub side_timed : Settings → Past → Plain → SideId → Plain
side_timed g p s e = fold (timed g p e) s both_ways

-- What the start of a turn does, at its time: timers are taken, and then each side is looked at in number order, its
-- reading first.
abbrev pub time_passed : Settings → Past → Plain → Plain
time_passed g p s = fold (side_timed g p) (timers_taken g s) (all_sides s)
