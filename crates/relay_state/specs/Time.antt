-- What time brings: the timeout of the poll, and what the start of a turn does.
use Rattle.std.specs.Prelude.{ℕ, ◌+◌, ◌-◌, not, ◌&&◌, nat_le, if◌then◌else◌, List, [], ◌∷◌, ◌==◌, None, ◌++◌, map, fold, Option, Some}
use Rattle.std.specs.Prelude.{option_map}
use Rattle.std.specs.List.{flat_map, list_any}
use Rattle.token_bucket.specs.declared.limit.Dir.{Dir}
use Rattle.ev_types.specs.declared.side.SideId.{SideId}
use Rattle.rate_group.specs.GroupValue.{GroupValue}
use Rattle.rate_group.specs.Steps.{lane_of, count_in, all_refilled}
use Rattle.relay_model.specs.Plain.{Standing, is_live, side_at, change_side, all_sides}
use Rattle.relay_model.specs.Rates.{next_tick}
use Rattle.relay_model.specs.Reasons.{raise, happened, timeout_flag}
use Rattle.relay_model.specs.Moments.{timeout_of, last_activity, is_timed, active_at, both_ways, moment_where, earliest, is_pressing}
use Rattle.relay_model.specs.Moments.{timers_taken, has_run_out, expire}
use Rattle.relay_model.specs.Turn.{turned_to}
use Rattle.relay_state.specs.State.{State, with_plain, gauge_at}
use Rattle.relay_state.specs.Running.{held_at}
use Rattle.relay_state.specs.Rooms.{wants}

-- when a side that wants a direction with a timeout expires
abbrev pub expiry : State → SideId → Dir → List ℕ
expiry s e d =
    let x = side_at s.plain e in
    moment_where (is_timed x d && wants s e d) (last_activity x d + timeout_of x d)

-- when a bucket of a live side that holds nothing gains again
abbrev pub limit_gain : State → SideId → Option Standing → List ℕ
limit_gain s e None = []
limit_gain s e (Some y) =
    moment_where (is_live s.plain e && list_any (λ d. held_at y.cfg (gauge_at s e) d s.plain.time == 0) both_ways)
    (next_tick y.cfg.tick_ms s.plain.time)

-- when each suspended group with members gains again, the groups counted from a number on
abbrev pub group_gains : State → ℕ → List GroupValue → List ℕ
group_gains s n [] = []
group_gains s n (x ∷ xs) =
    moment_where (nat_le 1 (count_in n s.groups.members) && list_any (λ d. (lane_of x d).suspended) both_ways)
    (next_tick x.cfg.tick_ms s.plain.time)
    ++ group_gains s (n + 1) xs

-- the moments for which a poll wakes up
abbrev pub moments : State → List ℕ
moments s =
    map (λ x. x.deadline) s.plain.timers
    ++ flat_map (λ e. flat_map (expiry s e) both_ways) (all_sides s.plain)
    ++ flat_map (λ e. limit_gain s e (side_at s.plain e).limit) (all_sides s.plain)
    ++ group_gains s 0 s.groups.groups

-- A poll doesn't wait where something is pressing. Else it waits for the earliest moment, and for ever where there is none.
abbrev pub poll_timeout : State → Option ℕ
poll_timeout s = if is_pressing s.plain then Some 0 else option_map (λ moment. moment - s.plain.time) (earliest (moments s))

-- A direction with a timeout counts as active while it isn't wanted. Where it is wanted and has not been active for as long as its
-- timeout, it expires, and an event becomes due.
abbrev pub timed : SideId → State → Dir → State
timed e s d =
    if not (is_timed (side_at s.plain e) d) then s
    else (if not (wants s e d) then with_plain (change_side e (active_at s.plain.time d) s.plain) s
    else (if has_run_out (side_at s.plain e) d s.plain.time
    then with_plain (raise s.settings e (happened d timeout_flag) (change_side e (expire d) s.plain)) s else s))

abbrev pub side_timed : State → SideId → State
side_timed s e = fold (timed e) s both_ways

-- A turn begins at a time: groups are refilled, timers are taken, and then each side is looked at in number order, its reading first.
abbrev pub begun : State → ℕ → State
begun s ms =
    let refilled : State = record s { groups = all_refilled ms s.groups } in
    let at_time : State = with_plain (timers_taken s.settings (turned_to ms s.plain)) refilled in
    fold side_timed at_time (all_sides at_time.plain)
