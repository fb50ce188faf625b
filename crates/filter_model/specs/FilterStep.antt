-- One step of a running filter over the bytes that it is offered: what it uses and makes of them, where it stops, when it is
-- finished.
use Rattle.std.specs.Prelude.{ℕ, ◌+◌, ◌-◌, ◌*◌, ◌/◌, Bool, false, not, ◌==◌, ◌&&◌, ◌||◌, nat_lt, if◌then◌else◌, List, [], ◌++◌, length}
use Rattle.std.specs.Prelude.{take, Option, Some, None, is_some}
use Rattle.std.specs.List.{last_or}
use Rattle.ev_types.specs.declared.filter.FilterKind.{FilterKind}
use Rattle.ev_types.specs.declared.filter.FilterKind.TheVariants as kind
use Rattle.filter_model.specs.Running.{Running}
use Rattle.filter_model.specs.FilterRun.{Ran, run, is_end_bad, holds_byte, end_adds}

-- a filter that begins with its input
abbrev pub begun : FilterKind → Running
begun k = record { kind = k; since = 0; used = 0; last = None; finished = false; stopped = None }

-- how many bytes it used since it began
abbrev pub count_of : Running → ℕ
count_of x = x.used - x.since

-- its run over some bytes, where its target holds n bytes
abbrev pub run_of : Running → ℕ → ℕ → List ℕ → Ran
run_of x limit n src = run x.kind limit n (count_of x) x.last src

-- the filter after it used these bytes
abbrev pub after_bytes : Running → List ℕ → Running
after_bytes x ys = record x { used = x.used + length ys; last = last_or x.last ys }

-- Where a filter stops that has run as far as it may: at the next byte where one is left, which then is bad; at a bad end
-- where all was used and the end has come. With no room in its target it doesn't stop.
abbrev pub stop_place : Running → Bool → Bool → Bool → Option ℕ
stop_place x all over room = if room && (not all || (over && is_end_bad x.kind (count_of x))) then Some x.used else None

-- It is finished where all was used, the end has come and is good, and it holds no byte back or its target has room.
abbrev pub is_finished : Running → Bool → Bool → Bool → Bool
is_finished x all over room = all && over && not (is_end_bad x.kind (count_of x)) && (not (holds_byte x.kind (count_of x) x.last) || room)

-- how many bytes a step used, what it made, and the filter from then on
pub record Stepped : Type 0 where
  pub used : ℕ
  pub made : List ℕ
  pub after : Running

-- a step that ran so far, and then stops or finishes or neither
abbrev pub ending : Running → Ran → Bool → Bool → Bool → Stepped
ending x ran all over room = record {
  used = ran.used;
  made = ran.made ++ (if is_finished x all over room then end_adds x.kind x.last else []);
  after = record x { finished = is_finished x all over room; stopped = stop_place x all over room };
}

-- A step over the bytes that are offered, where the end has come behind them or not, and the target holds n bytes. A filter
-- that is finished or has stopped does nothing more.
abbrev pub stepped : Running → Bool → ℕ → ℕ → List ℕ → Stepped
stepped x over limit n src =
    if x.finished || is_some x.stopped then record { used = 0; made = []; after = x }
    else
    let ran = run_of x limit n src in
    ending (after_bytes x (take ran.used src)) ran (ran.used == length src) over (nat_lt (n + length ran.made) limit)

-- how many bytes a step makes at most of so many that it is offered, the end and a byte that was held included
abbrev pub most_made : FilterKind → ℕ → ℕ
most_made kind.None n = n
most_made kind.ToCrlf n = 2 * n
most_made kind.ToLf n = n + 1
most_made kind.HexOut n = 2 * n
most_made kind.HexIn n = n / 2 + 1
