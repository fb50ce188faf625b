-- A trace is replayed entry by entry. Before each entry the relay goes on silently as far as it must; behind the last
-- one it goes on as far as it can.
use Rattle.std.specs.Prelude.{ℕ, zero, suc, Bool, ◌&&◌, is_some, is_none, List, [], ◌∷◌, ◌++◌, Option, Some, None, option_map}
use Rattle.ev_types.specs.Trace.{Event, Trace}
use Rattle.relay_model.specs.Settings.{Settings}
use Rattle.relay_model.specs.Stages.{Stage, State, start}
use Rattle.relay_rows.specs.Put.{put}
use Rattle.relay_rows.specs.Quiet.{quiet}

-- how many silent steps in a row are tried
abbrev pub most_silent : ℕ
most_silent = 1000

-- the state after an event, with at most so many silent steps before it
abbrev pub step_within : ℕ → Settings → Trace → State → Event → Option State
step_within zero g t x e = None
step_within (suc n) g t x e =
    elim (put g t x.stage x.plain e.0 e.1) [
      | Some new ↦ Some new
      | None ↦ elim (quiet g t x.stage x.plain) [ Some new ↦ step_within n g t new e | None ↦ None ]
    ]

abbrev pub step : Settings → Trace → State → Event → Option State
step g t x e = step_within most_silent g t x e

-- the state after these events, behind a trace that led to a state
abbrev pub replay_from : Settings → Trace → State → List Event → Option State
replay_from g t x [] = Some x
replay_from g t x (e ∷ es) = elim (step g t x e) [ Some new ↦ replay_from g (t ++ e ∷ []) new es | None ↦ None ]

-- the state after a trace, as its last entry has been put
abbrev pub replay : Settings → Trace → Option State
replay g t = replay_from g [] start t

-- the state once no silent step can follow, after at most so many
abbrev pub rest_within : ℕ → Settings → Trace → State → Option State
rest_within zero g t x = None
rest_within (suc n) g t x = elim (quiet g t x.stage x.plain) [ Some new ↦ rest_within n g t new | None ↦ Some x ]

-- the state after a trace and all silent steps behind it
abbrev pub rest : Settings → Trace → Option State
rest g t = elim (replay g t) [ Some x ↦ rest_within most_silent g t x | None ↦ None ]

-- where a run comes to rest
abbrev pub stage_after : Settings → Trace → Option Stage
stage_after g t = option_map (λ x. x.stage) (rest g t)

-- A trace can stand, and its silent steps come to rest; but with this event behind it, it can't be replayed.
abbrev pub refuses : Settings → Trace → Event → Bool
refuses g t e = is_some (rest g t) && is_none (replay g (t ++ e ∷ []))
