-- Closing turns of a script port: when one may be announced, and what it makes of the ends.
use Rattle.std.specs.Prelude.{◌≡◌, ◌⊎◌, ℕ, ◌+◌, ◌-◌, ◌^◌, ◌<◌, min, length, map, sum_by, nat_lt, Bool, true, false, None}
use Rattle.script_port.specs.ScriptState.{EndState, LinksState, PortState}
use Rattle.script_port.specs.ScriptEnds.{decided}

-- From here on the end takes any number of bytes, its writes fail no more, and it is connected unless that was decided before.
abbrev pub closing_end : EndState → EndState
closing_end s = record s { may_take = None; write_fails = false; decision = decided s.decision true }

-- so does every end
abbrev pub closing_ends : LinksState → LinksState
closing_ends l = record l { ends = map closing_end l.ends; closing = true }

-- Is an announced closing turn still to begin? It is asked where all turns of the script began.
abbrev pub is_announced : PortState → Bool
is_announced p = nat_lt p.begun (length p.turns + p.closing)

-- A closing turn may be announced with this step: all turns began, those announced before too, with the same step. Its moment fits
-- 64 bits, and so does the number of turns.
pub record MayClose (p : PortState) (step : ℕ) : Type 0 where
  pub begun : p.begun ≡ length p.turns + p.closing
  pub same_step : (p.closing ≡ 0) ⊎ (p.step ≡ step)
  pub moment : p.clock + step < 2 ^ 64
  pub count : p.begun + 1 < 2 ^ 64

-- one closing turn more was announced
abbrev pub announced : ℕ → PortState → PortState
announced step p = record p { closing = p.closing + 1; step = step }

-- how many bytes came in at these ends and were not read yet; a number that reaches the end of a u64 stays there
abbrev pub unread : LinksState → ℕ
unread l = min (sum_by (λ s. length s.pending) l.ends) (2 ^ 64 - 1)
