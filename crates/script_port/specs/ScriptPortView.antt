-- How a script port keeps its state: what its links have yet to open and to bring in is what the lines of the turns that
-- are left bring, and of the closing turns that were announced the last one alone may be still to begin.
use Rattle.std.specs.Prelude.{ℕ, ◌+◌, ◌^◌, ◌<◌, ◌≤◌, length, drop}
use Rattle.ev_types.specs.ScriptTurn.{lines_of}
use Rattle.script_port.specs.declared.script_port.ScriptPort.TheInside.{Inside}
use Rattle.script_port.specs.ScriptState.{PortState}
use Rattle.script_port.specs.ScriptKept.{Brings}

abbrev pub port_state : Inside → PortState
port_state p = record {
  turns = p.turns;
  begun = p.begun;
  clock = p.clock;
  closing = p.closing;
  step = p.step;
  links = p.links.state;
  tally = p.tally;
}

-- Of so many turns of the script, and so many closing turns announced behind them, all but one began. The moment of the one that is
-- left fits.
pub record ClosesInOrder (turns begun closing clock step : ℕ) : Type 0 where
  pub count : turns + closing < 2 ^ 64
  pub order : 0 < closing → turns + closing ≤ begun + 1
  pub moment : 0 < closing → begun < turns + closing → clock + step < 2 ^ 64

abbrev pub IsPort : Inside → Type 0
IsPort p = Brings (lines_of (drop p.begun p.turns)) p.links × ClosesInOrder (length p.turns) p.begun p.closing p.clock p.step
