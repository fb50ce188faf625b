-- What contracts see of a port that answers by a script. How its calls change that stands elsewhere.
use Rattle.std.specs.Prelude.{ℕ, Bool, List, Option}
use Rattle.ev_types.specs.ScriptTurn.{ScriptTurn}
use Rattle.script_port.specs.declared.end_tally.EndTally.{EndTally}
use Rattle.script_port.specs.declared.port_tally.PortTally.{PortTally}

-- what stands at one end
pub record EndState : Type 0 where
  pub given : List ℕ  -- the bytes that its reads gave
  pub pending : List ℕ  -- the bytes that came in and that no read gave yet
  pub eof : Bool  -- it is ended after its pending bytes
  pub read_fails : Bool  -- its reads fail after its pending bytes
  pub may_take : Option ℕ  -- how many bytes it takes from here on; any number where none is told
  pub write_fails : Bool  -- its writes fail once it takes no more bytes
  pub wait : Bool  -- the script leaves undecided at first whether it is connected
  pub decision : Option Bool  -- what the script decided of that: it is connected, or fails
  pub spurred : Option ℕ  -- the last turn in which the poll marks all that is wanted of it
  pub taken : List ℕ  -- the bytes that it took
  pub tally : EndTally

-- an end with the bytes that the script has yet to bring in
pub record EndKept : Type 0 where
  pub state : EndState
  pub to_come : List ℕ

-- the links of the script, and what stands at their ends
pub record LinksState : Type 0 where
  pub waiting : List Bool  -- the links that wait to be accepted, each with whether its Out end is undecided
  pub ends : List EndState  -- the ends of all links of the script, by the number of their side
  pub turn : Option ℕ  -- the turn of the script that runs, counted from 0; none before the first and after the last
  pub poll_fails : Bool  -- the poll fails in the running turn
  pub closing : Bool  -- a closing turn began, from which on every end takes every write

-- the links, with those that the script has yet to open and the bytes that it has yet to bring in at each end
pub record LinksKept : Type 0 where
  pub state : LinksState
  pub to_open : List Bool
  pub to_come : List (List ℕ)

-- the whole port
pub record PortState : Type 0 where
  pub turns : List ScriptTurn  -- the script: each turn's moment and its lines
  pub begun : ℕ  -- how many turns began, closing turns too
  pub clock : ℕ  -- the moment of the last of these, or 0
  pub closing : ℕ  -- how many closing turns were announced
  pub step : ℕ  -- by how much the clock goes on with each of them; 0 before the first
  pub links : LinksState
  pub tally : PortTally
