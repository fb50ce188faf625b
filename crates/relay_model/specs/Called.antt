-- What is asked of a script and of a run over it, so that a port can answer by the script.
use Rattle.std.specs.Prelude.{◌≡◌, ℕ, ◌+◌, ◌<◌, ◌≤◌, ⊤, Bool, List, [], ◌∷◌, ◌++◌, length}
use Rattle.ev_types.specs.declared.entry.Entry.TheVariants as entry
use Rattle.ev_types.specs.declared.turn_line.TurnLine.{TurnLine}
use Rattle.ev_types.specs.declared.turn_line.TurnLine.TheVariants as line
use Rattle.ev_types.specs.ScriptTurn.{ScriptTurn, lines_of}
use Rattle.ev_types.specs.Trace.{Trace}
use Rattle.relay_model.specs.Totals.{opened}
use Rattle.relay_model.specs.Scripted.{begun}

-- each line that names a link or an end names a link that was opened before it, so many being opened before all of them
abbrev pub NamesOpened : ℕ → List TurnLine → Type 0
NamesOpened opened [] = ⊤
NamesOpened opened (line.NewLink wait ∷ lines) = NamesOpened (opened + 1) lines
NamesOpened opened (line.Conn link connected ∷ lines) = (link < opened) × NamesOpened opened lines
NamesOpened opened (line.Pending side bytes ∷ lines) = (side.link < opened) × NamesOpened opened lines
NamesOpened opened (line.Eof side ∷ lines) = (side.link < opened) × NamesOpened opened lines
NamesOpened opened (line.ReadFail side ∷ lines) = (side.link < opened) × NamesOpened opened lines
NamesOpened opened (line.Take side more ∷ lines) = (side.link < opened) × NamesOpened opened lines
NamesOpened opened (line.WriteFail side ∷ lines) = (side.link < opened) × NamesOpened opened lines
NamesOpened opened (line.Spur side ∷ lines) = (side.link < opened) × NamesOpened opened lines
NamesOpened opened (line.PollFail ∷ lines) = NamesOpened opened lines

-- links get their numbers in order, from 0
abbrev pub OpensInOrder : Trace → Type 0
OpensInOrder t = (before after : Trace) (link : ℕ) (connected : Bool) (bytes : List ℕ) →
    t ≡ before ++ (entry.Opened link connected, bytes) ∷ after → link ≡ opened before

-- A trace is called for by these turns: their lines name opened links, it has no more turns than there are, and its links
-- are numbered in order.
pub record IsCalledFor (turns : List ScriptTurn) (t : Trace) : Type 0 where
  pub lines : NamesOpened 0 (lines_of turns)
  pub turns_left : begun turns t ≤ length turns
  pub in_order : OpensInOrder t
