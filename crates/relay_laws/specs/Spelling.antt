-- That the trace of a relay can be spelled as text and read back, as far as what was read fits.
use Rattle.std.specs.Prelude.{ℕ, ◌+◌, ◌*◌, ◌^◌, ◌<◌, ◌≤◌, ⊤, List, length, All}
use Rattle.std.specs.List.{flat_map}
use Rattle.ev_types.specs.declared.side.SideId.{SideId}
use Rattle.ev_types.specs.declared.entry.Entry.TheVariants as entry
use Rattle.ev_types.specs.Trace.{Event, Trace}
use Rattle.script_text.specs.TraceLaws.{IsSpellable}
pub use Rattle.ev_types.specs.AskNumbers.{AskFits, AsksFit}
use Rattle.relay_model.specs.Trace.{bytes_read}
use Rattle.relay_model.specs.Settings.{Settings}
use Rattle.relay_model.specs.Stages.{Stage}
use Rattle.relay_model.specs.Lines.{brings}
use Rattle.ev_types.specs.ScriptTurn.{ScriptTurn}
use Rattle.relay_model.specs.Plays.{IsAnswered}
use Rattle.relay_state.specs.State.{State}
use Rattle.relay_steps.specs.Meaning.{StandsFor}

-- These numbers are bytes, and so few that four times their number and three is below 2^64: no filter makes more than twice what it
-- uses, and one byte at its end.
pub record FewBytes (xs : List ℕ) : Type 0 where
  pub each : All (λ b. b < 256) xs
  pub count : 4 * length xs + 3 < 2 ^ 64

-- what was read at each end
abbrev pub ReadsFit : Trace → Type 0
ReadsFit t = (e : SideId) → FewBytes (bytes_read e t)

-- all that a script brings in at each end
abbrev pub BringsFit : List ScriptTurn → Type 0
BringsFit turns = (e : SideId) → FewBytes (flat_map (brings e) (flat_map (λ turn. turn.1) turns))

-- Where every answer is a script's, what was read fits as far as what the script brings in does.
abbrev pub ReadsFitAsScripted : Type 0
ReadsFitAsScripted = (turns : List ScriptTurn) (closing_by : ℕ) (t : Trace) → BringsFit turns → IsAnswered turns closing_by t →
    ReadsFit t

-- Each timeout is a number of 64 bits.
pub record TimeoutsFit (g : Settings) : Type 0 where
  pub in_read : g.in_timeouts.read_ms < 2 ^ 64
  pub in_write : g.in_timeouts.write_ms < 2 ^ 64
  pub out_read : g.out_timeouts.read_ms < 2 ^ 64
  pub out_write : g.out_timeouts.write_ms < 2 ^ 64

-- A trace for which a relay stands can be spelled as text and read back, where what was read fits, links are named by numbers
-- below 2^32, and timeouts and asks fit.
abbrev pub StoodIsSpellable : Type 0
StoodIsSpellable = (t : Trace) (x : Stage) (s : State) → StandsFor t x s → s.settings.links ≤ 2 ^ 32 → TimeoutsFit s.settings →
    AsksFit t → ReadsFit t → IsSpellable t
