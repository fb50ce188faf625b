-- A generated script of so many links, each with so many bytes that come in at once, and ten turns more with no lines.
use Rattle.std.specs.Prelude.{ℕ, zero, suc, ◌+◌, false, List, [], ◌∷◌, ◌++◌, replicate, None}
use Rattle.ev_types.specs.declared.filter.FilterKind.TheVariants as kind
use Rattle.ev_types.specs.declared.settings.Settings.{Settings}
use Rattle.ev_types.specs.declared.side.Side.TheVariants.{In, Out}
use Rattle.ev_types.specs.declared.side.SideId.{SideId}
use Rattle.ev_types.specs.declared.turn_line.TurnLine.{TurnLine}
use Rattle.ev_types.specs.declared.turn_line.TurnLine.TheVariants as line
use Rattle.ev_types.specs.ScriptTurn.{ScriptTurn}
use Rattle.ev_types.specs.Usual.{usual}
use Rattle.script_text.specs.Given.{no_members}
use Rattle.script_text.specs.Limits.{limit_of}
use Rattle.script_text.specs.Script.{ScriptValue}
use Rattle.big_script.specs.Generated.{generated, number_after}

-- The usual settings, but 4,096 bytes are held, LF becomes CR LF on the way to an Out end, and each In side has a limit: 500 bytes a tick
-- are read and 500 written, at most 1,000 at once, and a tick is 1,000 ms long.
abbrev pub big_settings : Settings
big_settings = record usual { hold = 4096; out_write = kind.ToCrlf; in_rate = limit_of 500 1000 500 1000 1000 }

-- the In and the Out end of a link
abbrev pub in_side_of : ℕ → SideId
in_side_of link = record { link = link; side = In }

abbrev pub out_side_of : ℕ → SideId
out_side_of link = record { link = link; side = Out }

-- Of a link: these bytes come in at its In end, both of its ends end, and both take any number.
abbrev pub lines_with : List ℕ → ℕ → List TurnLine
lines_with bytes link =
    line.Pending (in_side_of link) bytes
    ∷ line.Eof (in_side_of link)
    ∷ line.Eof (out_side_of link)
    ∷ line.Take (in_side_of link) None
    ∷ line.Take (out_side_of link) None
    ∷ []

-- The lines of so many links from one on, in their order. Each has so many bytes that the generator gives next, from this number on.
abbrev pub lines_from : ℕ → ℕ → ℕ → ℕ → List TurnLine
lines_from each zero link x = []
lines_from each (suc n) link x = lines_with (generated each x) link ++ lines_from each n (link + 1) (number_after each x)

-- so many turns with no lines, a second apart, from a moment on
abbrev pub idle_turns : ℕ → ℕ → List ScriptTurn
idle_turns zero ms = []
idle_turns (suc n) ms = (ms, []) ∷ idle_turns n (ms + 1000)

-- At 0 the links are opened. A second later the lines of each follow, with so many bytes each, the first from the number of links on.
-- Ten turns more stand a second apart.
abbrev pub turns_with_each : ℕ → ℕ → List ScriptTurn
turns_with_each each links =
    (0, replicate links (line.NewLink false))
    ∷ (1000, lines_from each links 0 links)
    ∷ idle_turns 10 2000

-- The script of so many links, with 3,000 bytes for each. It has no groups, and nothing is planned.
abbrev pub big_script_of : ℕ → ScriptValue
big_script_of links = record {
  settings = big_settings;
  members = no_members;
  groups = [];
  plans = [];
  turns = turns_with_each 3000 links;
}
