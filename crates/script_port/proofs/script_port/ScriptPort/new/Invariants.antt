use Rattle.std.proofs.Common.{◌≡◌, drop, map}
use Rattle.script_port.specs.ScriptLinks.{links_of}
use Rattle.script_port.specs.ScriptKept.{with_links}
use Rattle.ev_types.specs.ScriptTurn.{lines_of}
use Rattle.script_port.proofs.TurnLemmas.{shown_turn}
use Rattle.script_port.proofs.script_port.ScriptPort.new.Given as goal

-- with the links of the turns that are left it is what all turns give
abbrev pub invariant-loop-lines : goal.invariant-loop-lines
invariant-loop-lines l =
    with_links (links_of (lines_of (drop l.lines-index (map shown_turn l.lines-items)))) l.links ≡
    with_links (links_of (lines_of (map shown_turn l.lines-items))) l.initial.links
