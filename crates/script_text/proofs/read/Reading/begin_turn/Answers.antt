use Rattle.std.proofs.Common.{List, ap, sym, subst, ◌∙◌}
use Rattle.ev_types.specs.declared.turn_line.TurnLine.{TurnLine}
use Rattle.script_text.specs.ScriptView.{turn_values}
use Rattle.ev_types.specs.ScriptTurn.{lines_of}
use Rattle.script_text.specs.Order.{opened_links}
use Rattle.script_text.specs.Tally.{IsTally}
use Rattle.script_text.proofs.TurnLemmas.{Turn, lines_of-pushed}
use Rattle.script_text.proofs.read.Reading.begin_turn.Goals as goal

-- a turn that begins says nothing of a link or an end
pub invariant_of-self-2 : goal.invariant_of-self-2
invariant_of-self-2 c =
    let same = ap (λ (ts : List Turn). lines_of (turn_values ts)) c.in_ok-push.ensures.items
    ∙ lines_of-pushed c.self.inside.turns.items (c.args.ms, c.new.result) c.new.ensures.items in
    record {
      links = c.self.invariant.links ∙ ap opened_links (sym same);
      ends = subst (λ (lines : List TurnLine). IsTally c.self.inside.ended.items lines) (sym same) c.self.invariant.ends;
    }
