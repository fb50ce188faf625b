use Rattle.std.proofs.Common.{◌≡◌, ◌<◌, ◌+◌, ◌-◌, true, Bool, List, [], ◌∷◌, ◌++◌, length, ap, sym, subst, refl, ◌∙◌, arith}
use Rattle.std.proofs.lemmas.List.{length-map}
use Rattle.ev_types.specs.declared.turn_line.TurnLine.{TurnLine}
use Rattle.ev_types.specs.ScriptTurn.{ScriptTurn, lines_of}
use Rattle.script_text.specs.Script.{SoFar}
use Rattle.script_text.specs.ScriptView.{turn_values}
use Rattle.script_text.specs.Order.{opened_by, opened_links, with_line, may_follow}
use Rattle.script_text.specs.Tally.{IsTally}
use Rattle.script_text.proofs.TurnLemmas.{turn_value, turn_values-put, turn_values-same, lines_of-with_line}
use Rattle.script_text.proofs.TallyLemmas.{IsTally-counted, opened_links-more}
use Rattle.script_text.proofs.read.Reading.put.Goals as goal

-- more room changes nothing
pub invariant_of-self-in_err-reserve-3 : goal.invariant_of-self-in_err-reserve-3
invariant_of-self-in_err-reserve-3 c =
    let same = ap lines_of (turn_values-same c.self.inside.turns.items (c.len-last.result - 1) c.index_mut.result.now c.reserve-3.new.self
    c.index_mut.ensures.value c.in_err-reserve-3.ensures.items) in
    let kept : IsTally c.reserve-2.new.self.items (lines_of (turn_values c.self.inside.turns.items)) =
    rw c.in_ok-reserve-2.ensures.items c.self.invariant.ends in
    record {
      links = c.in_ok-reserve.ensures.items ∙ c.self.invariant.links ∙ ap opened_links (sym same);
      ends = subst (λ (lines : List TurnLine). IsTally c.reserve-2.new.self.items lines) (sym same) kept;
    }

-- what is kept goes on with the line
pub invariant_of-self-2 : goal.invariant_of-self-2
invariant_of-self-2 c =
    let ts = turn_values c.self.inside.turns.items in
    let turns_are = ap (λ (s : SoFar). s.turns) c.self.view_is in
    let some : 0 < length ts = rw turns_are c.requires.begun in
    let last_is : c.len-last.result - 1 + 1 ≡ length c.self.inside.turns.items =
    omega (arith, length-map c.self.inside.turns.items turn_value, c.self.inside.turns.ok.0) in
    let grown : c.push.new.self.items ≡ c.index_mut.result.now.1.items ++ c.args.line ∷ [] =
    rw (c.push.ensures.items, c.unwrap.ensures, c.in_ok-reserve-3.ensures.items) refl in
    let put = turn_values-put c.self.inside.turns.items (c.len-last.result - 1) c.index_mut.result.now c.push.new.self c.args.line last_is
    c.index_mut.ensures.value grown in
    let lines = ap lines_of put ∙ lines_of-with_line ts c.args.line some in
    let kept : IsTally c.reserve-2.new.self.items (lines_of ts) = rw c.in_ok-reserve-2.ensures.items c.self.invariant.ends in
    let follows : may_follow (lines_of ts) c.args.line ≡ true = rw turns_are c.requires.follows in
    let more : IsTally c.count_line.new.ended.items (lines_of ts ++ c.args.line ∷ []) =
    rw c.count_line.ensures (IsTally-counted c.reserve-2.new.self.items (lines_of ts) c.args.line kept follows) in
    record {
      links =
          c.count_link.ensures
          ∙ ap (λ (links : List Bool). links ++ opened_by c.args.line) (c.in_ok-reserve.ensures.items ∙ c.self.invariant.links)
          ∙ sym (opened_links-more (lines_of ts) c.args.line)
          ∙ ap opened_links (sym lines);
      ends = subst (λ (ls : List TurnLine). IsTally c.count_line.new.ended.items ls) (sym lines) more;
    }

pub returns-clause-turns : goal.returns-clause-turns
returns-clause-turns c =
    let ts = turn_values c.self.inside.turns.items in
    let turns_are = ap (λ (s : SoFar). s.turns) c.self.view_is in
    let some : 0 < length ts = rw turns_are c.requires.begun in
    let last_is : c.len-last.result - 1 + 1 ≡ length c.self.inside.turns.items =
    omega (arith, length-map c.self.inside.turns.items turn_value, c.self.inside.turns.ok.0) in
    let grown : c.push.new.self.items ≡ c.index_mut.result.now.1.items ++ c.args.line ∷ [] =
    rw (c.push.ensures.items, c.unwrap.ensures, c.in_ok-reserve-3.ensures.items) refl in
    turn_values-put c.self.inside.turns.items (c.len-last.result - 1) c.index_mut.result.now c.push.new.self c.args.line last_is
    c.index_mut.ensures.value grown
    ∙ ap (λ (all : List ScriptTurn). with_line all c.args.line) turns_are
