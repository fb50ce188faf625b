use Rattle.std.proofs.Common.{◌∙◌, ap, map, sym}
use Rattle.std.proofs.lemmas.List.{map_push}
use Rattle.ev_types.specs.ScriptTurn.{lines_of}
use Rattle.script_port.specs.ScriptState.{LinksKept}
use Rattle.script_port.specs.KeptLines.{kept_turn}
use Rattle.script_port.specs.ScriptKept.{with_all_bytes}
use Rattle.script_port.specs.ScriptTurnsView.{shown_kept}
use Rattle.script_port.proofs.ScriptLemmas.{bytes_turn_more}
use Rattle.script_port.proofs.TurnLemmas.{shown_turn}
use Rattle.script_port.proofs.script_turns.ScriptTurns.keep.Goals as goal

pub loop-moment-preserved : goal.loop-moment-preserved
loop-moment-preserved c =
    let turn = shown_turn (c.in-Some.moment, c.in-Some.lines) in
    let so_far = map shown_turn c.loop-moment.yielded in
    let more = map_push shown_turn c.loop-moment.yielded (c.in-Some.moment, c.in-Some.lines) in
    let kept = c.in_ok-lines.ensures in
    record {
      kept = rw (c.in_ok-push.ensures.items, map_push shown_kept, more, map_push kept_turn, c.loop-moment.invariant.kept, kept.kept);
      state = ap (λ (l : LinksKept). l.state) kept.after ∙ c.loop-moment.invariant.state;
      to_open = ap (λ (l : LinksKept). l.to_open) kept.after ∙ c.loop-moment.invariant.to_open;
      to_come =
          ap (λ (l : LinksKept). l.to_come) kept.after ∙ ap (with_all_bytes turn.1) c.loop-moment.invariant.to_come ∙
          sym (bytes_turn_more so_far turn c.args.links.now.to_come) ∙
          ap (λ turns. with_all_bytes (lines_of turns) c.args.links.now.to_come) (sym more);
    }
