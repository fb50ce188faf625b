use Rattle.std.proofs.Common.{◌∙◌, ap, sym}
use Rattle.std.proofs.lemmas.List.{map_push}
use Rattle.script_port.specs.ScriptState.{LinksKept}
use Rattle.script_port.specs.ScriptKept.{with_bytes}
use Rattle.script_port.proofs.ScriptLemmas.{bytes_line_more}
use Rattle.script_port.proofs.script_links.ScriptLinks.keep_lines.Goals as goal

pub loop-line-preserved : goal.loop-line-preserved
loop-line-preserved c =
    let kept = c.in_ok-line.ensures in
    let more = bytes_line_more c.loop-line.yielded c.in-Some.line c.args.self.now.to_come in
    record {
      kept = rw (c.in_ok-push.ensures.items, map_push, c.loop-line.invariant.kept, kept.kept);
      state = ap (λ (l : LinksKept). l.state) kept.after ∙ c.loop-line.invariant.state;
      to_open = ap (λ (l : LinksKept). l.to_open) kept.after ∙ c.loop-line.invariant.to_open;
      to_come =
          ap (λ (l : LinksKept). l.to_come) kept.after ∙ ap (with_bytes c.in-Some.line) c.loop-line.invariant.to_come ∙ sym more;
    }
