use Rattle.std.proofs.Common.{◌+◌, ◌-◌, ◌++◌, ℕ, List, ap, ◌∙◌}
use Rattle.ev_types.specs.declared.turn_line.TurnLine.{TurnLine}
use Rattle.big_script.specs.Generated.{generated}
use Rattle.big_script.specs.BigScript.{lines_from, lines_with}
use Rattle.big_script.proofs.PutLemmas.{lines-put}
use Rattle.big_script.proofs.lines.sending_lines.Goals as goal

-- the lines of one link more were put
pub loop-link-preserved : goal.loop-link-preserved
loop-link-preserved c =
    let each = c.args.each in
    let link = c.loop-link.link in
    let left = c.args.links - (link + 1) in
    let before = c.loop-link.lines.items in
    record {
      lines =
          ap (λ (all : List TurnLine). all ++ lines_from each left (link + 1) c.in_ok-bytes.after) c.in_ok-put_lines.ensures
          ∙ ap (λ (bytes : List ℕ). (before ++ lines_with bytes link) ++ lines_from each left (link + 1) c.in_ok-bytes.after)
          c.in_ok-bytes.ensures.bytes
          ∙ ap (λ (x : ℕ). (before ++ lines_with (generated each c.loop-link.x) link) ++ lines_from each left (link + 1) x)
          c.in_ok-bytes.ensures.number
          ∙ lines-put before each c.args.links link c.loop-link.x c.loop-link-test.true
          ∙ c.loop-link.invariant.lines;
      small = c.in_ok-bytes.ensures.small;
    }
