use Rattle.std.proofs.Common.{sym, ◌∙◌, ap, subst, arith, take, ◌++◌, ◌∷◌, []}
use Rattle.std.proofs.lemmas.List.{take_more}
use Rattle.script_hook.specs.Planning.{AsksPlanned, acts_in}
use Rattle.script_hook.proofs.AskLemmas.{planned-line}
use Rattle.script_hook.proofs.ask.ask_lines.Goals as goal

pub loop-line-preserved : goal.loop-line-preserved
loop-line-preserved c =
    let lines = c.args.lines.now in
    let i = c.loop-line.line-index in
    let line = c.line-item.result in
    let more =
    planned-line (take i lines) line c.args.ctl.now c.loop-line.ctl c.ask_line.new.ctl c.loop-line.invariant
    c.ask_line.ensures in
    subst (λ z. AsksPlanned (acts_in z) c.args.ctl.now c.ask_line.new.ctl)
    (sym (take_more lines i line (omega arith) ∙ ap (λ z. take i lines ++ z ∷ []) (sym c.line-item.is))) more
