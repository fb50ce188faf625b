use Rattle.std.proofs.Common.{List, sym, subst, All}
use Rattle.std.proofs.lemmas.List.Elements.{All-push}
use Rattle.buffers_mode.specs.Grammar.{NamesBuffers}
use Rattle.buffers_mode.specs.declared.line.Line.{Line}
use Rattle.buffers_mode.proofs.read.read_line.Goals as goal

pub returns-in-Some-clause-within : goal.returns-in-Some-clause-within
returns-in-Some-clause-within c = λ all.
    let named : NamesBuffers c.in-Some.line = rw c.in-Some.is at c.in_ok-line.ensures.within in
    subst (λ (lines : List Line). All NamesBuffers lines) (sym c.in_ok-push-in-Some.ensures.items)
    (All-push NamesBuffers c.args.into.now.items c.in-Some.line all named)
