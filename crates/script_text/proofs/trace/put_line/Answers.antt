use Rattle.std.proofs.Common.{ℕ, List, length, map, ap, sym, ◌∙◌, Bor}
use Rattle.script_text.proofs.BesideLemmas.{beside_of}
use Rattle.script_text.proofs.trace.put_line.Goals as goal

pub put-requires-clause-beside : goal.put-requires-clause-beside
put-requires-clause-beside c =
    ap length (c.deref-2.ensures.value ∙ c.list.view_is)
    ∙ beside_of (map (λ (w : Bor (List ℕ)). w.now) c.deref.result.now) c.in-Some.entry c.in-Some.list
    (sym c.in-Some.is ∙ c.in_ok-entry.ensures)
