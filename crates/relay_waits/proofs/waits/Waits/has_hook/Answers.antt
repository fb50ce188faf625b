use Rattle.std.proofs.Common.{false, List, sym, ap, ◌∙◌, slice_index_or, arith, Bool}
use Rattle.std.specs.List.{list_any}
use Rattle.std.proofs.lemmas.Bool.{le-ltb}
use Rattle.std.proofs.lemmas.List.{get_or_default, get_or_past}
use Rattle.ev_types.specs.Sides.{same_end}
use Rattle.relay_waits.specs.WaitsValue.{WaitsValue}
use Rattle.relay_waits.proofs.HookLemmas.{hook-by_number}
use Rattle.relay_waits.proofs.waits.Waits.has_hook.Goals as goal

pub returns-then-number-len : goal.returns-then-number-len
returns-then-number-len c =
    let hs : List Bool = c.self.inside.hooked.items in
    c.index.ensures
    ∙ get_or_default hs c.number-number.result c.index.result.now false
    (omega (arith, c.if-number-len.true, c.len.ensures, c.self.inside.hooked.ok.0))
    ∙ ap (λ n. slice_index_or hs n false) c.number-number.ensures ∙ sym (hook-by_number hs c.args.side)
    ∙ ap (λ (v : WaitsValue). list_any (λ x. same_end x c.args.side) v.hooks) c.self.view_is

pub returns-else-number-len : goal.returns-else-number-len
returns-else-number-len c =
    let hs : List Bool = c.self.inside.hooked.items in
    le-ltb c.number-number.result c.len.result c.if-number-len.false
    ∙ sym (get_or_past hs c.number-number.result false (omega (arith, c.if-number-len.false, c.len.ensures, c.self.inside.hooked.ok.0)))
    ∙ ap (λ n. slice_index_or hs n false) c.number-number.ensures ∙ sym (hook-by_number hs c.args.side)
    ∙ ap (λ (v : WaitsValue). list_any (λ x. same_end x c.args.side) v.hooks) c.self.view_is
