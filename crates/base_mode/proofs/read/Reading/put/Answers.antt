-- The names are those of the lines so far and of the line behind them.
use Rattle.std.proofs.Common.{◌≡◌, ◌∙◌, sym, ap, refl, List, ℕ, [], ◌∷◌, ◌++◌}
use Rattle.std.proofs.lemmas.List.Elements.{filter_map-append}
use Rattle.base_mode.specs.Order.{made, new_name}
use Rattle.base_mode.proofs.read.Reading.put.Goals as goal

pub invariant_of-self-2 : goal.invariant_of-self-2
invariant_of-self-2 c =
    let pushed : c.push.new.self.items ≡ c.self.inside.commands.items ++ c.args.command ∷ [] =
    rw (c.push.ensures.items, c.unwrap.ensures, c.in_ok-reserve-2.ensures.items) refl in
    rw pushed
    (c.keep_name.ensures ∙ ap (λ (names : List ℕ). names ++ made (c.args.command ∷ [])) (c.in_ok-reserve.ensures.items ∙ c.self.invariant)
    ∙ sym (filter_map-append new_name c.self.inside.commands.items (c.args.command ∷ [])))
