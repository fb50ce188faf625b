-- The names, the counts and the plans are those of the lines with one more.
use Rattle.std.proofs.Common.{◌≡◌, ◌∙◌, sym, ap, refl, ℕ, ◌++◌, ◌∷◌, [], List, arith}
use Rattle.std.proofs.lemmas.List.Elements.{filter_map-append}
use Rattle.base_mode.specs.Order.{made, new_name}
use Rattle.base_mode.proofs.PlanLemmas.{AreTold-more}
use Rattle.base_mode.proofs.run.Run.record.Goals as goal

pub invariant_of-result : goal.invariant_of-result
invariant_of-result c =
    let line = c.args.line.now in
    let before = c.self.inside.before.items in
    let pushed : c.push.new.self.items ≡ before ++ line ∷ [] = rw (c.in_ok-push.ensures.items, c.again.ensures) refl in
    record {
      names = rw pushed
          (c.in_ok-keep_event.ensures.names ∙ ap (λ (names : List ℕ). names ++ made (line ∷ [])) c.self.invariant.names
          ∙ sym (filter_map-append new_name before (line ∷ [])));
      fires = c.in_ok-keep_event.ensures.each c.self.invariant.fires;
      few = omega (arith, c.in_ok-keep_event.ensures.few, c.self.invariant.few);
      plans = rw pushed (AreTold-more c.self.inside.plans c.note.new.plans line c.in_ok-note.ensures before c.self.invariant.plans);
    }
