use Rattle.std.proofs.Common.{length, ap, sym, ◌∙◌}
use Rattle.std.proofs.lemmas.List.{length-map}
use Rattle.buffers_mode.specs.Steps.{shown}
use Rattle.buffers_mode.specs.Run.{Run}
use Rattle.buffers_mode.proofs.player.Player.count.Goals as goal

pub returns-clause-there : goal.returns-clause-there
returns-clause-there c =
    ap (λ (run : Run). length run.buffers) (sym c.self.view_is) ∙ length-map c.self.inside.buffers shown ∙ c.self.invariant
