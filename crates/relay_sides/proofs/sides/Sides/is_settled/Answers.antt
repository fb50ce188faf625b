use Rattle.std.proofs.Common.{◌≡◌, true, false, sym, ◌∙◌}
use Rattle.relay_sides.proofs.sides.Sides.is_settled.Goals as goal

pub returns-then-not-is_read_done-clause-told : goal.returns-then-not-is_read_done-clause-told
returns-then-not-is_read_done-clause-told c = λ _. c.has_stopped.ensures.told

pub returns-else-not-is_read_done-clause-told : goal.returns-else-not-is_read_done-clause-told
returns-else-not-is_read_done-clause-told c = λ h. absurd (let wrong : false ≡ true = sym c.if-not-is_read_done.false ∙ h in cc)
