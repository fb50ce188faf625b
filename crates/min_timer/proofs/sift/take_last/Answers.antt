use Rattle.std.proofs.Common.{◌≡◌, ◌∙◌, ap, subst, ◌++◌, [], ◌∷◌}
use Rattle.std.specs.Option.{option_to_list}
use Rattle.min_timer.specs.Order.{SlotsHoldPlaces}
use Rattle.min_timer.proofs.SeatLemmas.{seated-without_last}
use Rattle.min_timer.proofs.sift.take_last.Goals as goal

pub returns-clause-seated : goal.returns-clause-seated
returns-clause-seated c =
    let parts : c.args.timers.now.items ≡ c.pop.new.self.items ++ c.unwrap-last.result ∷ [] =
    c.pop.ensures.items ∙ ap (λ o. c.pop.new.self.items ++ option_to_list o) c.unwrap-last.ensures in
    seated-without_last c.pop.new.self.items c.unwrap-last.result c.args.places.now c.try_remove.new.self
    (subst (λ xs. SlotsHoldPlaces xs c.args.places.now) parts c.requires.seated) c.try_remove.ensures.updates
