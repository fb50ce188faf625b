use Rattle.std.proofs.Common.{◌≡◌, Some, refl, sym, ◌∙◌, ap, subst}
use Rattle.std.specs.Prelude.{IfSome}
use Rattle.relay_drive.specs.DriveValue.{DriveValue, is_worn, kept_of}
use Rattle.relay_drive.specs.Seats.{telling}
use Rattle.relay_drive.proofs.WentLemmas.{went_all, kept-twice, kept-none}
use Rattle.relay_drive.proofs.drive.Drive.turn.Goals as goal

pub returns-clause-went : goal.returns-clause-went
returns-clause-went g c none fit =
    went_all g.P.Port g.S.Scribe (telling (λ h. (goal.Hook-dyn g (h.vtable, h.value)).heard h.value)
    (λ h. (goal.Hook-dyn g (h.vtable, h.value)).asked h.value)
    (λ h. (goal.Hook-dyn g (h.vtable, h.value)).planned h.value)) c.next_turn-answer.result
    (c.self.inside.run, c.args.port.now, c.args.scribe.now)
    (c.next_turn-answer.new.run, c.next_turn-answer.new.port, c.next_turn-answer.new.scribe)
    c.args.seats.now.hooks.items c.args.seats.now.gone.items c.next_turn-answer.new.seats.hooks.items
    c.next_turn-answer.new.seats.gone.items
    c.self.inside.kept c.kept_of-self-inside.result (sym c.self.view_is) refl
    (c.next_turn-answer.ensures.went (ap is_worn c.self.view_is ∙ fit))

pub returns-in-Some-clause-answer : goal.returns-in-Some-clause-answer
returns-in-Some-clause-answer g c =
    sym (ap (λ (d : DriveValue). d.kept) c.self.view_is) ∙ c.in-Some.is
    ∙ sym (subst (λ k. IfSome k (λ a. kept_of a ≡ Some a)) c.in-Some.is c.self.invariant.over)

pub invariant_of-self : goal.invariant_of-self
invariant_of-self g c = record {
  inbox = c.next_turn-answer.ensures.inbox;
  over = subst (λ k. IfSome k (λ a. kept_of a ≡ Some a)) (sym c.kept_of-self-inside.ensures) (kept-twice c.next_turn-answer.result);
  ready = λ none. c.next_turn-answer.ensures.ready (kept-none c.next_turn-answer.result (sym c.kept_of-self-inside.ensures ∙ none));
}

pub returns-clause-seated : goal.returns-clause-seated
returns-clause-seated g c = λ none.
    c.next_turn-answer.ensures.seated (kept-none c.next_turn-answer.result (sym c.kept_of-self-inside.ensures ∙ none))
