use Rattle.std.proofs.Common.{◌≡◌, [], true, false, refl, sym, ◌∙◌, ap, subst}
use Rattle.std.specs.Prelude.{MatchBool, is_some}
use Rattle.relay_core.specs.RelayValue.{RelayValue}
use Rattle.relay_state.specs.Closing.{closing_entry}
use Rattle.relay_core.specs.Steps.{close_step, after_closing}
use Rattle.relay_drive.specs.Steps.{Nothing}
use Rattle.relay_drive.specs.Phases.{closing_events, told_step, Closes}
use Rattle.relay_drive.proofs.GoesLemmas.{Grew-none, Grew-join, goes_as, goes_nowhere}
use Rattle.relay_drive.proofs.HeardLemmas.{goes_served, same_as, Heard-quiet}
use Rattle.relay_drive.proofs.TiedLemmas.{all_ends}
use Rattle.relay_drive.proofs.ClosingLemmas.{closing_served, closing_same, closing_says, closing_vouched, closing_unfailed, closing_polls}
use Rattle.relay_drive.proofs.close.close_step.Goals as goal

pub returns-clause-went : goal.returns-clause-went
returns-clause-went g c =
    let l0 = g.S.Scribe.trace c.args.scribe.now in
    let s = c.args.run.now.relay.state in
    let new = c.close.new.self.state in
    let step = c.args.step in
    let events = closing_events s step in
    let f = g.P.Port.faults c.args.port.now in
    let h = g.P.Port.faults c.tell.new.port in
    let yes : is_some (closing_entry s (close_step step)) ≡ true = sym c.calls_for.ensures ∙ c.if-not-calls_for.false in
    let state : new ≡ after_closing s step = c.close.ensures.state
    ∙ ap (λ (r : RelayValue). after_closing r.state step) c.put_closing.ensures.relay in
    goes_served g.met.P.Port.waits_no_more l0 (g.S.Scribe.trace c.put_closing.new.scribe) f h events (closing_served s step)
    (subst (λ b. MatchBool b (Closes step s events new) (Nothing s events new)) (sym yes) (record { entries = refl; state = state }))
    (same_as s new _ state (closing_same s step)) c.put_closing.ensures.counted
    (Grew-join l0 (g.S.Scribe.trace c.reserve.new.self) (g.S.Scribe.trace c.put_closing.new.scribe) [] events
    c.reserve.ensures.trace c.put_closing.ensures.list)
    (closing_vouched (g.P.Port.vouches c.args.port.now) (g.P.Port.vouches c.tell.new.port) s step c.tell.ensures.vouched
    c.tell.ensures.unheard)
    (all_ends (g.P.Port.ends c.args.port.now) (g.P.Port.ends c.tell.new.port) (told_step step) events (λ e. closing_says s step e)
    c.tell.ensures.ends) c.tell.ensures.told
    (Heard-quiet f h events c.tell.ensures.cause (λ e. closing_unfailed s step e) (closing_polls s step))

pub returns-then-not-calls_for-clause-went : goal.returns-then-not-calls_for-clause-went
returns-then-not-calls_for-clause-went g c =
    let s = c.args.run.now.relay.state in
    let step = c.args.step in
    let no : is_some (closing_entry s (close_step step)) ≡ false = sym c.calls_for.ensures ∙ c.if-not-calls_for.true in
    goes_as (λ a p. subst (λ b. MatchBool b (Closes step s a s) (Nothing s a s)) (sym no) p)
    (goes_nowhere refl refl (Grew-none (g.S.Scribe.trace c.args.scribe.now)) (λ s t x k. k))
