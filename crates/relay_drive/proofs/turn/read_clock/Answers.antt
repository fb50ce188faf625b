use Rattle.std.proofs.Common.{◌≡◌, ℕ, ◌^◌, [], ◌∷◌, max, min, refl, sym, ◌∙◌, ap, subst, arith}
use Rattle.ev_types.specs.declared.entry.Entry.TheVariants as entry
use Rattle.ev_types.specs.Trace.{Trace}
use Rattle.relay_state.specs.State.{State}
use Rattle.relay_state.specs.Time.{begun}
use Rattle.relay_steps.proofs.FrameLemmas.{frame-begun}
use Rattle.relay_core.specs.Timeless.{AreLeftAlikeBeside}
use Rattle.relay_drive.specs.Links.{SameLink, IsTimelessLink, at_time}
use Rattle.relay_drive.specs.Agenda.{CountsAreFew}
use Rattle.relay_drive.proofs.BegunLemmas.{begun-same}
use Rattle.relay_drive.proofs.FewLemmas.{few-begun}
use Rattle.relay_drive.proofs.GoesLemmas.{Grew-join, goes_by, goes_nowhere}
use Rattle.relay_drive.proofs.HeardLemmas.{Heard-quiet}
use Rattle.ev_port.specs.EndSteps.{no_step}
use Rattle.relay_drive.proofs.CalmLemmas.{fits_turned}
use Rattle.relay_drive.proofs.TiedLemmas.{all_ends}
use Rattle.relay_drive.proofs.KnownLemmas.{known_begun}
use Rattle.std.proofs.lemmas.Result.{err_from_is_err_and}
use Rattle.relay_drive.proofs.turn.read_clock.Goals as goal

pub returns-clause-went : goal.returns-clause-went
returns-clause-went g c =
    let s = c.args.run.now.relay.state in
    let reading = c.now.result in
    let ms : ℕ = max s.plain.time (min reading (2 ^ 62)) in
    let time : c.begin-ms.result ≡ ms = c.begin-ms.ensures.time in
    let events : Trace = (entry.Turn ms, []) ∷ [] in
    let state : c.begin-ms.new.self.state ≡ begun s ms = c.begin-ms.ensures.state ∙ ap (begun s) time in
    let l0 = g.S.Scribe.trace c.args.scribe.now in
    goes_by l0 (g.S.Scribe.trace c.put.new.scribe) (g.P.Port.faults c.args.port.now) (g.P.Port.faults c.now.new.self) events
    (reading, record { entries = refl; state = state }) (ap (λ (z : State). z.settings) state ∙ (frame-begun s ms).settings)
    (let n = c.put.ensures.counted in
    omega (arith, n))
    (Grew-join l0 (g.S.Scribe.trace c.reserve.new.self) (g.S.Scribe.trace c.put.new.scribe) [] events c.reserve.ensures.trace
    (rw (time) at c.put.ensures.list))
    (λ t. fits_turned t s c.begin-ms.new.self.state ms reading refl state)
    (λ t fits. known_begun s.settings (g.P.Port.vouches c.args.port.now) (g.P.Port.vouches c.now.new.self) g.P.Port.none_waits
    (g.P.Port.told c.args.port.now) (g.P.Port.told c.now.new.self) (g.P.Port.ends c.args.port.now)
    (g.P.Port.ends c.now.new.self) t reading ms
    (ap (λ n. max n (min reading (2 ^ 62))) (sym fits.time)) (ap (λ n. max n (min reading (2 ^ 62))) (sym fits.last)) c.now.ensures.vouched
    (all_ends (g.P.Port.ends c.args.port.now) (g.P.Port.ends c.now.new.self) (λ e. no_step) events (λ e. refl) c.now.ensures.ends)
    c.now.ensures.told)
    (Heard-quiet (g.P.Port.faults c.args.port.now) (g.P.Port.faults c.now.new.self) events c.now.ensures.cause (λ x. refl) refl)

pub returns-in_err-reserve-clause-went : goal.returns-in_err-reserve-clause-went
returns-in_err-reserve-clause-went g c =
    let p = err_from_is_err_and c.from_residual.result c.from_residual.ensures.1 in
    rw (p.1) (goes_nowhere refl refl c.reserve.ensures.trace (λ s t x k. k))

pub returns-clause-opened : goal.returns-clause-opened
returns-clause-opened g c =
    let s = c.args.run.now.relay.state in
    ap (λ (z : State). z.plain.opened) c.begin-ms.ensures.state ∙ (frame-begun s c.begin-ms.result).opened

pub returns-clause-still : goal.returns-clause-still
returns-clause-still g c =
    let s = c.args.run.now.relay.state in
    let ms = c.begin-ms.result in
    λ k h. subst (λ (z : State). SameLink k (at_time z.plain.time s) z) (sym c.begin-ms.ensures.state)
    (subst (λ t. SameLink k (at_time t s) (begun s ms)) (sym (frame-begun s ms).time)
    (begun-same k ms s (subst (λ z. IsTimelessLink z k) c.begin-ms.ensures.state h)))

pub returns-clause-alike : goal.returns-clause-alike
returns-clause-alike g c =
    let s = c.args.run.now.relay.state in
    let ms = c.begin-ms.result in
    subst (λ t. AreLeftAlikeBeside c.begin-ms.new.self.watched t s)
    (sym (ap (λ (z : State). z.plain.time) c.begin-ms.ensures.state ∙ (frame-begun s ms).time)) c.begin-ms.ensures.alike

pub returns-clause-few : goal.returns-clause-few
returns-clause-few g c = λ few. subst CountsAreFew (sym c.begin-ms.ensures.state)
    (few-begun c.args.run.now.relay.state c.begin-ms.result few)
