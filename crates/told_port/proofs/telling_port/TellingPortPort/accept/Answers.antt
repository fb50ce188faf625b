use Rattle.std.proofs.Common.{subst, sym, ap}
use Rattle.ev_types.specs.Told.{PortTold}
use Rattle.ev_port.specs.Calls.{AcceptedLink}
use Rattle.told_port.specs.Calls.{told_by}
use Rattle.told_port.proofs.GrownLemmas.{accept-told}
use Rattle.told_port.proofs.telling_port.TellingPortPort.accept.Goals as goal

pub returns-clause-told : goal.returns-clause-told
returns-clause-told g c =
    let before = told_by c.args.self.now.log.calls in
    let call = ap (λ calls. told_by calls) c.then-self.ensures in
    subst (λ (told : PortTold). AcceptedLink before told c.accept-answer.result) (sym call)
    (rw c.plain.ensures.call (accept-told before c.args.link c.accept-answer.result))
