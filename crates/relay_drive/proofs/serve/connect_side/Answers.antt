use Rattle.std.proofs.Common.{refl, sym, subst}
use Rattle.std.specs.Prelude.{MatchBool}
use Rattle.std.proofs.lemmas.Bool.{not-true}
use Rattle.ev_types.specs.declared.answer.ConnAnswer.{ConnAnswer}
use Rattle.relay_drive.specs.Steps.{Nothing}
use Rattle.relay_drive.specs.Calls.{Checks}
use Rattle.relay_drive.proofs.GoesLemmas.{Grew-none, goes_as, goes_nowhere}
use Rattle.relay_drive.proofs.serve.connect_side.Goals as goal

pub returns-then-not-want-clause-went : goal.returns-then-not-want-clause-went
returns-then-not-want-clause-went g c =
    let s = c.args.run.now.relay.state in
    let e = c.args.want.side in
    goes_as (λ a p. subst (λ b. MatchBool b ((answer : ConnAnswer) × Checks e answer s a s) (Nothing s a s))
    (sym (not-true c.args.want.can_write c.if-not-want.true)) p)
    (goes_nowhere refl refl (Grew-none (g.S.Scribe.trace c.args.scribe.now)) (λ s t x k. k))
