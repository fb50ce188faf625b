use Rattle.std.proofs.Common.{◌≡◌, true, false, ◌&&◌, nat_lt, refl, sym, ◌∙◌, ap, subst}
use Rattle.std.specs.Prelude.{MatchBool}
use Rattle.std.proofs.lemmas.Bool.{not-true, not-false}
use Rattle.std.proofs.lemmas.Result.{MatchResult-weaker}
use Rattle.ev_types.specs.declared.answer.WriteAnswer.{WriteAnswer}
use Rattle.relay_state.specs.Rooms.{write_room}
use Rattle.relay_drive.specs.Steps.{Nothing}
use Rattle.relay_drive.specs.Calls.{Writes}
use Rattle.relay_drive.proofs.GoesLemmas.{Grew-none, goes_as, goes_nowhere}
use Rattle.relay_drive.proofs.serve.write_side.Goals as goal

pub returns-then-not-want-clause-went : goal.returns-then-not-want-clause-went
returns-then-not-want-clause-went g c =
    let s = c.args.run.now.relay.state in
    let e = c.args.want.side in
    let no : c.args.want.can_write && nat_lt 0 (write_room s e) ≡ false =
    ap (λ b. b && nat_lt 0 (write_room s e)) (not-true c.args.want.can_write c.if-not-want.true) in
    goes_as (λ a p. subst (λ b. MatchBool b ((answer : WriteAnswer) × Writes e answer s a s) (Nothing s a s)) (sym no) p)
    (goes_nowhere refl refl (Grew-none (g.S.Scribe.trace c.args.scribe.now)) (λ s t x k. k))

pub returns-clause-went : goal.returns-clause-went
returns-clause-went g c =
    let s = c.args.run.now.relay.state in
    let e = c.args.want.side in
    let new = c.ask_write.new.run.relay.state in
    let marked : true ≡ c.args.want.can_write = sym (not-false c.args.want.can_write c.if-not-want.false) in
    MatchResult-weaker c.ask_write.result c.ask_write.ensures.went
    (λ _ h. goes_as (λ a p. subst (λ m. MatchBool (m && nat_lt 0 (write_room s e)) ((answer : WriteAnswer) × Writes e answer s a new)
    (Nothing s a new)) marked p) h)
    (λ _ h. h)
