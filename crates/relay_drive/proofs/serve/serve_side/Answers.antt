use Rattle.std.proofs.Common.{◌≡◌, false, sym, ◌∙◌, subst, inr}
use Rattle.std.specs.Prelude.{MatchBool}
use Rattle.std.proofs.lemmas.Result.{MatchResult-weaker}
use Rattle.relay_drive.specs.Steps.{Then}
use Rattle.relay_drive.specs.Phases.{ReadsSide, WritesSide, ConnectsSide}
use Rattle.relay_model.specs.Rooms.{is_connecting}
use Rattle.relay_drive.proofs.GoesLemmas.{goes_as, goes_then}
use Rattle.relay_drive.proofs.EachLemmas.{then_nothing}
use Rattle.relay_drive.proofs.serve.serve_side.Goals as goal

pub returns-clause-went : goal.returns-clause-went
returns-clause-went g c =
    let w = c.args.want in
    let s = c.args.run.now.relay.state in
    let new = c.write_side.new.run.relay.state in
    let up : is_connecting s.plain w.side ≡ false = sym c.is_connecting.ensures ∙ c.if-is_connecting.false in
    let read = c.in_ok-read_side.ensures.went in
    MatchResult-weaker c.write_side.result c.write_side.ensures.went
    (λ _ h. goes_as (λ a p. subst (λ b. MatchBool b (ConnectsSide w.side w.can_write s a new)
    (Then (ReadsSide w.side w.can_read) (WritesSide w.side w.can_write) s a new)) (sym up) p) (goes_then read h))
    (λ _ h. goes_as (λ a p. inr (up, then_nothing p)) (goes_then read h))
