use Rattle.std.proofs.Common.{◌∙◌, ap}
use Rattle.token_bucket.specs.declared.limit.Dir.TheVariants as dir
use Rattle.relay_state.specs.State.{State}
use Rattle.relay_state.specs.Time.{timed}
use Rattle.relay_core.proofs.TimeLemmas.{side_timed-opened}
use Rattle.relay_core.proofs.relay.Relay.look_at_side.Goals as goal

pub returns-clause-opened : goal.returns-clause-opened
returns-clause-opened c =
    ap (λ (s : State). s.plain.opened) (c.look_at-2.ensures.state ∙ ap (λ s. timed c.args.side s dir.Write) c.look_at.ensures.state)
    ∙ side_timed-opened c.args.self.now.state c.args.side
