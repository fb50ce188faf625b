use Rattle.std.proofs.Common.{◌∙◌, sym}
use Rattle.relay_core.proofs.TimeLemmas.{poll_timeout-waits, poll_timeout-presses}
use Rattle.relay_core.proofs.relay.Relay.poll_timeout.Goals as goal

pub returns-then-is_pressing : goal.returns-then-is_pressing
returns-then-is_pressing c = sym (poll_timeout-presses c.args.self.now.state (sym c.is_pressing.ensures ∙ c.if-is_pressing.true))

pub returns : goal.returns
returns c =
    c.least_wait_of_all.ensures ∙ sym (poll_timeout-waits c.args.self.now.state (sym c.is_pressing.ensures ∙ c.if-is_pressing.false))
