use Rattle.std.proofs.Common.{subst}
use Rattle.evbuf.specs.Evbuffered.{Evbuffered}
use Rattle.buffers_mode.specs.Steps.{shown}
use Rattle.buffers_mode.specs.Played.{Took, own_step}
use Rattle.buffers_mode.proofs.RunLemmas.{Took-own}
use Rattle.buffers_mode.proofs.moves.own_step.Goals as goal

pub returns-clause-took : goal.returns-clause-took
returns-clause-took c =
    Took-own c.take_step.result c.args.buffers.now c.args.b c.args.op.now c.take_step.new.buf
    (subst (λ (buf : Evbuffered). Took c.take_step.result (shown c.take_step.new.buf) (own_step c.args.op.now (shown buf)))
    c.at.ensures.buffer c.take_step.ensures)
