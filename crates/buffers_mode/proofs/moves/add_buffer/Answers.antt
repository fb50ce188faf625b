use Rattle.std.proofs.Common.{sym}
use Rattle.buffers_mode.proofs.RunLemmas.{add_buffer_step-moved}
use Rattle.buffers_mode.proofs.moves.add_buffer.Goals as goal

pub returns-in-Ok-clause-took : goal.returns-in-Ok-clause-took
returns-in-Ok-clause-took c =
    add_buffer_step-moved c.args.buffers.now c.args.to c.args.from c.move_all.new.self (sym c.in-Ok.ensures.answer) c.in-Ok.ensures.ok
