use Rattle.buffers_mode.proofs.RunLemmas.{remove_buffer_step-moved}
use Rattle.buffers_mode.proofs.moves.remove_buffer.Goals as goal

pub returns-in-Ok-clause-took : goal.returns-in-Ok-clause-took
returns-in-Ok-clause-took c =
    remove_buffer_step-moved c.args.buffers.now c.args.from c.args.to c.args.n c.in-Ok.moved c.move_some.new.self c.in-Ok.ensures.answer
    c.in-Ok.ensures.count
    c.in-Ok.ensures.ok
