use Rattle.std.proofs.Common.{◌++◌, ap, ◌∙◌}
use Rattle.evbuf.specs.Evbuffered.{Evbuffered}
use Rattle.buffers_mode.specs.Run.{released_by, released_lines, without_released}
use Rattle.buffers_mode.proofs.RunLemmas.{OnOk-both, released_by-shown}
use Rattle.buffers_mode.proofs.player.Player.release_buffer.Goals as goal

pub returns : goal.returns
returns c =
    OnOk-both c.tell_released.result c.tell_released.ensures.text c.tell_released.ensures.after
    (λ text after.
    released_by-shown c.self.inside.buffers c.self.inside.deferred c.self.inside.text.items c.tell_released.new.into.items c.args.b
    c.tell_released.new.buf
    (text ∙ ap (λ (buf : Evbuffered). c.self.inside.text.items ++ released_lines buf.released) c.at.ensures.buffer)
    (after ∙ ap (λ (buf : Evbuffered). without_released buf) c.at.ensures.buffer)
    ∙ ap (released_by c.args.b) c.self.view_is)
