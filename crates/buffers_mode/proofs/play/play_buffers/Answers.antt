use Rattle.std.proofs.Common.{rules, IfErr}
use Rattle.buffers_mode.specs.Text.{answers_of, EndsFor}
use Rattle.buffers_mode.proofs.PlayedLemmas.{EndsFor-never_spent}
use Rattle.buffers_mode.proofs.play.play_buffers.Goals as goal

pub returns-in_err-play_lines-clause-never_spent : goal.returns-in_err-play_lines-clause-never_spent
returns-in_err-play_lines-clause-never_spent c =
    let answer = c.from_residual-in_err-play_lines.result in
    let ends : IfErr answer (λ fault. EndsFor fault (answers_of c.args.text.now)) = search rules in
    EndsFor-never_spent answer c.args.text.now ends
