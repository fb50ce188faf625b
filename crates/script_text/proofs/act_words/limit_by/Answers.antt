use Rattle.std.proofs.Common.{sym, ◌∙◌}
use Rattle.script_text.proofs.LimitLemmas.{limit_of-answer}
use Rattle.script_text.proofs.act_words.limit_by.Goals as goal

pub returns : goal.returns
returns c =
    let made = c.new.ensures in
    c.ok.ensures.value
    ∙ sym (limit_of-answer c.new.result c.args.read_rate c.args.read_burst c.args.write_rate c.args.write_burst c.args.tick
    made.verdict made.read_rate made.read_burst made.write_rate made.write_burst made.tick_ms)
