use Rattle.std.proofs.Common.{◌∙◌, sym}
use Rattle.evrelay.proofs.SpeltLemmas.{room-some, spelt-none, spelt-some}
use Rattle.evrelay.proofs.want_lines.put_side.Goals as goal

pub put_behind-requires : goal.put_behind-requires
put_behind-requires c =
    room-some c.args.want c.args.passed c.args.text.now (sym c.is_wanted.ensures ∙ c.if-is_wanted.true) c.requires

pub returns-then-is_wanted : goal.returns-then-is_wanted
returns-then-is_wanted c =
    spelt-some c.args.want c.want_entry.result c.args.passed c.put_behind.result c.args.text.now c.put_behind.new.text
    (sym c.is_wanted.ensures ∙ c.if-is_wanted.true) c.want_entry.ensures c.put_behind.ensures

pub returns-else-is_wanted : goal.returns-else-is_wanted
returns-else-is_wanted c = spelt-none c.args.want c.args.passed c.args.text.now (sym c.is_wanted.ensures ∙ c.if-is_wanted.false)
