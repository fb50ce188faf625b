use Rattle.std.proofs.Common.{◌≡◌, ◌-◌, length, arith, map, ap, subst, ◌∙◌, sym}
use Rattle.ev_port.specs.declared.port.Want.{Want}
use Rattle.ev_port.specs.WantWords.{word_rows_before}
use Rattle.ev_port.proofs.WantWordLemmas.{word_rows-all}
use Rattle.script_text.specs.Room.{HasRoom, room_of}
use Rattle.evrelay.specs.RingText.{SpeltBehind}
use Rattle.evrelay.specs.RingWants.{want_entry}
use Rattle.evrelay.proofs.SpeltLemmas.{room-side, spelt-side, wanted}
use Rattle.evrelay.proofs.want_lines.put_want_word.Goals as goal

pub put_side-left-requires : goal.put_side-left-requires
put_side-left-requires c =
    subst (λ (w : Want). HasRoom c.loop-bit.text (room_of (length (wanted w) - c.loop-bit.left) 0)) (sym c.row.ensures)
    (room-side c.args.word.now c.loop-bit.bit c.args.passed c.loop-bit.left c.args.text.now c.loop-bit.text c.loop-bit-test.true
    c.requires.room c.loop-bit.invariant)

pub loop-bit-preserved : goal.loop-bit-preserved
loop-bit-preserved c =
    spelt-side c.args.word.now c.loop-bit.bit c.args.passed c.loop-bit.left c.put_side-left.result c.args.text.now c.loop-bit.text
    c.put_side-left.new.text c.loop-bit.invariant
    (subst (λ (w : Want). SpeltBehind (map want_entry (wanted w)) c.loop-bit.left c.put_side-left.result c.loop-bit.text
    c.put_side-left.new.text) c.row.ensures c.put_side-left.ensures)

pub returns : goal.returns
returns c =
    let end : c.loop-bit.bit ≡ 64 = omega (arith, c.loop-bit-test.false, c.loop-bit.auto.bit-end) in
    subst (λ ws. SpeltBehind (map want_entry ws) c.args.passed c.loop-bit.left c.args.text.now c.loop-bit.text)
    (ap (word_rows_before c.args.word.now) end ∙ word_rows-all c.args.word.now) c.loop-bit.invariant
