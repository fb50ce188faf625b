use Rattle.std.proofs.Common.{◌-◌, arith, refl}
use Rattle.std.specs.List.{slice_index_or}
use Rattle.ev_port.specs.declared.want_word.WantWord.{WantWord}
use Rattle.evrelay.proofs.SpeltLemmas.{room-word, spelt-word}
use Rattle.evrelay.proofs.want_lines.put_want_words.Goals as goal

abbrev none : WantWord
none = record { at = 0; read = 0; write = 0 }

pub put_want_word-left-requires-clause-room : goal.put_want_word-left-requires-clause-room
put_want_word-left-requires-clause-room c =
    let words = c.args.words.now in
    let next = c.loop-at.at - 1 in
    room-word words c.loop-at.at next (slice_index_or words next none) none c.loop-at-test.true refl c.loop-at.invariant.within refl
    c.args.passed c.loop-at.left c.args.text.now c.loop-at.text c.requires.room c.loop-at.invariant.spelt

pub loop-at-preserved : goal.loop-at-preserved
loop-at-preserved c =
    let words = c.args.words.now in
    let next = c.loop-at.at - 1 in
    let within = c.loop-at.invariant.within in
    record {
      within = omega (arith, within);
      spelt = spelt-word words c.loop-at.at next (slice_index_or words next none) none c.loop-at-test.true refl within refl
          c.args.passed c.loop-at.left c.put_want_word-left.result c.args.text.now c.loop-at.text c.put_want_word-left.new.text
          c.loop-at.invariant.spelt c.put_want_word-left.ensures;
    }
