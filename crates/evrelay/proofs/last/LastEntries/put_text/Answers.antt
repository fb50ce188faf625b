use Rattle.std.proofs.Common.{◌≡◌, ◌+◌, ◌-◌, ◌∙◌, List, ap, drop, length, subst, arith}
use Rattle.ev_types.specs.declared.entry.Entry.{Entry}
use Rattle.script_text.specs.Room.{GrewBy, room_of}
use Rattle.evrelay.specs.RingText.{ring_text, SpeltBehind}
use Rattle.evrelay.specs.RingWants.{word_entries}
use Rattle.evrelay.proofs.SpeltLemmas.{spelt-whole}
use Rattle.evrelay.proofs.last.LastEntries.put_text.Goals as goal

pub returns : goal.returns
returns c =
    let last = c.args.self.now in
    let a = c.args.text.now in
    let b = c.put_want_words-left.new.text in
    let passed = c.saturating_sub-passed.result in
    let left = c.put_want_words-left.result in
    let back : c.split_at.result.1.now ≡ drop left last.older.items =
    c.split_at.ensures.back ∙ ap (λ (es : List Entry). drop left es) c.deref-2.ensures.value in
    let is : passed ≡ last.many + length last.older.items + length last.newer.items - 64 =
    omega (arith, c.saturating_sub-passed.ensures, c.len.ensures, c.len-2.ensures) in
    spelt-whole last.words.items last.older.items last.newer.items last.many passed left a b last.counted is
    (omega (arith, last.older_short)) (omega (arith, last.newer_short))
    (subst (λ ws. SpeltBehind (word_entries ws) passed left a b) c.deref.ensures.value c.put_want_words-left.ensures) c.requires
    c.split_at.result.1.now c.put_lines.new.text back c.put_lines.ensures c.put_lines-2.new.text
    (subst (λ es. GrewBy (ring_text es) (room_of (length es) 0) c.put_lines.new.text c.put_lines-2.new.text) c.deref-3.ensures.value
    c.put_lines-2.ensures)
