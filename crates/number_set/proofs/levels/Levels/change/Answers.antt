use Rattle.std.proofs.Common.{sym, arith, ◌/◌}
use Rattle.std.proofs.lemmas.List.{get_or_read}
use Rattle.number_set.proofs.TopLemmas.{put_tops}
use Rattle.number_set.proofs.levels.Levels.change.Goals as goal

pub invariant_of-self-clause-tops_are : goal.invariant_of-self-clause-tops_are
invariant_of-self-clause-tops_are c =
    let words = c.args.self.now.words.items in
    let after = c.put_number.new.words.items in
    let at = c.args.number / 64 in
    let v = c.index.result.now in
    put_tops words after c.args.self.now.tops.items c.put_number-2.new.words.items at v c.args.self.now.tops_are
    (omega (arith, c.put_number.ensures.len)) (omega (arith, c.put_number-2.ensures.len)) c.put_number.ensures.words
    (sym (get_or_read after at v (omega (arith, c.put_number.ensures.len, c.requires)) c.index.ensures 0)) c.put_number-2.ensures.numbers
