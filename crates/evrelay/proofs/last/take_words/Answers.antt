use Rattle.std.proofs.Common.{◌+◌, ◌*◌, ◌/◌, ap, sym, subst, arith}
use Rattle.ev_port.proofs.WantWordLemmas.{length-word_rows}
use Rattle.evrelay.proofs.RingWantsLemmas.{TakenSoFar, take-begin, take-more, take-all}
use Rattle.evrelay.proofs.last.take_words.Goals as goal

pub loop-count-init : goal.loop-count-init
loop-count-init c = record {
  taken = take-begin c.args.wants.now (2 * c.links.result / 64 + 1) c.clear.new.self.items c.clear.ensures.items
      (ap (λ links. 2 * links / 64 + 1) c.links.ensures);
  room = omega (arith, c.clear.ensures.capacity, c.requires.room);
}

pub overflow_add-count : goal.overflow_add-count
overflow_add-count c = omega (arith, length-word_rows c.in-Some.word, c.count-count.ensures, c.loop-count-test.true)

pub loop-count-preserved : goal.loop-count-preserved
loop-count-preserved c =
    let t = c.args.wants.now in
    let w = c.in-Some.word in
    let next = c.loop-count.count + c.count-count.result in
    record {
      taken = subst (TakenSoFar t w.at next) (sym c.push_reserved.ensures.items)
          (take-more t c.loop-count.before c.loop-count.count next c.loop-count.words.items w c.loop-count.invariant.taken
          c.in-Some.ensures c.loop-count-test.true (ap (λ n. c.loop-count.count + n) c.count-count.ensures));
      room = omega (arith, c.push_reserved.ensures.capacity, c.loop-count.invariant.room);
    }

pub returns-clause-last : goal.returns-clause-last
returns-clause-last c =
    take-all c.args.wants.now c.loop-count.before c.loop-count.count c.loop-count.words.items c.loop-count.invariant.taken
    (omega (arith, c.loop-count-test.false))
