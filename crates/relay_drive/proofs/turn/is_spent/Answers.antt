use Rattle.std.proofs.Common.{◌<◌, ◌^◌, ◌∙◌, sym, arith}
use Rattle.std.proofs.lemmas.Bool.{lt-leb}
use Rattle.relay_drive.specs.Agenda.{LinkCountsAreFew}
use Rattle.relay_drive.proofs.LinkParts.{not-spent, spent-seen}
use Rattle.relay_drive.proofs.AgendaLemmas.{up-next, up-all}
use Rattle.relay_drive.proofs.turn.is_spent.Goals as goal

pub loop-link-preserved : goal.loop-link-preserved
loop-link-preserved c =
    let s = c.args.relay.now.state in
    let k = c.in-Some.link in
    let found = c.in-Some.ensures in
    let lt : k < s.plain.opened = omega (arith, found.1, c.opened.ensures.count) in
    record {
      few = up-next (LinkCountsAreFew s) c.loop-link.from k c.loop-link.invariant.few
          (λ j le less. c.requires j (omega (arith, less, lt)) (found.3 j le less))
          (sym (spent-seen s c.sides.result.now.links k c.sides.ensures.flows c.sides.ensures.lanes) ∙ sym c.if-has_spent_count.ensures);
      within = omega (arith, lt);
    }

pub returns-clause-few : goal.returns-clause-few
returns-clause-few c = λ _.
    let s = c.args.relay.now.state in
    up-all (LinkCountsAreFew s) c.loop-link.from s.plain.opened c.loop-link.invariant.few
    (λ j le less. c.requires j less (c.in_default.ensures j le (omega (arith, less, c.opened.ensures.count))))

pub returns-clause-spent : goal.returns-clause-spent
returns-clause-spent c =
    let s = c.args.relay.now.state in
    let links_few = up-all (LinkCountsAreFew s) c.loop-link.from s.plain.opened c.loop-link.invariant.few
    (λ j le less. c.requires j less (c.in_default.ensures j le (omega (arith, less, c.opened.ensures.count)))) in
    sym (not-spent s c.opened.ensures.pairs (lt-leb (2 ^ 62) s.plain.turn
    (let turns = c.turns.ensures in let few = c.if-turns-ge-SPENT.false in omega (arith, turns, few))) links_few)
