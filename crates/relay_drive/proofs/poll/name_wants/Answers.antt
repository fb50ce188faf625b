use Rattle.std.proofs.Common.{◌<◌, if◌then◌else◌, false, refl, ◌∙◌, ap, inl, inr, arith}
use Rattle.std.proofs.lemmas.Bool.{cases_lt}
use Rattle.relay_state.specs.Closing.{in_side, out_side}
use Rattle.relay_drive.specs.Agenda.{SaysOf}
use Rattle.relay_drive.proofs.AgendaLemmas.{up-all, by_same}
use Rattle.relay_drive.proofs.TableLemmas.{named-wanted, named-next, said-next, says-of, named-lengthened}
use Rattle.relay_drive.proofs.poll.name_wants.Goals as goal

pub loop-link-init : goal.loop-link-init
loop-link-init c = record {
  links = c.in_ok-lengthen.ensures.links;
  seen = c.requires.seen;
  named = named-lengthened c.args.naming.now c.lengthen.new.wants c.args.agenda.now.to_name c.args.relay.now.state
      c.in_ok-lengthen.ensures.rows c.requires.named.named;
  same = (refl, refl, refl, refl);
  looked = λ k from lt. absurd (omega (arith, lt));
  within = omega arith;
  said = λ k a. absurd (omega (arith, a));
}

pub loop-link-preserved : goal.loop-link-preserved
loop-link-preserved c =
    let inv = c.loop-link.invariant in
    let s = c.args.relay.now.state in
    let naming = c.loop-link.naming in
    let k = c.in-Some.link in
    let found = c.in-Some.ensures in
    let lt : k < s.plain.opened = omega (arith, found.1, c.opened.ensures.count) in
    record {
      links = c.name_link.ensures.links ∙ inv.links;
      seen = inv.seen;
      named = named-next naming c.name_link.new.wants c.loop-link.agenda.to_name c.remove.new.self s k inv.seen
          (omega (arith, lt, inv.links)) c.name_link.ensures c.remove.ensures.members (c.requires.few k lt) inv.named;
      same = (inv.same.0, inv.same.1, inv.same.2, c.remove.ensures.len ∙ inv.same.3);
      looked = λ j from under. by_same j k
          (λ e t. c.remove.ensures.members j ∙ ap (λ z. if z then false else c.loop-link.agenda.to_name.has j) t)
          (λ e t. c.remove.ensures.members j ∙ ap (λ z. if z then false else c.loop-link.agenda.to_name.has j) t
          ∙ elim (cases_lt j c.loop-link.from) [ inl less ↦ inv.looked j from less | inr more ↦ found.3 j more (omega (arith, under, e)) ]);
      within = omega (arith, lt);
      said = said-next naming.table c.name_link.new.wants s c.loop-link.from k c.name_link.ensures inv.said
          (λ j le under. says-of naming s j inv.seen (inv.named j (omega (arith, under, lt)) (found.3 j le under)));
    }

pub returns-clause-none_left : goal.returns-clause-none_left
returns-clause-none_left c = λ k from lt.
    elim (cases_lt k c.loop-link.from) [
      | inl less ↦ c.loop-link.invariant.looked k from less
      | inr more ↦ c.in_default.ensures k more (let count = c.opened.ensures.count in omega (arith, lt, count))
    ]

pub returns-clause-named : goal.returns-clause-named
returns-clause-named c =
    let inv = c.loop-link.invariant in
    let s = c.args.relay.now.state in
    let naming = c.loop-link.naming in
    named-wanted naming.table s inv.links
    (up-all (λ k. SaysOf naming.table s (in_side k) × SaysOf naming.table s (out_side k)) c.loop-link.from s.plain.opened inv.said
    (λ k le lt. says-of naming s k inv.seen (inv.named k lt (c.in_default.ensures k le (omega (arith, lt, c.opened.ensures.count))))))

pub returns-clause-right : goal.returns-clause-right
returns-clause-right c =
    let inv = c.loop-link.invariant in
    record { links = omega (arith, inv.links); named = inv.named }
