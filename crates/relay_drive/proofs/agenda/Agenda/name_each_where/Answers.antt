use Rattle.std.proofs.Common.{refl, ◌∙◌, arith}
use Rattle.relay_drive.proofs.AgendaLemmas.{touched-none, touched-next, touched-all}
use Rattle.relay_drive.proofs.agenda.Agenda.name_each_where.Goals as goal

pub returns-then-not-told : goal.returns-then-not-told
returns-then-not-told c = record {
  same = (refl, refl, refl, refl);
  to_name = λ told. absurd (let no = c.if-not-told.true in cc);
  still = λ _. refl;
}

pub loop-link-init : goal.loop-link-init
loop-link-init c = record {
  within = omega arith;
  same = (refl, refl, refl, refl);
  to_name = touched-none c.args.set.now c.args.self.now.to_name;
}

pub loop-link-preserved : goal.loop-link-preserved
loop-link-preserved c =
    let inv = c.loop-link.invariant in
    record {
      within = (let lt = c.in-Some.ensures.1 in omega (arith, lt));
      same = (inv.same.0, inv.same.1, inv.same.2, c.insert.ensures.len ∙ inv.same.3);
      to_name = touched-next c.args.set.now c.args.self.now.to_name c.loop-link.self.to_name c.insert.new.self
          c.loop-link.from c.in-Some.link c.insert.ensures.members c.in-Some.ensures.0 c.in-Some.ensures.2 c.in-Some.ensures.3 inv.to_name;
    }

pub returns : goal.returns
returns c =
    let inv = c.loop-link.invariant in
    record {
      same = inv.same;
      to_name = λ _. touched-all c.args.set.now c.args.self.now.to_name c.loop-link.self.to_name c.loop-link.from c.args.opened inv.within
          c.in_default.ensures inv.to_name;
      still = λ untold. absurd (let no = c.if-not-told.false in cc);
    }
