use Rattle.std.proofs.Common.{◌≡◌, ◌<◌, ◌≤◌, ◌&&◌, ◌⊎◌, inl, inr, Bool, true, false, refl, sym, ◌∙◌, ap, arith, length}
use Rattle.std.specs.Prelude.{slice_get}
use Rattle.ev_types.specs.Sides.{number}
use Rattle.rate_group.specs.Steps.{group_of}
use Rattle.relay_core.specs.Halts.{is_free}
use Rattle.relay_core.proofs.HaltLemmas.{noted-next, noted-later, noted-all}
use Rattle.relay_core.proofs.relay.Relay.note_halts.Goals as goal

pub loop-at-init : goal.loop-at-init
loop-at-init c = record {
  len = c.requires;
  noted = λ k lt. absurd (omega (arith, lt));
  same = λ is. refl;
  later = λ k le. refl;
  apart = λ is. absurd (cc is);
}

-- both are true of which both are
both : (a b : Bool) → (a && b) ≡ true → (a ≡ true) × (b ≡ true)
both true b h = (refl, h)
both false b h = absurd (let wrong : false ≡ true = h in cc)

-- one is false of which not both are true
either-false : (a b : Bool) → (a && b) ≡ false → (a ≡ false) ⊎ (b ≡ false)
either-false false b h = inl refl
either-false true b h = inr h

pub loop-at-preserved : goal.loop-at-preserved
loop-at-preserved c =
    let inv = c.loop-at.invariant in
    let gs = c.args.self.now.state.groups.groups in
    let lt = c.loop-at-test.true in
    let place : c.loop-at.at < length c.loop-at.seen.items =
    (let count = c.group_count-at-end.ensures.count in let len = inv.len in omega (arith, lt, count, len)) in
    let next = noted-next c.loop-at.seen.items c.note_group-same.new.seen.items gs c.loop-at.at place c.note_group-same.ensures.noted
    inv.noted in
    record {
      len = next.0 ∙ inv.len;
      noted = next.1;
      same = λ is. let p = both c.loop-at.same c.note_group-same.result is in c.note_group-same.ensures.same p.1 ∙ inv.same p.0;
      later = λ k le.
          noted-later c.loop-at.seen.items c.note_group-same.new.seen.items gs c.loop-at.at c.note_group-same.ensures.noted k
          (λ same. absurd (omega (arith, le, same)))
          ∙ inv.later k (omega (arith, le));
      apart = λ is. elim (either-false c.loop-at.same c.note_group-same.result is) [
        | inl before ↦ (let found = inv.apart before in (found.0, omega (arith, found.1), found.2))
        | inr now ↦ (
          c.loop-at.at,
          omega arith,
          λ same. c.note_group-same.ensures.apart now (inv.later c.loop-at.at (omega arith) ∙ same),
        )
      ];
    }

pub returns-clause-noted : goal.returns-clause-noted
returns-clause-noted c =
    let inv = c.loop-at.invariant in
    let gs = c.args.self.now.state.groups.groups in
    let done : length gs ≤ c.loop-at.at =
    (let end = c.loop-at-test.false in let count = c.group_count-at-end.ensures.count in omega (arith, end, count)) in
    noted-all c.loop-at.seen.items gs inv.len (λ k lt. inv.noted k (omega (arith, lt, done)))

pub returns-clause-apart : goal.returns-clause-apart
returns-clause-apart c is same =
    let inv = c.loop-at.invariant in
    let found = inv.apart is in
    found.2 (ap (λ xs. slice_get xs found.0) (sym same) ∙ inv.noted found.0 found.1)

pub returns-clause-shares : goal.returns-clause-shares
returns-clause-shares c e d =
    c.group_count-at-end.ensures.free e d
    ∙ ap (λ xs. is_free xs d (group_of (number e) c.args.self.now.state.groups.members)) (sym (returns-clause-noted c))
