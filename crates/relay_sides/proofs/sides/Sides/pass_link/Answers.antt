use Rattle.std.proofs.Common.{◌≡◌, ◌||◌, ◌⊎◌, Result, Bool, true, false, inl, inr, Ok, refl, ap, sym, subst, ◌∙◌}
use Rattle.std.proofs.lemmas.Result.{err_from_is_err_and}
use Rattle.relay_state.specs.Closing.{out_side}
use Rattle.relay_sides.specs.Links.{Links, PassedFrom, PartlyPassed}
use Rattle.relay_sides.specs.LinkPasses.{NoRoundChanges}
use Rattle.relay_sides.specs.Progress.{is_settled_from}
use Rattle.relay_sides.proofs.sides.Sides.pass_link.Goals as goal

-- one of two holds
one_of : (a b : Bool) (A B : Type 0) → (a ≡ true → A) → (b ≡ true → B) → (a || b) ≡ true → A ⊎ B
one_of true b A B f g is = inl (f refl)
one_of false b A B f g is = inr (g is)

-- neither of two holds
neither : (a b : Bool) → (a || b) ≡ false → (a ≡ false) × (b ≡ false)
neither true b is = absurd (let wrong : true ≡ false = is in cc)
neither false b is = (refl, is)

-- what was answered
said : (E : Type 0) (r : Result Bool E) (a : Bool) → r ≡ Ok a → r ≡ Ok false → a ≡ false
said E r true p q = absurd (cc)
said E r false p q = refl

none_of : (a b : Bool) → a ≡ false → b ≡ false → (a || b) ≡ true → ⊥
none_of true b p q either = absurd (let wrong : true ≡ false = p in cc)
none_of false true p q either = absurd (let wrong : true ≡ false = q in cc)
none_of false false p q either = absurd (let wrong : false ≡ true = either in cc)

pub returns-in_err-first-clause-passed : goal.returns-in_err-first-clause-passed
returns-in_err-first-clause-passed c =
    let p = err_from_is_err_and c.from_residual.result c.from_residual.ensures.1 in
    rw (p.1) (inl c.in_err-first.ensures.passed)

pub returns-in_err-second-clause-passed : goal.returns-in_err-second-clause-passed
returns-in_err-second-clause-passed c =
    let p = err_from_is_err_and c.from_residual-in_err-second.result c.from_residual-in_err-second.ensures.1 in
    let mid = c.pass.new.self.links in
    rw (p.1) (inr (
      mid,
      c.in_ok-first.ensures.passed,
      subst (λ e. PartlyPassed c.args.hold mid e c.pass-2.new.self.links) c.peer.ensures c.in_err-second.ensures.passed,
    ))

pub returns-then-is_either-clause-passed : goal.returns-then-is_either-clause-passed
returns-then-is_either-clause-passed c =
    let mid = c.pass.new.self.links in (
      mid,
      c.in_ok-first.ensures.passed,
      subst (λ e. PassedFrom c.args.hold mid e c.pass-2.new.self.links) c.peer.ensures c.in_ok-second.ensures.passed,
      one_of c.in_ok-first.first c.in_ok-second.second _ _ (λ e. c.in_ok-first.ensures.apart (ap Ok e))
          (λ e. c.in_ok-second.ensures.apart (ap Ok e)) (sym c.is_either.ensures ∙ c.if-is_either.true),
    )

pub returns-clause-passed : goal.returns-clause-passed
returns-clause-passed c =
    let hold = c.args.hold in
    let mid = c.pass.new.self.links in
    let none = neither c.in_ok-first.first c.in_ok-second.second (sym c.is_either.ensures ∙ c.if-is_either.false) in
    let first = c.in_ok-first.ensures.still (ap Ok none.0) in
    let second = c.in_ok-second.ensures.still (ap Ok none.1) in (
      mid,
      c.in_ok-first.ensures.passed,
      subst (λ (z : Links). PassedFrom hold mid (out_side c.args.link) z) (sym c.give_up_rooms.ensures.links)
          (subst (λ e. PassedFrom hold mid e c.pass-2.new.self.links) c.peer.ensures c.in_ok-second.ensures.passed),
      (first.0, c.give_up_rooms.ensures.links ∙ second.0),
    )

-- what neither changed stands still
pub returns-clause-still : goal.returns-clause-still
returns-clause-still c = λ _.
    let hold = c.args.hold in
    let none = neither c.in_ok-first.first c.in_ok-second.second (sym c.is_either.ensures ∙ c.if-is_either.false) in
    let first = c.in_ok-first.ensures.still (ap Ok none.0) in
    let second = c.in_ok-second.ensures.still (ap Ok none.1) in (
      first.1,
      subst (λ (k : Links). NoRoundChanges hold k (out_side c.args.link)) first.0
          (subst (λ e. NoRoundChanges hold c.pass.new.self.links e) c.peer.ensures second.1),
    )

-- where both are settled, neither wants memory or changes
pub returns-in_err-first-clause-settled : goal.returns-in_err-first-clause-settled
returns-in_err-first-clause-settled c = λ near far. absurd (let wrong = c.in_err-first.ensures.settled near in cc)

pub returns-in_err-second-clause-settled : goal.returns-in_err-second-clause-settled
returns-in_err-second-clause-settled c = λ near far.
    let first = c.in_ok-first.ensures.still (c.in_ok-first.ensures.settled near) in
    let there = subst (λ (k : Links). is_settled_from c.args.hold k (out_side c.args.link) ≡ true) (sym first.0) far in
    absurd (let wrong = c.in_err-second.ensures.settled
    (subst (λ e. is_settled_from c.args.hold c.pass.new.self.links e ≡ true) (sym c.peer.ensures) there) in cc)

pub returns-then-is_either-clause-settled : goal.returns-then-is_either-clause-settled
returns-then-is_either-clause-settled c = λ near far.
    let one = c.in_ok-first.ensures.settled near in
    let first = c.in_ok-first.ensures.still one in
    let there = subst (λ (k : Links). is_settled_from c.args.hold k (out_side c.args.link) ≡ true) (sym first.0) far in
    let two = c.in_ok-second.ensures.settled
    (subst (λ e. is_settled_from c.args.hold c.pass.new.self.links e ≡ true) (sym c.peer.ensures) there) in
    absurd (none_of c.in_ok-first.first c.in_ok-second.second (said _ (Ok c.in_ok-first.first) c.in_ok-first.first refl one)
    (said _ (Ok c.in_ok-second.second) c.in_ok-second.second refl two) (sym c.is_either.ensures ∙ c.if-is_either.true))
