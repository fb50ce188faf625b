use Rattle.std.proofs.Common.{◌≡◌, ap, sym, subst, ◌∙◌, MatchResult}
use Rattle.std.proofs.lemmas.Result.{err_from_is_err_and}
use Rattle.relay_state.specs.Passage.{Passage, Passed, SomeRounds}
use Rattle.relay_sides.specs.Links.{passage_at, with_passage, round_from, PassedFrom, PartlyPassed}
use Rattle.relay_sides.specs.Progress.{is_settled}
use Rattle.relay_sides.specs.declared.pass.RoundRules.{RoundRules}
use Rattle.relay_sides.proofs.LinksLemmas.{with_same}
use Rattle.relay_sides.proofs.sides.Sides.pass.Goals as goal

pub returns-in_err-changed-clause-passed : goal.returns-in_err-changed-clause-passed
returns-in_err-changed-clause-passed c =
    let e = c.args.from in
    let old = c.args.self.now.links in
    let new = c.make_rounds.new.self.links in
    let p = err_from_is_err_and c.from_residual.result c.from_residual.ensures.1 in
    subst (λ r. MatchResult r (λ _. PassedFrom c.args.hold old e new) (λ _. PartlyPassed c.args.hold old e new)) (sym p.1) (
      passage_at new e,
      subst (λ (f : Passage → Passage). SomeRounds f (passage_at old e)
          (passage_at new e)) c.round_rules-round.ensures.by c.in_err-changed.ensures.passage,
      c.in_err-changed.ensures.frame,
    )

pub returns-else-changed-clause-passed : goal.returns-else-changed-clause-passed
returns-else-changed-clause-passed c =
    let e = c.args.from in
    let old = c.args.self.now.links in
    let mid = c.make_rounds.new.self.links in (
      passage_at mid e,
      subst (λ (f : Passage → Passage). Passed f (passage_at old e)
          (passage_at mid e)) c.round_rules-round.ensures.by c.in_ok-changed.ensures.passage,
      c.in_ok-changed.ensures.frame,
    )

-- A round over what was not changed is the last one.
pub returns-else-changed-clause-still : goal.returns-else-changed-clause-still
returns-else-changed-clause-still c = λ h.
    let e = c.args.from in
    let old = c.args.self.now.links in
    let mid = c.make_rounds.new.self.links in
    let same = c.in_ok-changed.ensures.still h in
    let passed = subst (λ (f : Passage → Passage). Passed f (passage_at old e) (passage_at mid e)) c.round_rules-round.ensures.by
    c.in_ok-changed.ensures.passage in (
      c.in_ok-changed.ensures.frame ∙ ap (λ x. with_passage e x old) same ∙ with_same old e,
      subst (λ x. round_from c.args.hold old e x ≡ x) same passed.2,
    )

pub returns-then-changed-clause-passed : goal.returns-then-changed-clause-passed
returns-then-changed-clause-passed c =
    let e = c.args.from in
    let old = c.args.self.now.links in
    let mid = c.make_rounds.new.self.links in (
      passage_at mid e,
      subst (λ (f : Passage → Passage). Passed f (passage_at old e)
          (passage_at mid e)) c.round_rules-round.ensures.by c.in_ok-changed.ensures.passage,
      c.hand_room_back.ensures ∙ c.in_ok-changed.ensures.frame,
    )

pub returns-in_err-changed-clause-settled : goal.returns-in_err-changed-clause-settled
returns-in_err-changed-clause-settled c = λ settled.
    let rules = ap (λ (t : RoundRules). is_settled t (passage_at c.args.self.now.links c.args.from)) c.round_rules-round.ensures.rules in
    absurd (let wrong = c.in_err-changed.ensures.settled (rules ∙ settled) in cc)

pub returns-then-changed-clause-settled : goal.returns-then-changed-clause-settled
returns-then-changed-clause-settled c = λ settled.
    let rules = ap (λ (t : RoundRules). is_settled t (passage_at c.args.self.now.links c.args.from)) c.round_rules-round.ensures.rules in
    c.in_ok-changed.ensures.settled (rules ∙ settled)

pub returns-else-changed-clause-settled : goal.returns-else-changed-clause-settled
returns-else-changed-clause-settled c = λ settled.
    let rules = ap (λ (t : RoundRules). is_settled t (passage_at c.args.self.now.links c.args.from)) c.round_rules-round.ensures.rules in
    c.in_ok-changed.ensures.settled (rules ∙ settled)
