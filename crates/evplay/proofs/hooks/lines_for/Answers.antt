use Rattle.std.proofs.Common.{◌≡◌, ◌+◌, ◌<◌, ◌++◌, ◌∷◌, [], ℕ, Bool, true, false, ◌==◌, if◌then◌else◌, List, length, drop, get_or, refl}
use Rattle.std.proofs.Common.{sym, ◌∙◌, ap}
use Rattle.std.proofs.Common.{append_assoc, append-nil}
use Rattle.std.specs.Prelude.{filter, map}
use Rattle.std.proofs.Common.{Vec, Global}
use Rattle.std.proofs.lemmas.List.{drop_more, drop_all}
use Rattle.std.proofs.lemmas.Bool.{eq-eqb, eqb-true}
use Rattle.ev_types.specs.declared.plan_line.PlanLine.{PlanLine}
use Rattle.ev_types.specs.declared.side.SideId.{SideId}
use Rattle.ev_types.specs.Sides.{number}
use Rattle.evplay.specs.HandedIn.{lines_at}
use Rattle.evplay.proofs.hooks.lines_for.Goals.{then-number+in_ok-push, else-number}
use Rattle.evplay.proofs.hooks.lines_for.Goals as goal

-- one line more was looked at
one_more : (plans : List (SideId × PlanLine)) (i n : ℕ) (x : SideId × PlanLine) (b : Bool) (seen next : List PlanLine) → i < length plans →
    x ≡ get_or plans i x → (number x.0 == n) ≡ b → next ≡ (if b then seen ++ x.1 ∷ [] else seen) →
    seen ++ lines_at (drop i plans) n ≡ lines_at plans n → next ++ lines_at (drop (i + 1) plans) n ≡ lines_at plans n
one_more plans i n x b seen next lt is test push h =
    let rest : List PlanLine = lines_at (drop (i + 1) plans) n in
    ap (λ z. z ++ rest) push ∙ go b ∙ ap (λ c. seen ++ with_next c) (sym test)
    ∙ ap (λ z. seen ++ lines_at z n) (ap (λ y. y ∷ drop (i + 1) plans) is ∙ sym (drop_more plans i x lt)) ∙ h
  where
    with_next : Bool → List PlanLine
    with_next c = map (λ y. y.1)
        (if c then x ∷ filter (λ y. number y.0 == n) (drop (i + 1) plans) else filter (λ y. number y.0 == n) (drop (i + 1) plans))

    go : (c : Bool) → (if c then seen ++ x.1 ∷ [] else seen) ++ lines_at (drop (i + 1) plans) n ≡ seen ++ with_next c
    go true = append_assoc seen (x.1 ∷ []) (lines_at (drop (i + 1) plans) n)
    go false = refl

not-same : (m n : ℕ) → (m ≡ n → ⊥) → (m == n) ≡ false
not-same m n far = go (m == n) refl
  where
    go : (b : Bool) → (m == n) ≡ b → (m == n) ≡ false
    go true is = absurd (far (eqb-true m n is))
    go false is = is

pub loop-side-preserved : goal.loop-side-preserved
loop-side-preserved c =
    let x = c.loop-side-item.result in
    let at = c.number.ensures in
    elim c.if-number.branch [
      | then-number+in_ok-push w ↦
          one_more c.args.plans.now c.loop-side.side-index c.args.number x true c.loop-side.lines.items c.if-number.lines.items
          c.loop-side-test.true c.loop-side-item.is (eq-eqb (number x.0) c.args.number (sym at ∙ w.if-number.true))
          (ap (λ (v : Vec PlanLine Global). v.items) w.lines-is ∙ w.in_ok-push.ensures.items) c.loop-side.invariant
      | else-number w ↦
          one_more c.args.plans.now c.loop-side.side-index c.args.number x false c.loop-side.lines.items c.if-number.lines.items
          c.loop-side-test.true c.loop-side-item.is (not-same (number x.0) c.args.number (λ h. w.if-number.false (at ∙ h)))
          (ap (λ (v : Vec PlanLine Global). v.items) w.lines-is) c.loop-side.invariant
    ]

pub returns : goal.returns
returns c =
    sym (append-nil c.loop-side.lines.items)
    ∙ ap (λ z. c.loop-side.lines.items ++ lines_at z c.args.number)
    (sym (drop_all c.loop-side.side-index c.args.plans.now c.loop-side-test.false))
    ∙ c.loop-side.invariant
