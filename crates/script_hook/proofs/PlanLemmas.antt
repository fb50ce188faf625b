-- What is asked by plan at one fire more.
use Rattle.std.proofs.Common.{◌≡◌, ◌+◌, List, [], ◌∷◌, ◌++◌, map, sym, ◌∙◌, ap, append_assoc, append-nil}
use Rattle.std.proofs.lemmas.List.{map-append}
use Rattle.ev_types.specs.declared.act.Act.{Act}
use Rattle.ev_types.specs.declared.answer.AskAnswer.{AskAnswer}
use Rattle.ev_types.specs.declared.plan_line.PlanLine.{PlanLine}
use Rattle.ev_types.specs.declared.why.Why.{Why}
use Rattle.relay_model.specs.Plans.{kind_of, acts_at, acts_behind, heard_of, IsPlanned}

-- what is asked for one reason more
behind-push : (plan : List PlanLine) (before ys : List Why) (y : Why)
    → acts_behind plan before (ys ++ y ∷ []) ≡ acts_behind plan before ys ++ acts_at plan (kind_of y)
    (heard_of (kind_of y) (before ++ ys) + 1)
behind-push plan before [] y =
    append-nil (acts_at plan (kind_of y) (heard_of (kind_of y) before + 1))
    ∙ ap (λ z. acts_at plan (kind_of y) (heard_of (kind_of y) z + 1)) (sym (append-nil before))
behind-push plan before (x ∷ ys) y =
    let first : List Act = acts_at plan (kind_of x) (heard_of (kind_of x) before + 1) in
    let rest : List Act = acts_behind plan (before ++ x ∷ []) ys in
    ap (λ z. first ++ z) (behind-push plan (before ++ x ∷ []) ys y)
    ∙ sym (append_assoc first rest (acts_at plan (kind_of y) (heard_of (kind_of y) ((before ++ x ∷ []) ++ ys) + 1)))
    ∙ ap (λ z. (first ++ rest) ++ acts_at plan (kind_of y) (heard_of (kind_of y) z + 1)) (append_assoc before (x ∷ []) ys)

-- a hook that asked by plan, and at one fire more what its plan has for that, asked by plan
pub planned-push : (plan : List PlanLine) (heard : List Why) (asked more : List (Act × AskAnswer)) (y : Why) → IsPlanned plan heard asked
    → map (λ x. x.0) more ≡ acts_at plan (kind_of y) (heard_of (kind_of y) heard + 1) → IsPlanned plan (heard ++ y ∷ []) (asked ++ more)
planned-push plan heard asked more y before now =
    map-append (λ x. x.0) asked more
    ∙ ap (λ z. z ++ map (λ x. x.0) more) before
    ∙ ap (λ z. acts_behind plan [] heard ++ z) now
    ∙ sym (behind-push plan [] heard y)
