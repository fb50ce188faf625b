-- Hooks that ask what a list of lines plans, and nothing else.
use Rattle.std.specs.Prelude.{◌≡◌, ℕ, ◌+◌, Bool, true, false, ◌==◌, ◌&&◌, List, [], ◌∷◌, ◌++◌, map, filter, filter_map, take, count_by}
use Rattle.ev_types.specs.declared.act.Act.{Act}
use Rattle.ev_types.specs.declared.answer.AskAnswer.{AskAnswer}
use Rattle.ev_types.specs.declared.why.Why.{Why}
use Rattle.ev_types.specs.declared.why.Why.TheVariants as why
use Rattle.ev_types.specs.declared.plan_line.PlanLine.{PlanLine}
use Rattle.ev_types.specs.declared.why.WhyKind.{WhyKind}
use Rattle.ev_types.specs.declared.why.WhyKind.TheVariants as kind
use Rattle.relay_model.specs.Asks.{most_asks}

abbrev pub kind_of : Why → WhyKind
kind_of why.Connected = kind.Connected
kind_of why.Read = kind.Read
kind_of why.Write = kind.Write
kind_of why.Timer = kind.Timer
kind_of (why.Event flags) = kind.Event

abbrev pub same_kind : WhyKind → WhyKind → Bool
same_kind kind.Connected kind.Connected = true
same_kind kind.Read kind.Read = true
same_kind kind.Write kind.Write = true
same_kind kind.Timer kind.Timer = true
same_kind kind.Event kind.Event = true
same_kind _ _ = false

-- the acts of the lines for the n-th fire of a kind, in their order, and as many of them as are heard
abbrev pub acts_at : List PlanLine → WhyKind → ℕ → List Act
acts_at plan k n = take most_asks (filter_map (λ x. x.act) (filter (λ x. same_kind x.why k && x.nth == n) plan))

-- how many of the reasons are of a kind
abbrev pub heard_of : WhyKind → List Why → ℕ
heard_of k heard = count_by (λ y. same_kind (kind_of y) k) heard

-- what is asked for reasons that are heard behind others
abbrev pub acts_behind : List PlanLine → List Why → List Why → List Act
acts_behind plan before [] = []
acts_behind plan before (y ∷ ys) = acts_at plan (kind_of y) (heard_of (kind_of y) before + 1) ++ acts_behind plan (before ++ y ∷ []) ys

-- A hook is planned where the acts that it asked are those that its plan has for what it heard.
abbrev pub IsPlanned : List PlanLine → List Why → List (Act × AskAnswer) → Type 0
IsPlanned plan heard asked = map (λ x. x.0) asked ≡ acts_behind plan [] heard
