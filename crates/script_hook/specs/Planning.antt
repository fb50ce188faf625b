-- A hook that asks what lines plan, and tells all of it.
use Rattle.std.specs.Prelude.{◌≡◌, ◌≤◌, ◌+◌, ◌^◌, ℕ, Bool, ◌==◌, ◌&&◌, List, map, filter_map, take, length, Option, Some, None}
use Rattle.ev_types.specs.declared.act.Act.{Act}
use Rattle.ev_types.specs.declared.answer.AskAnswer.{AskAnswer}
use Rattle.ev_types.specs.declared.plan_line.PlanLine.{PlanLine}
use Rattle.ev_types.specs.declared.why.Why.{Why}
use Rattle.ev_types.specs.declared.why.WhyKind.{WhyKind}
use Rattle.relay_model.specs.Asks.{most_asks}
use Rattle.relay_model.specs.Hooked.{asked_in}
use Rattle.relay_model.specs.Plans.{heard_of, same_kind}
use Rattle.relay_core.specs.Fires.{AsksOnce, Steps}
use Rattle.relay_core.specs.RelayValue.{RelayValue}

-- its lines, what it heard, and what it asked
pub record HookValue : Type 0 where
  pub lines : List PlanLine
  pub heard : List Why
  pub asked : List (Act × AskAnswer)

-- is a line for the n-th fire of this kind
abbrev pub is_at : WhyKind → ℕ → PlanLine → Bool
is_at k n line = same_kind line.why k && line.nth == n

-- the acts of the lines, in their order
abbrev pub acts_in : List PlanLine → List Act
acts_in lines = filter_map (λ x. x.act) lines

-- an act is asked, or there is none
abbrev pub AsksAct : RelayValue → Option Act → RelayValue → Type 0
AsksAct old None new = new ≡ old
AsksAct old (Some act) new = (answer : Option AskAnswer) × AsksOnce old act answer new

-- A fire asked these acts, as many of them as are heard.
pub record AsksPlanned (acts : List Act) (old new : RelayValue) : Type 0 where
  pub steps : Steps old new
  pub asked : map (λ x. x.0) (asked_in old.me new.log) ≡ take most_asks acts
  pub many : length (asked_in old.me new.log) ≡ new.asks

-- A hook that heard these reasons was called as often for a kind as is counted.
abbrev pub IsCountedOut : WhyKind → List Why → Type 0
IsCountedOut k heard = 2 ^ 64 ≤ heard_of k heard + 1
