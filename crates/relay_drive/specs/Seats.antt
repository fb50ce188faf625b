-- The hooks of a drive: each in its slot, or out of it for good once its side was freed; and what they tell of a turn.
use Rattle.std.specs.Prelude.{◌≡◌, ◌≢◌, ◌<◌, ℕ, Bool, true, false, List, [], ◌∷◌, length, map, slice_index_or, slice_set, if◌then◌else◌}
use Rattle.std.specs.Prelude.{◌++◌, ⊤}
use Rattle.std.specs.List.{list_all}
use Rattle.std.specs.Prelude.{Option, Some, None, MatchOption}
use Rattle.std.specs.Prelude.{IsSomeAnd, is_some}
use Rattle.std.specs.Option.{option_or}
use Rattle.ev_types.specs.declared.act.Act.{Act}
use Rattle.ev_types.specs.declared.answer.AskAnswer.{AskAnswer}
use Rattle.ev_types.specs.declared.entry.Entry.TheVariants as entry
use Rattle.ev_types.specs.declared.plan_line.PlanLine.{PlanLine}
use Rattle.ev_types.specs.declared.side.SideId.{SideId}
use Rattle.ev_types.specs.declared.why.Why.{Why}
use Rattle.ev_types.specs.Sides.{number}
use Rattle.ev_types.specs.Trace.{Trace}
use Rattle.relay_model.specs.Hooked.{heard_in, asked_in, is_within_fire}
use Rattle.relay_model.specs.Plain.{is_live, sides_where}
use Rattle.relay_model.specs.Reasons.{has_hook}
use Rattle.relay_state.specs.State.{State}
use Rattle.relay_core.specs.Fires.{told_more, HasAskedByPlan}

-- the hook in a place
abbrev pub hook_at : {H : Type 0} → List (Option H) → ℕ → Option H
hook_at hooks n = slice_index_or hooks n None

-- the hook of a side's number, in its slot or out of it for good
abbrev pub seat : {H : Type 0} → List (Option H) → List (Option H) → ℕ → Option H
seat hooks gone n = option_or (hook_at hooks n) (hook_at gone n)

-- the sides that have a hook in these slots
abbrev pub seated_sides : {H : Type 0} → List (Option H) → List SideId
seated_sides hooks = sides_where (λ e. is_some (hook_at hooks (number e))) (length hooks)

-- what a hook tells of itself: what it heard, what it asked, and what is planned for it
pub record Telling (H : Type 0) : Type 0 where
  pub heard : H → Option (List Why)
  pub asked : H → Option (List (Act × AskAnswer))
  pub planned : H → Option (List PlanLine)

abbrev pub telling : {H : Type 0} → (H → Option (List Why)) → (H → Option (List (Act × AskAnswer))) → (H → Option (List PlanLine)) →
    Telling H
telling heard asked planned = record { heard = heard; asked = asked; planned = planned }

-- It heard and asked this more, where it tells; its plan is as it was, and where it had asked by that, it has.
pub record TellsMore {H : Type 0} (tells : Telling H) (was now : H) (whys : List Why) (asks : List (Act × AskAnswer)) : Type 0 where
  pub heard : tells.heard now ≡ told_more (tells.heard was) whys
  pub asked : tells.asked now ≡ told_more (tells.asked was) asks
  pub planned : tells.planned now ≡ tells.planned was
  pub by_plan : HasAskedByPlan (tells.planned was) (tells.heard was) (tells.asked was) →
      HasAskedByPlan (tells.planned now) (tells.heard now) (tells.asked now)

-- So it is of the hook of each side, in the words of the entries, and they tell nothing of a side without one; but for the side whose hook
-- wanted memory, if there is one.
pub record HooksTell {H : Type 0} (tells : Telling H) (short : Option SideId) (hooks gone hooks' gone' : List (Option H))
    (added : Trace) : Type 0 where
  pub more : (e : SideId) → short ≢ Some e → MatchOption (seat hooks gone (number e))
      ((seat hooks' gone' (number e) ≡ None) × (heard_in e added ≡ []) × (asked_in e added ≡ []))
      (λ was. IsSomeAnd (seat hooks' gone' (number e)) (λ now. TellsMore tells was now (heard_in e added) (asked_in e added)))
  pub kept : (e : SideId) → is_some (seat hooks' gone' (number e)) ≡ is_some (seat hooks gone (number e))

-- Entries end with the fire of a side, whose hook wanted memory: up to that fire all hooks tell what the entries say, and those behind its
-- first one are of what the hook asked.
pub record EndsInFire {H : Type 0} (tells : Telling H) (e : SideId) (hooks gone : List (Option H)) (added : Trace) : Type 0 where
  pub before : Trace
  pub reason : Why
  pub fire : Trace
  pub joined : added ≡ before ++ (entry.Fired e reason, []) ∷ fire
  pub within : list_all is_within_fire fire ≡ true
  pub hooks_then : List (Option H)
  pub gone_then : List (Option H)
  pub told : HooksTell tells None hooks gone hooks_then gone_then before

-- of a turn that was cut off, for some side, in whose fire it was, or for none
abbrev pub HooksTellBut : {H : Type 0} → Telling H → List (Option H) → List (Option H) → List (Option H) → List (Option H) → Trace → Type 0
HooksTellBut tells hooks gone hooks' gone' added =
    (short : Option SideId) × HooksTell tells short hooks gone hooks' gone' added
    × MatchOption short ⊤ (λ e. EndsInFire tells e hooks gone added)

-- Whether there is a hook in each slot.
abbrev pub slots_taken : {H : Type 0} → List (Option H) → List Bool
slots_taken hooks = map (λ slot. is_some slot) hooks

-- The hook of a side was called for a reason, with these events of what it asked: it was out of its slot, and lies where it belongs: in its
-- slot where its side is live then, and else out of it for good. Where it didn't want memory it tells the reason and what it asked.
pub record SeatFired {H : Type 0} (tells : Telling H) (ok live : Bool) (e : SideId) (y : Why) (log : Trace)
    (hooks gone hooks' gone' : List (Option H)) : Type 0 where
  pub was : H
  pub now : H
  pub there : hook_at hooks (number e) ≡ Some was
  pub slot : hooks' ≡ slice_set hooks (number e) (if live then Some now else None)
  pub out : gone' ≡ (if live then gone else slice_set gone (number e) (Some now))
  pub told : ok ≡ true → TellsMore tells was now (y ∷ []) (asked_in e log)
  pub planned : tells.planned now ≡ tells.planned was

-- There are as many places for hooks that are out of their slots as slots. The sides with a hook are those of which there is one, in its
-- slot or out of it; it is out of it only where its side was opened and freed.
pub record AreSeated {H : Type 0} (s : State) (hooks gone : List (Option H)) : Type 0 where
  pub level : length gone ≡ length hooks
  pub hooked : (e : SideId) → has_hook s.settings e ≡ is_some (seat hooks gone (number e))
  pub freed : (e : SideId) → has_hook s.settings e ≡ true → is_some (hook_at hooks (number e)) ≡ false →
      (e.link < s.plain.opened) × (is_live s.plain e ≡ false)

-- no hook was taken out of its slot yet
pub record AreFresh {H : Type 0} (hooks gone : List (Option H)) : Type 0 where
  pub level : length gone ≡ length hooks
  pub none : (n : ℕ) → hook_at gone n ≡ None
