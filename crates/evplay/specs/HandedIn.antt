-- The hooks that were handed in to a run of a script.
use Rattle.std.specs.Prelude.{◌≡◌, ℕ, true, Bool, [], ◌∷◌, ◌++◌, ◌==◌, nat_lt, List, length, map, filter, Option, IfSome, is_some}
use Rattle.std.specs.List.{list_any, list_all}
use Rattle.ev_types.specs.declared.plan_line.PlanLine.{PlanLine}
use Rattle.ev_types.specs.declared.side.SideId.{SideId}
use Rattle.ev_types.specs.Sides.{number, same_end}
use Rattle.relay_model.specs.Plain.{sides_where}
use Rattle.relay_drive.specs.Seats.{hook_at, seated_sides, Telling}
use Rattle.program_end.specs.Planned.{tells_all, HasPlan}

-- how many there are, one for each of the first sides, and whether all of them tell what they hear, what they ask and their plan
pub record HandedIn : Type 0 where
  pub many : ℕ
  pub tell : Bool

abbrev pub handed_in : {H : Type 0} → Telling H → List H → HandedIn
handed_in tells hooks = record { many = length hooks; tell = list_all (tells_all tells) hooks }

-- what the lines of a script plan for the hook of the side with this number
abbrev pub lines_at : List (SideId × PlanLine) → ℕ → List PlanLine
lines_at plans n = map (λ x. x.1) (filter (λ x. number x.0 == n) plans)

-- What became of a hook that was handed in for a side with these lines: it was let go where there are none, and else has them.
pub record IsAttached {H : Type 0} (tells : Telling H) (lines : List PlanLine) (hook : H) (slot : Option H) : Type 0 where
  pub taken : is_some slot ≡ nat_lt 0 (length lines)
  pub told : tells_all tells hook ≡ true → IfSome slot (HasPlan tells lines)

-- one slot more, for the side of its number
pub record AddsSlot {H : Type 0} (tells : Telling H) (plans : List (SideId × PlanLine)) (hook : H) (slots more : List (Option H)) :
    Type 0 where
  pub slot : Option H
  pub added : more ≡ slots ++ slot ∷ []
  pub attached : IsAttached tells (lines_at plans (length slots)) hook slot

-- In the slots are the hooks of those sides for which something is planned; each has the lines of its side, where all tell.
pub record HasSeats {H : Type 0} (slots : List (Option H)) (tells : Telling H) (plans : List (SideId × PlanLine)) (handed : HandedIn)
    : Type 0 where
  pub sides : seated_sides slots ≡ sides_where (λ e. list_any (λ x. same_end x.0 e) plans) handed.many
  pub told : handed.tell ≡ true → (n : ℕ) → IfSome (hook_at slots n) (HasPlan tells (lines_at plans n))
