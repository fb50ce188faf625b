-- What the boxes of callbacks heard of a run.
use Rattle.std.specs.Prelude.{◌≡◌, ◌≢◌, ◌&&◌, ℕ, Bool, nat_eq, if◌then◌else◌, List, [], ◌∷◌, Option, None, MatchOption, IsSomeAnd, Result}
use Rattle.std.specs.Prelude.{Ok, Err}
use Rattle.std.specs.List.{flat_map}
use Rattle.std.specs.Option.{option_or}
use Rattle.ev_types.specs.declared.why.Why.{Why}
use Rattle.deferred_cb.specs.DueCalls.{Call}
use Rattle.bev_world.specs.declared.fault.WorldFault.{WorldFault}
use Rattle.bev_world.specs.Runs.{MayDo, Served, box_at, told_more, RanAll, RanShort}

-- the box of a number, in its slot or taken out for good
abbrev pub seat : {H : Type 0} → Served H → ℕ → Option H
seat s n = option_or (box_at s.serving n) (box_at s.retired n)

-- the reason of a call, where it was started at this number
abbrev pub heard_by : ℕ → Call × Bool → List Why
heard_by n c = if c.1 && nat_eq c.0.0 n then c.0.1 ∷ [] else []

-- the reasons of the calls that were started at this number, in their order
abbrev pub heard_of : ℕ → List (Call × Bool) → List Why
heard_of n calls = flat_map (heard_by n) calls

-- a box is there still, and where it tells it heard exactly this; where there was none there is none
abbrev pub Hears : {H : Type 0} → (H → Option (List Why)) → Option H → Option H → List Why → Type 0
Hears heard old new more = MatchOption old (new ≡ None) (λ was. IsSomeAnd new (λ box. heard box ≡ told_more (heard was) more))

-- A batch was run to its end, and the box of every number heard the reasons of its started calls, in their order.
pub record HeardAll {H : Type 0} (heard : H → Option (List Why)) (did : MayDo H) (n : ℕ) (s new : Served H) : Type 0 where
  pub ran : RanAll heard did n s new
  pub hears : (number : ℕ) → Hears heard (seat s number) (seat new number) (heard_of number ran.calls)

-- A batch was cut off, and so did the box of every number, but that of the call whose box wanted memory.
pub record HeardShort {H : Type 0} (heard : H → Option (List Why)) (did : MayDo H) (s new : Served H) : Type 0 where
  pub ran : RanShort heard did s new
  pub hears : (number : ℕ) → number ≢ ran.last.0 → Hears heard (seat s number) (seat new number) (heard_of number ran.calls)

-- what the boxes heard of a run, by its answer
abbrev pub HeardRun : {H : Type 0} → (H → Option (List Why)) → MayDo H → Result ℕ WorldFault → Served H → Served H → Type 0
HeardRun heard did (Ok n) s new = HeardAll heard did n s new
HeardRun heard did (Err fault) s new = HeardShort heard did s new
