-- What the callbacks of the events are told to do, as a run keeps it.
use Rattle.std.specs.Prelude.{◌≡◌, ℕ, List, [], Vec}
use Rattle.std.specs.Option.{option_map_or}
use Rattle.std.specs.Ordering.{nat_cmp}
use Rattle.std.specs.BTreeMap.{BTreeMap, get}
use Rattle.std.specs.declared.alloc.Global.{Global}
use Rattle.base_mode.specs.declared.command.Reaction.{Reaction}
use Rattle.base_mode.specs.declared.command.Command.{Command}
use Rattle.base_mode.specs.Run.{acts_at}

-- the acts of one event by the numbers of its fires
abbrev pub Plan : Type 0
Plan = BTreeMap ℕ (Vec Reaction Global)

-- the acts at a fire of this number
abbrev pub listed : Plan → ℕ → List Reaction
listed plan nth = option_map_or (λ acts. acts.items) (get nat_cmp plan nth) []

-- the acts of the event of a name at a fire of this number
abbrev pub acts_of : BTreeMap ℕ Plan → ℕ → ℕ → List Reaction
acts_of plans event nth = option_map_or (λ plan. listed plan nth) (get nat_cmp plans event) []

-- the callbacks are told what these lines say
abbrev pub AreTold : BTreeMap ℕ Plan → List Command → Type 0
AreTold plans before = (event nth : ℕ) → acts_of plans event nth ≡ acts_at event nth before
