-- When calls on groups are refused.
use Rattle.std.specs.Prelude.{◌≡◌, ℕ, ◌^◌, ◌==◌, not, nat_lt, if◌then◌else◌, length, Option, Some, None, is_some, Result, Ok, Err}
use Rattle.rate_group.specs.declared.fault.GroupFault.{GroupFault}
use Rattle.rate_group.specs.declared.fault.GroupFault.TheVariants as fault
use Rattle.rate_group.specs.GroupValue.{GroupsValue}
use Rattle.rate_group.specs.Steps.{group_of}

-- A call answers the refusal that it owes, if there is one, and else success or out of memory.
abbrev pub Refuses : {T : Type 0} → Result T GroupFault → Option GroupFault → Type 0
Refuses (Ok x) owed = owed ≡ None
Refuses (Err f) None = f ≡ fault.Memory
Refuses (Err f) (Some g) = f ≡ g

-- a group is made: its share is 0, or there is no number for it
abbrev pub new_group_refusal : ℕ → GroupsValue → Option GroupFault
new_group_refusal share x =
    if share == 0 then Some fault.BadShare else (if nat_lt (length x.groups) (2 ^ 32) then None else Some fault.Spent)

-- a member joins: there is no such group, or it is in one already
abbrev pub join_refusal : ℕ → ℕ → GroupsValue → Option GroupFault
join_refusal n member x =
    if not (nat_lt n (length x.groups)) then Some fault.NoGroup
    else (if is_some (group_of member x.members) then Some fault.AlreadyMember else None)

-- a member moves to a group: there is no such group
abbrev pub change_refusal : ℕ → GroupsValue → Option GroupFault
change_refusal n x = if nat_lt n (length x.groups) then None else Some fault.NoGroup

-- a member leaves: it is in no group
abbrev pub leave_refusal : ℕ → GroupsValue → Option GroupFault
leave_refusal member x = if is_some (group_of member x.members) then None else Some fault.NotMember
