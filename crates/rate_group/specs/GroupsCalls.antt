-- Calls on groups in a row, each with what it answered, and to which groups they lead.
use Rattle.std.specs.Prelude.{◌≡◌, ℕ, ◌+◌, ◌≤◌, List, [], ◌∷◌, length, Result, Ok, IfOk, OnOk, OnErr}
use Rattle.std.specs.Option.{IsSomeAnd}
use Rattle.token_bucket.specs.declared.limit.Dir.{Dir}
use Rattle.token_bucket.specs.declared.limit.LimitCfg.{LimitCfg}
use Rattle.token_bucket.specs.Limit.{fault_of}
use Rattle.rate_group.specs.declared.fault.GroupFault.{GroupFault}
use Rattle.rate_group.specs.declared.group_set.GroupSet.{GroupSet}
use Rattle.rate_group.specs.GroupValue.{GroupsValue}
use Rattle.rate_group.specs.Steps.{with_group, joined, left, spent, all_refilled, share_in}
use Rattle.rate_group.specs.Refusals.{Refuses, new_group_refusal, join_refusal, change_refusal, leave_refusal}

-- a call that can change groups, and what it answered
pub data GroupsCall : Type 0 where
  NewGroup : LimitCfg → ℕ → ℕ → Result ℕ GroupFault → GroupsCall  -- the limit, the share and the moment
  Join : ℕ → ℕ → Result (Unit {0}) GroupFault → GroupsCall  -- the group and the member
  Change : ℕ → ℕ → Result (Unit {0}) GroupFault → GroupsCall  -- the group and the member
  Leave : ℕ → Result (Unit {0}) GroupFault → GroupsCall  -- the member
  Spend : ℕ → Dir → ℕ → GroupsCall  -- the member, the direction and how many bytes
  Refill : ℕ → GroupsCall  -- the moment

-- what the contract of a call asks of the groups before it, and says of its answer and of the groups behind it
abbrev pub IsCalled : GroupsCall → GroupsValue → GroupsValue → Type 0
IsCalled (GroupsCall.NewGroup cfg share now answer) x y =
    Refuses answer (new_group_refusal share x)
    × IfOk answer (λ n. n ≡ length x.groups)
    × OnOk answer (y ≡ with_group cfg share now x)
    × OnErr answer (y ≡ x)
IsCalled (GroupsCall.Join group member answer) x y =
    Refuses answer (join_refusal group member x) × OnOk answer (y ≡ joined group member x) × OnErr answer (y ≡ x)
IsCalled (GroupsCall.Change group member answer) x y =
    Refuses answer (change_refusal group x) × OnOk answer (y ≡ joined group member x) × OnErr answer (y ≡ x)
IsCalled (GroupsCall.Leave member answer) x y =
    (fault_of answer ≡ leave_refusal member x) × OnOk answer (y ≡ left member x) × OnErr answer (y ≡ x)
IsCalled (GroupsCall.Spend member d n) x y = IsSomeAnd (share_in member d x) (λ share. n ≤ share) × (y ≡ spent member d n x)
IsCalled (GroupsCall.Refill now) x y = y ≡ all_refilled now x

-- the calls lead from these groups to those
abbrev pub CallsLead : GroupsValue → List GroupsCall → GroupsValue → Type 0
CallsLead x [] last = last ≡ x
CallsLead x (c ∷ cs) last = (next : GroupsValue) × IsCalled c x next × CallsLead next cs last

-- the calls that make these groups at a moment, with numbers from one on
abbrev pub makings : ℕ → ℕ → List GroupSet → List GroupsCall
makings now n [] = []
makings now n (s ∷ ss) = GroupsCall.NewGroup s.cfg s.share now (Ok n) ∷ makings now (n + 1) ss

-- they lead from these groups to those
abbrev pub MakingsLead : ℕ → List GroupSet → GroupsValue → GroupsValue → Type 0
MakingsLead now sets x last = CallsLead x (makings now (length x.groups) sets) last

-- new groups, of which there are none yet
abbrev pub no_groups : GroupsValue
no_groups = record { groups = []; members = [] }
