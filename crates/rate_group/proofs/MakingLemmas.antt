-- Groups that are made in order, as calls in a row.
use Rattle.std.proofs.Common.{◌≡◌, inl, inr, ℕ, ◌+◌, ◌<◌, ◌≤◌, ◌^◌, List, [], ◌∷◌, map, length, None}
use Rattle.std.proofs.Common.{refl, subst, arith, append-nil, append_assoc, length-append, All}
use Rattle.std.proofs.lemmas.Bool.{lt-ltb}
use Rattle.std.proofs.lemmas.Bool.Decides.{eqb_tells}
use Rattle.std.proofs.lemmas.List.Elements.{All-head, All-tail}
use Rattle.rate_group.specs.declared.group_set.GroupSet.{GroupSet}
use Rattle.rate_group.specs.GroupValue.{GroupsValue}
use Rattle.rate_group.specs.Steps.{made, with_group, with_groups}
use Rattle.rate_group.specs.Refusals.{new_group_refusal}
use Rattle.rate_group.specs.GroupsCalls.{CallsLead, makings}

-- a group with a share above 0 and a number isn't refused
none-refused : (share : ℕ) (x : GroupsValue) → 0 < share → length x.groups < 2 ^ 32 → new_group_refusal share x ≡ None
none-refused share x some few = elim (eqb_tells share 0) [
  | inl e ↦ absurd (let z = e.1 in omega (arith, z, some))
  | inr e ↦ rw (e.0, lt-ltb (length x.groups) (2 ^ 32) few) refl
]

pub makings-lead : (now : ℕ) (sets : List GroupSet) (x : GroupsValue) → All (λ s. 0 < s.share) sets →
    length x.groups + length sets ≤ 2 ^ 32 → CallsLead x (makings now (length x.groups) sets) (with_groups now sets x)
makings-lead now [] x shares few = λ i. record x { groups = append-nil x.groups i }
makings-lead now (s ∷ ss) x shares few =
    let m = made s.cfg s.share now in
    let next = with_group s.cfg s.share now x in
    let long : length next.groups ≡ length x.groups + 1 = length-append x.groups (m ∷ []) in
    let few_left : length next.groups + length ss ≤ 2 ^ 32 = omega (arith, few, long) in
    let some : 0 < s.share = All-head (λ (z : GroupSet). 0 < z.share) s ss shares in
    let rest : CallsLead next (makings now (length next.groups) ss) (with_groups now ss next) =
    makings-lead now ss next (All-tail (λ (z : GroupSet). 0 < z.share) s ss shares) few_left in
    let last : with_groups now ss next ≡ with_groups now (s ∷ ss) x =
    λ i. record x { groups = append_assoc x.groups (m ∷ []) (map (λ z. made z.cfg z.share now) ss) i } in
    let free = none-refused s.share x some (omega (arith, few)) in (
      next,
      (free, refl, refl, tt),
      subst (λ (z : GroupsValue). CallsLead next (makings now (length x.groups + 1) ss) z) last
          (subst (λ n. CallsLead next (makings now n ss) (with_groups now ss next)) long rest),
    )
