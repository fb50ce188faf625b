-- What is known of the members after a list of calls, and of the groups that were made.
use Rattle.std.proofs.Common.{◌≡◌, ◌∙◌, inl, inr, ℕ, zero, suc, ◌+◌, ◌<◌, ◌≤◌, Bool, true, false, cond, List, [], ◌∷◌, length}
use Rattle.std.proofs.Common.{Option, Some, None, refl, sym, ap, subst, arith, nat_eq, length-append, append_assoc, append-nil}
use Rattle.std.specs.Prelude.{◌++◌, ◌⊎◌, filter, Decides, not, nat_lt, if◌then◌else◌, is_some, Ok, Err}
use Rattle.std.specs.List.{IsDistinct, AllByRecursion}
use Rattle.std.specs.Option.{option_map_or}
use Rattle.std.specs.Map.{keys_of, remove_entry}
use Rattle.std.proofs.lemmas.Bool.{eqb-true, ltb-true}
use Rattle.std.proofs.lemmas.Bool.Decides.{eqb_tells, same_from_decides}
use Rattle.std.proofs.lemmas.Cmp.{nat_eq_equiv}
use Rattle.std.proofs.lemmas.List.{length-map}
use Rattle.std.proofs.lemmas.Map.{lookup-remove_entry}
use Rattle.std.proofs.lemmas.Map.Entries.{option_filter, lookup-filter-values, length-keys_of}
use Rattle.std.proofs.lemmas.Map.Made.{is_some-lookup, IsDistinct-keys_filter, length-from_same_keys}
use Rattle.std.proofs.lemmas.Map.Views.{Contains-from_any, list_any-from_Contains, exact_unsigned_eq, lookup-from_Contains}
use Rattle.std.proofs.lemmas.Map.Views.{Contains-from_lookup}
use Rattle.std.proofs.lemmas.List.Sums.{length-filter}
use Rattle.std.specs.Set.{is_member}
use Rattle.indexmap.specs.IndexMap.{insert_entry}
use Rattle.token_bucket.specs.declared.limit.LimitCfg.{LimitCfg}
use Rattle.rate_group.specs.declared.fault.GroupFault.TheVariants as fault
use Rattle.rate_group.specs.GroupValue.{GroupValue, GroupsValue}
use Rattle.rate_group.specs.Steps.{group_of, count_in, changed_at, spent_in, made, refilled_to}
use Rattle.rate_group.specs.Refusals.{join_refusal, change_refusal}
use Rattle.rate_group.specs.GroupsCalls.{GroupsCall, IsCalled, CallsLead, no_groups}
use Rattle.rate_group.specs.ToldByCalls.{goes_by, group_by_calls, IsMade, AreMembers}
use Rattle.rate_group.proofs.ListsOfCalls.{ends-behind, group-more, made-more, now_in}
use Rattle.rate_group.specs.LawsOverCalls.{MembersByCalls}
use Rattle.rate_group.proofs.MemberLemmas.{Member, InGroups, known-insert, known-remove, known-more, known-group}

-- The members' list

eqb-flip : (a b : ℕ) → nat_eq a b ≡ nat_eq b a
eqb-flip a b = elim (eqb_tells a b) [
  | inl p ↦ (λ i. nat_eq (p.1 i) b) ∙ (λ i. nat_eq b (sym p.1 i))
  | inr p ↦ elim (eqb_tells b a) [ inl q ↦ absurd (p.1 (sym q.1)) | inr q ↦ p.0 ∙ sym q.0 ]
]

pub group-insert : (m k n : ℕ) (es : List Member) → group_of m (insert_entry nat_eq es k n) ≡ (if nat_eq m k then Some n else group_of m es)
group-insert m k n [] = refl
group-insert m k n (e ∷ es) = elim (eqb_tells k e.0) [
  | inl q ↦
      (λ i. group_of m (if q.0 i then (e.0, n) ∷ es else e ∷ insert_entry nat_eq es k n))
      ∙ twice (nat_eq m e.0)
      ∙ (λ i. if nat_eq m (sym q.1 i) then Some n else group_of m (e ∷ es))
  | inr q ↦
      (λ i. group_of m (if q.0 i then (e.0, n) ∷ es else e ∷ insert_entry nat_eq es k n))
      ∙ (λ i. if nat_eq m e.0 then Some e.1 else group-insert m k n es i)
      ∙ apart (nat_eq m e.0) (nat_eq m k) (λ a b. q.1 (sym (eqb-true m k b) ∙ eqb-true m e.0 a))
]
  where
    twice : (b : Bool) → (if b then Some n else group_of m es) ≡ (if b then Some n else (if b then Some e.1 else group_of m es))
    twice true = refl
    twice false = refl

    apart : (a b : Bool) → (a ≡ true → b ≡ true → ⊥) →
        (if a then Some e.1 else (if b then Some n else group_of m es)) ≡ (if b then Some n else (if a then Some e.1 else group_of m es))
    apart true true h = absurd (h refl refl)
    apart true false h = refl
    apart false b h = refl

pub group-remove : (m k : ℕ) (es : List Member) → IsDistinct nat_eq (keys_of es) →
    group_of m (remove_entry (nat_eq k) es) ≡ (if nat_eq m k then None else group_of m es)
group-remove m k es h =
    lookup-remove_entry nat_eq_equiv (nat_eq k) (λ a b t. ap (λ z. nat_eq z b) (eqb-true k a t)) m es h
    ∙ (λ i. if eqb-flip k m i then None else group_of m es)

all-insert : (P : ℕ → Type 0) (k n : ℕ) (es : List Member) → AllByRecursion P (keys_of es) → P k →
    AllByRecursion P (keys_of (insert_entry nat_eq es k n))
all-insert P k n [] h p = (p, tt)
all-insert P k n (e ∷ es) h p = by (nat_eq k e.0) (all-insert P k n es h.1 p)
  where
    by : (b : Bool) → AllByRecursion P (keys_of (insert_entry nat_eq es k n)) →
        AllByRecursion P (keys_of (if b then (e.0, n) ∷ es else e ∷ insert_entry nat_eq es k n))
    by true r = h
    by false r = (h.0, r)

all-remove : (P : ℕ → Type 0) (k : ℕ) (es : List Member) → AllByRecursion P (keys_of es) →
    AllByRecursion P (keys_of (remove_entry (nat_eq k) es))
all-remove P k [] h = tt
all-remove P k (e ∷ es) h = by (nat_eq k e.0) (all-remove P k es h.1)
  where
    by : (b : Bool) → AllByRecursion P (keys_of (remove_entry (nat_eq k) es)) →
        AllByRecursion P (keys_of (cond b es (e ∷ remove_entry (nat_eq k) es)))
    by true r = h.1
    by false r = (h.0, r)

pub once-insert : (k n : ℕ) (es : List Member) → IsDistinct nat_eq (keys_of es) → IsDistinct nat_eq (keys_of (insert_entry nat_eq es k n))
unfolding IsDistinct
once-insert k n [] h = (tt, tt)
once-insert k n (e ∷ es) h = by (nat_eq k e.0) refl (once-insert k n es h.1)
  where
    by : (b : Bool) → nat_eq k e.0 ≡ b → IsDistinct nat_eq (keys_of (insert_entry nat_eq es k n)) →
        IsDistinct nat_eq (keys_of (if b then (e.0, n) ∷ es else e ∷ insert_entry nat_eq es k n))
    by true q r = h
    by false q r = (all-insert (λ y. nat_eq e.0 y ≡ false) k n es h.0 (eqb-flip e.0 k ∙ q), r)

pub once-remove : (k : ℕ) (es : List Member) → IsDistinct nat_eq (keys_of es) → IsDistinct nat_eq (keys_of (remove_entry (nat_eq k) es))
unfolding IsDistinct
once-remove k [] h = h
once-remove k (e ∷ es) h = by (nat_eq k e.0) (once-remove k es h.1)
  where
    by : (b : Bool) → IsDistinct nat_eq (keys_of (remove_entry (nat_eq k) es)) →
        IsDistinct nat_eq (keys_of (cond b es (e ∷ remove_entry (nat_eq k) es)))
    by true r = h.1
    by false r = (all-remove (λ y. nat_eq e.0 y ≡ false) k es h.0, r)

-- One call

pub length-changed : (n : ℕ) (f : GroupValue → GroupValue) (gs : List GroupValue) → length (changed_at n f gs) ≡ length gs
length-changed n f [] = refl
length-changed zero f (g ∷ gs) = refl
length-changed (suc n) f (g ∷ gs) = let k = length-changed n f gs in omega (arith, k)

-- a call that answered Ok with a group's number was no refusal
pub room-join : (n m : ℕ) (x : GroupsValue) → join_refusal n m x ≡ None → n < length x.groups
room-join n m x h = by (nat_lt n (length x.groups)) refl h
  where
    by : (b : Bool) → nat_lt n (length x.groups) ≡ b →
        (if not b then Some fault.NoGroup else (if is_some (group_of m x.members) then Some fault.AlreadyMember else None)) ≡ None →
        n < length x.groups
    by true q k = ltb-true n (length x.groups) q
    by false q k = absurd (cc)

pub room-change : (n : ℕ) (x : GroupsValue) → change_refusal n x ≡ None → n < length x.groups
room-change n x h = by (nat_lt n (length x.groups)) refl h
  where
    by : (b : Bool) → nat_lt n (length x.groups) ≡ b → (if b then None else Some fault.NoGroup) ≡ None → n < length x.groups
    by true q k = ltb-true n (length x.groups) q
    by false q k = absurd (cc)

pub record Known (cs : List GroupsCall) (x : GroupsValue) : Type 0 where
  pub group : (m : ℕ) → group_of m x.members ≡ group_by_calls m cs
  pub once : IsDistinct nat_eq (keys_of x.members)
  pub within : InGroups (length x.groups) x.members
  pub made : (n : ℕ) → n < length x.groups → IsMade n cs
  pub there : (n : ℕ) → IsMade n cs → n < length x.groups

-- the call makes the group with this number
abbrev Makes : ℕ → GroupsCall → Type 0
Makes n c = (cfg : LimitCfg) × (share : ℕ) × (now : ℕ) × (c ≡ GroupsCall.NewGroup cfg share now (Ok n))

-- what a call does to the members, and to how many groups there are
record Goes (c : GroupsCall) (x y : GroupsValue) : Type 0 where
  group : (m : ℕ) → group_of m y.members ≡ now_in (goes_by m c) (group_of m x.members)
  once : IsDistinct nat_eq (keys_of y.members)
  within : InGroups (length y.groups) y.members
  grows : length x.groups ≤ length y.groups
  new : (n : ℕ) → n < length y.groups → (n < length x.groups) ⊎ Makes n c
  number : (cfg : LimitCfg) (share now n : ℕ) → c ≡ GroupsCall.NewGroup cfg share now (Ok n) → n < length y.groups

now-if : (b : Bool) (to was : Option ℕ) → (if b then to else was) ≡ now_in (if b then Some to else None) was
now-if true to was = refl
now-if false to was = refl

known-step : (cs : List GroupsCall) (c : GroupsCall) (x y : GroupsValue) → Known cs x → Goes c x y → Known (cs ++ c ∷ []) y
known-step cs c x y k g = record {
  group = λ m. g.group m ∙ ap (now_in (goes_by m c)) (k.group m) ∙ sym (group-more m cs c);
  once = g.once;
  within = g.within;
  made = λ n h. elim (g.new n h) [
    | inl was ↦ made-more n cs c (k.made n was)
    | inr is ↦
        (record { number = n; cfg = is.0; share = is.1; moment = is.2; before = cs }, [], refl, λ i. cs ++ is.3 i ∷ [])
  ];
  there = λ n h. elim (ends-behind cs c h.0.before (GroupsCall.NewGroup h.0.cfg h.0.share h.0.moment (Ok h.0.number)) h.1 h.3) [
    | inl e ↦ let w = g.number h.0.cfg h.0.share h.0.moment h.0.number e.1 in let is = h.2 in omega (arith, w, is)
    | inr e ↦ let w = k.there n (h.0, e.0, h.2, e.2) in let gr = g.grows in omega (arith, w, gr)
  ];
}

-- a call that changes neither the members nor how many groups there are
goes-same : (cs : List GroupsCall) (c : GroupsCall) (x y : GroupsValue) → Known cs x → ((m : ℕ) → goes_by m c ≡ None) →
    ((cfg : LimitCfg) (share now n : ℕ) → c ≡ GroupsCall.NewGroup cfg share now (Ok n) → ⊥) → y.members ≡ x.members →
    length y.groups ≡ length x.groups → Goes c x y
goes-same cs c x y k none not_new members long = record {
  group = λ m. ap (group_of m) members ∙ (λ i. now_in (sym (none m) i) (group_of m x.members));
  once = subst (λ es. IsDistinct nat_eq (keys_of es)) (sym members) k.once;
  within = subst (λ es. InGroups (length y.groups) es) (sym members) (subst (λ n. InGroups n x.members) (sym long) k.within);
  grows = omega (arith, long);
  new = λ n h. inl (omega (arith, h, long));
  number = λ cfg share now n e. absurd (not_new cfg share now n e);
}

-- a call that changes members alone
goes-members : (c : GroupsCall) (x y : GroupsValue) (es : List Member) → y ≡ record x { members = es } →
    ((cfg : LimitCfg) (share now n : ℕ) → c ≡ GroupsCall.NewGroup cfg share now (Ok n) → ⊥) →
    ((m : ℕ) → group_of m es ≡ now_in (goes_by m c) (group_of m x.members)) → IsDistinct nat_eq (keys_of es) →
    InGroups (length x.groups) es → Goes c x y
goes-members c x y es is not_new group once within =
    subst (λ z. Goes c x z) (sym is) (record {
      group = group;
      once = once;
      within = within;
      grows = omega arith;
      new = λ n h. inl h;
      number = λ cfg share now n e. absurd (not_new cfg share now n e);
    })

goes-call : (cs : List GroupsCall) (c : GroupsCall) (x y : GroupsValue) → Known cs x → IsCalled c x y → Goes c x y
goes-call cs (GroupsCall.NewGroup cfg share now (Ok number)) x y k h = subst (λ z. Goes c x z) (sym h.2) (record {
  group = λ m. refl;
  once = k.once;
  within = known-more (length x.groups) (length gs) x.members (omega (arith, long)) k.within;
  grows = omega (arith, long);
  new = λ n within. by n within (eqb_tells n (length x.groups));
  number = λ cfg' share' now' n e. let same : number ≡ n = cc in let is = h.1 in omega (arith, same, is, long);
})
  where
    c : GroupsCall
    c = GroupsCall.NewGroup cfg share now (Ok number)

    gs : List GroupValue
    gs = x.groups ++ made cfg share now ∷ []

    long : length gs ≡ length x.groups + 1
    long = let k = length-append x.groups (made cfg share now ∷ []) in omega (arith, k)

    by : (n : ℕ) → n < length gs →
        ((nat_eq n (length x.groups) ≡ true) × (n ≡ length x.groups)) ⊎ ((nat_eq n (length x.groups) ≡ false) × (n ≡ length x.groups → ⊥)) →
        (n < length x.groups) ⊎ Makes n c
    by n within (inl e) =
        inr (cfg, share, now, let same : number ≡ n = h.1 ∙ sym e.1 in λ i. GroupsCall.NewGroup cfg share now (Ok (same i)))
    by n within (inr e) = inl (let apart = e.1 in omega (arith, within, long, apart))
goes-call cs (GroupsCall.NewGroup cfg share now (Err f)) x y k h =
    goes-same cs (GroupsCall.NewGroup cfg share now (Err f)) x y k (λ m. refl) (λ a b d n e. absurd (cc)) (ap (λ z. z.members) h.3)
    (ap (λ (z : GroupsValue). length z.groups) h.3)
goes-call cs (GroupsCall.Join group member (Ok done)) x y k h =
    goes-members (GroupsCall.Join group member (Ok done)) x y (insert_entry nat_eq x.members member group) h.1 (λ a b d n e. absurd (cc))
    (λ m. group-insert m member group x.members ∙ now-if (nat_eq m member) (Some group) (group_of m x.members))
    (once-insert member group x.members k.once)
    (known-insert (length x.groups) member group x.members (room-join group member x h.0) k.within)
goes-call cs (GroupsCall.Join group member (Err f)) x y k h =
    goes-same cs (GroupsCall.Join group member (Err f)) x y k (λ m. refl) (λ a b d n e. absurd (cc))
    (ap (λ (z : GroupsValue). z.members) h.2) (ap (λ (z : GroupsValue). length z.groups) h.2)
goes-call cs (GroupsCall.Change group member (Ok done)) x y k h =
    goes-members (GroupsCall.Change group member (Ok done)) x y (insert_entry nat_eq x.members member group) h.1 (λ a b d n e. absurd (cc))
    (λ m. group-insert m member group x.members ∙ now-if (nat_eq m member) (Some group) (group_of m x.members))
    (once-insert member group x.members k.once)
    (known-insert (length x.groups) member group x.members (room-change group x h.0) k.within)
goes-call cs (GroupsCall.Change group member (Err f)) x y k h =
    goes-same cs (GroupsCall.Change group member (Err f)) x y k (λ m. refl) (λ a b d n e. absurd (cc))
    (ap (λ (z : GroupsValue). z.members) h.2) (ap (λ (z : GroupsValue). length z.groups) h.2)
goes-call cs (GroupsCall.Leave member (Ok done)) x y k h =
    goes-members (GroupsCall.Leave member (Ok done)) x y (remove_entry (nat_eq member) x.members) h.1 (λ a b d n e. absurd (cc))
    (λ m. group-remove m member x.members k.once ∙ now-if (nat_eq m member) None (group_of m x.members))
    (once-remove member x.members k.once)
    (known-remove (length x.groups) member x.members k.within)
goes-call cs (GroupsCall.Leave member (Err f)) x y k h =
    goes-same cs (GroupsCall.Leave member (Err f)) x y k (λ m. refl) (λ a b d n e. absurd (cc)) (ap (λ (z : GroupsValue). z.members) h.2)
    (ap (λ (z : GroupsValue). length z.groups) h.2)
goes-call cs (GroupsCall.Spend member d n) x y k h =
    goes-same cs (GroupsCall.Spend member d n) x y k (λ m. refl) (λ a b d n e. absurd (cc)) (ap (λ (z : GroupsValue). z.members) h.1)
    (ap (λ (z : GroupsValue). length z.groups) h.1 ∙ by (group_of member x.members))
  where
    by : (o : Option ℕ) → length (option_map_or (λ group. changed_at group (spent_in d n) x.groups) o x.groups) ≡ length x.groups
    by None = refl
    by (Some group) = length-changed group (spent_in d n) x.groups
goes-call cs (GroupsCall.Refill now) x y k h =
    goes-same cs (GroupsCall.Refill now) x y k (λ m. refl) (λ a b d n e. absurd (cc)) (ap (λ (z : GroupsValue). z.members) h)
    (ap (λ (z : GroupsValue). length z.groups) h ∙ length-map x.groups (refilled_to now))

pub known-call : (cs : List GroupsCall) (c : GroupsCall) (x y : GroupsValue) → Known cs x → IsCalled c x y → Known (cs ++ c ∷ []) y
known-call cs c x y k h = known-step cs c x y k (goes-call cs c x y k h)

-- Any calls

pub known-none : Known [] no_groups
unfolding IsDistinct
known-none = record {
  group = λ m. refl;
  once = tt;
  within = tt;
  made = λ n h. absurd (omega (arith, h));
  there = λ n h. absurd (not_made h.0.before (GroupsCall.NewGroup h.0.cfg h.0.share h.0.moment (Ok h.0.number)) h.1 h.3);
}
  where
    not_made : (before : List GroupsCall) (c : GroupsCall) (since : List GroupsCall) → [] ≡ before ++ c ∷ since → ⊥
    not_made [] c since e = absurd (cc)
    not_made (b ∷ before) c since e = absurd (cc)

pub known-calls : (cs more : List GroupsCall) (x y : GroupsValue) → Known cs x → CallsLead x more y → Known (cs ++ more) y
known-calls cs [] x y k h = subst (λ z. Known (cs ++ []) z) (sym h) (subst (λ l. Known l x) (sym (append-nil cs)) k)
known-calls cs (c ∷ more) x y k h =
    subst (λ l. Known l y) (append_assoc cs (c ∷ []) more)
    (known-calls (cs ++ c ∷ []) more h.0 y (known-call cs c x h.0 k h.1) h.2)

pub known-all : (cs : List GroupsCall) (x : GroupsValue) → CallsLead no_groups cs x → Known cs x
known-all cs x h = known-calls [] cs no_groups x known-none h

-- How many members a group has

-- the members of a group in the order of joining
abbrev listed_in : ℕ → List Member → List ℕ
listed_in n es = keys_of (filter (λ e. nat_eq n e.1) es)

-- who is one of them
listed-decides : (n : ℕ) (cs : List GroupsCall) (x : GroupsValue) → Known cs x → (m : ℕ) →
    Decides (is_member nat_eq (listed_in n x.members) m) (group_by_calls m cs ≡ Some n)
listed-decides n cs x k m = subst (λ b. Decides b (group_by_calls m cs ≡ Some n)) (sym is) (by (group_by_calls m cs))
  where
    is : is_member nat_eq (listed_in n x.members) m ≡ is_some (option_filter (nat_eq n) (group_by_calls m cs))
    is =
        sym (is_some-lookup (nat_eq m) (filter (λ e. nat_eq n e.1) x.members))
        ∙ ap is_some (lookup-filter-values nat_eq_equiv (nat_eq n) m x.members k.once)
        ∙ ap (λ o. is_some (option_filter (nat_eq n) o)) (k.group m)

    by : (o : Option ℕ) → Decides (is_some (option_filter (nat_eq n) o)) (o ≡ Some n)
    by None = (λ e. absurd (cc), λ e. absurd (cc))
    by (Some j) = at (eqb_tells n j)
      where
        at : ((nat_eq n j ≡ true) × (n ≡ j)) ⊎ ((nat_eq n j ≡ false) × (n ≡ j → ⊥)) →
            Decides (is_some (option_filter (nat_eq n) (Some j))) (Some j ≡ Some n)
        at (inl e) = (λ _. ap Some (sym e.1), λ _. ap (λ b. is_some (if b then Some j else None)) e.0)
        at (inr e) = (
          (λ h. absurd (let bad : false ≡ true = sym (ap (λ b. is_some (if b then Some j else None)) e.0) ∙ h in cc)),
          (λ h. absurd (e.1 (let same : j ≡ n = cc in sym same))),
        )

pub are-listed : (n : ℕ) (cs : List GroupsCall) (x : GroupsValue) → Known cs x → AreMembers n cs (listed_in n x.members)
are-listed n cs x k = record {
  once = IsDistinct-keys_filter nat_eq (λ e. nat_eq n e.1) x.members k.once;
  are = λ m.
      let d = listed-decides n cs x k m in (
        λ c. d.0 (list_any-from_Contains nat_eq_equiv m (listed_in n x.members) c),
        λ e. Contains-from_any exact_unsigned_eq m (listed_in n x.members) (d.1 e),
      );
}

-- two lists of all members of a group, each once, are as long
same-length : (n : ℕ) (cs : List GroupsCall) (xs ys : List ℕ) → AreMembers n cs xs → AreMembers n cs ys → length xs ≡ length ys
same-length n cs xs ys a b = length-from_same_keys nat_eq_equiv xs ys a.once b.once (λ q.
    same_from_decides (is_member nat_eq xs q) (is_member nat_eq ys q) (decides xs a q) (decides ys b q))
  where
    decides : (zs : List ℕ) → AreMembers n cs zs → (q : ℕ) → Decides (is_member nat_eq zs q) (group_by_calls q cs ≡ Some n)
    decides zs c q =
        (λ e. (c.are q).0 (Contains-from_any exact_unsigned_eq q zs e), λ e. list_any-from_Contains nat_eq_equiv q zs ((c.are q).1 e))

pub counted-by : (n : ℕ) (cs : List GroupsCall) (x : GroupsValue) → Known cs x → (members : List ℕ) → AreMembers n cs members →
    count_in n x.members ≡ length members
counted-by n cs x k members a =
    sym (length-filter (λ (e : Member). nat_eq n e.1) x.members)
    ∙ sym (length-keys_of (filter (λ (e : Member). nat_eq n e.1) x.members))
    ∙ same-length n cs (listed_in n x.members) members (are-listed n cs x k) a

pub members-by_calls : MembersByCalls
members-by_calls cs x h =
    let k = known-all cs x h in
    record {
      group = k.group;
      listed = λ m n. (
        λ c. sym (k.group m) ∙ lookup-from_Contains nat_eq_equiv m n x.members k.once c,
        λ e. Contains-from_lookup exact_unsigned_eq m n x.members (k.group m ∙ e),
      );
      once = k.once;
      counted = λ n members a. counted-by n cs x k members a;
      listing = λ n. (listed_in n x.members, are-listed n cs x k);
      made = λ n. (k.made n, k.there n);
      nobody = λ n none m e. none (k.made n (known-group (length x.groups) m n x.members k.within (k.group m ∙ e)));
    }
