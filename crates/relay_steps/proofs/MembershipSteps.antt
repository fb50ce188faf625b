-- Sides join groups and leave them, and links are opened: the members go on being the sides that have a group.
use Rattle.std.proofs.Common.{◌≡◌, ◌≢◌, inl, inr, ℕ, ◌+◌, ◌*◌, ◌<◌, ◌≤◌, Bool, true, false, [], length, Option, Some, None, refl, sym, ◌∙◌}
use Rattle.std.proofs.Common.{ap, subst, arith, nat_eq}
use Rattle.std.specs.Prelude.{slice_get, if◌then◌else◌, IfSome}
use Rattle.std.specs.List.{IsDistinct}
use Rattle.std.specs.Map.{keys_of}
use Rattle.std.proofs.lemmas.Bool.Decides.{eqb_tells}
use Rattle.std.proofs.lemmas.List.{length-map, get_or_past}
use Rattle.std.proofs.lemmas.Option.{same_Some}
use Rattle.token_bucket.specs.declared.limit.Dir.{Dir}
use Rattle.token_bucket.specs.declared.limit.Dir.TheVariants as dir
use Rattle.ev_types.specs.declared.side.Side.{Side}
use Rattle.ev_types.specs.declared.side.Side.TheVariants.{In, Out}
use Rattle.ev_types.specs.declared.side.SideId.{SideId}
use Rattle.ev_types.specs.Sides.{half, number}
use Rattle.ev_types.specs.Trace.{Trace}
use Rattle.rate_group.specs.GroupList.{one_of}
use Rattle.rate_group.specs.GroupValue.{GroupsValue}
use Rattle.rate_group.specs.Steps.{lane_of, made, group_of, count_in, joined, left}
use Rattle.rate_group.proofs.KnownMembers.{group-insert, group-remove, once-insert, once-remove}
use Rattle.rate_group.proofs.MemberLemmas.{count-insert, count-remove}
use Rattle.relay_model.specs.Settings.{Settings, GroupSet, group_set}
use Rattle.relay_model.specs.Plain.{Plain, no_side, side_at, is_live, with_link, nothing_yet}
use Rattle.relay_model.proofs.PlainLemmas.{side_at-new, side_at-old}
use Rattle.relay_state.specs.State.{new_groups}
use Rattle.relay_state.specs.Opening.{joined_where}
use Rattle.relay_steps.specs.Grouped.{GroupLaneFits, GroupFits, Grouped}
use Rattle.relay_steps.specs.Meaning.{HasItsGroups}
use Rattle.relay_steps.proofs.EndLemmas.{number-same}
use Rattle.relay_steps.proofs.GroupLemmas.{first-fits}
use Rattle.relay_steps.proofs.GroupedSteps.{get_mapped, group-same}
use Rattle.relay_steps.proofs.MemberSteps.{sides-changed, sides-opened}
use Rattle.relay_steps.proofs.RateLemmas.{SameTurns}

-- a side goes to a group, or to none
abbrev pub moved_to : Option ℕ → SideId → GroupsValue → GroupsValue
moved_to None e x = left (number e) x
moved_to (Some n) e x = joined n (number e) x

moved-groups : (o : Option ℕ) (e : SideId) (x : GroupsValue) → (moved_to o e x).groups ≡ x.groups
moved-groups None e x = refl
moved-groups (Some n) e x = refl

moved-member : (o : Option ℕ) (e : SideId) (x : GroupsValue) → IsDistinct nat_eq (keys_of x.members) → (a : ℕ) →
    group_of a (moved_to o e x).members ≡ (if nat_eq a (number e) then o else group_of a x.members)
moved-member None e x once a = group-remove a (number e) x.members once
moved-member (Some n) e x once a = group-insert a (number e) n x.members

moved-once : (o : Option ℕ) (e : SideId) (x : GroupsValue) → IsDistinct nat_eq (keys_of x.members) →
    IsDistinct nat_eq (keys_of (moved_to o e x).members)
moved-once None e x once = once-remove (number e) x.members once
moved-once (Some n) e x once = once-insert (number e) n x.members once

moved-count : (o : Option ℕ) (e : SideId) (x : GroupsValue) (k : ℕ) →
    count_in k (moved_to o e x).members + one_of k (group_of (number e) x.members) ≡ count_in k x.members + one_of k o
moved-count None e x k = let a = count-remove k (number e) x.members in omega (arith, a)
moved-count (Some n) e x k = count-insert k (number e) n x.members

-- One side has another group, or none any more.
pub regrouped : (g : Settings) (t u : Trace) (p q : Plain) (x : GroupsValue) (e : SideId) (o : Option ℕ) → SameTurns t u → Grouped g t p x →
    e.link < p.opened → q.opened ≡ p.opened → q.time ≡ p.time → (side_at q e).group ≡ o →
    ((a : SideId) → a ≢ e → (side_at q a).group ≡ (side_at p a).group) → ((n : ℕ) → o ≡ Some n → n < length g.groups) →
    ((a : SideId) → is_live q a ≡ false → (side_at q a).group ≡ None) → Grouped g u q (moved_to o e x)
regrouped g t u p q x e o told k lt opened time here others within gone = record {
  many = ap length (moved-groups o e x) ∙ k.many;
  each = λ n y v a b.
      subst (λ z. GroupFits g u z n y v) (sym time)
      (group-same g t p.time n y u v (told.groups g n) (k.each n y v a (ap (λ z. slice_get z n) (sym (moved-groups o e x)) ∙ b)));
  member = member;
  once = moved-once o e x k.once;
  counted = λ n.
      let a = moved-count o e x n in
      let b = sides-changed p q e n opened lt others in
      let c = ap (one_of n) (k.member e) in
      let d = ap (one_of n) here in
      let f = k.counted n in
      omega (arith, a, b, c, d, f);
  known = λ a n is. elim (eqb_tells (number a) (number e)) [
    | inl same ↦ within n (sym here ∙ ap (λ z. (side_at q z).group) (sym (number-same a e same.1)) ∙ is)
    | inr apart ↦ k.known a n (sym (others a (λ h. apart.1 (ap number h))) ∙ is)
  ];
  freed = gone;
}
  where
    member : (a : SideId) → group_of (number a) (moved_to o e x).members ≡ (side_at q a).group
    member a = elim (eqb_tells (number a) (number e)) [
      | inl same ↦
          moved-member o e x k.once (number a) ∙ ap (λ b. if b then o else group_of (number a) x.members) same.0
          ∙ sym here ∙ ap (λ z. (side_at q z).group) (sym (number-same a e same.1))
      | inr apart ↦
          moved-member o e x k.once (number a) ∙ ap (λ b. if b then o else group_of (number a) x.members) apart.0
          ∙ k.member a ∙ sym (others a (λ h. apart.1 (ap number h)))
    ]

-- A link opens

where-groups : (o : Option ℕ) (e : SideId) (x : GroupsValue) → (joined_where o e x).groups ≡ x.groups
where-groups None e x = refl
where-groups (Some n) e x = refl

where-member : (o : Option ℕ) (e : SideId) (x : GroupsValue) → group_of (number e) x.members ≡ None → (a : ℕ) →
    group_of a (joined_where o e x).members ≡ (if nat_eq a (number e) then o else group_of a x.members)
where-member None e x none a = elim (eqb_tells a (number e)) [
  | inl same ↦
      ap (λ z. group_of z x.members) same.1 ∙ none ∙ sym (ap (λ b. if b then None else group_of a x.members) same.0)
  | inr apart ↦ sym (ap (λ b. if b then None else group_of a x.members) apart.0)
]
where-member (Some n) e x none a = group-insert a (number e) n x.members

where-once : (o : Option ℕ) (e : SideId) (x : GroupsValue) → IsDistinct nat_eq (keys_of x.members) →
    IsDistinct nat_eq (keys_of (joined_where o e x).members)
where-once None e x once = once
where-once (Some n) e x once = once-insert (number e) n x.members once

where-count : (o : Option ℕ) (e : SideId) (x : GroupsValue) → group_of (number e) x.members ≡ None → (k : ℕ) →
    count_in k (joined_where o e x).members ≡ count_in k x.members + one_of k o
where-count None e x none k = omega arith
where-count (Some n) e x none k =
    let a = count-insert k (number e) n x.members in
    let b = ap (one_of k) none in
    omega (arith, a, b)

set-within : (g : Settings) → HasItsGroups g → (z : Side) (n : ℕ) → group_set g z ≡ Some n → n < length g.groups
set-within g h In n is = subst (λ o. IfSome o (λ m. m < length g.groups)) is h.in_group
set-within g h Out n is = subst (λ o. IfSome o (λ m. m < length g.groups)) is h.out_group

module _ (g : Settings) (has : HasItsGroups g) (t u : Trace) (p : Plain) (x : GroupsValue) (connected : Bool) (told : SameTurns t u)
    (size : length p.sides ≡ 2 * p.opened) (k : Grouped g t p x) where
  abbrev q : Plain
  q = with_link g connected p

  abbrev first : SideId
  first = record { link = p.opened; side = In }

  abbrev second : SideId
  second = record { link = p.opened; side = Out }

  abbrev one : GroupsValue
  one = joined_where (group_set g In) first x

  abbrev two : GroupsValue
  two = joined_where (group_set g Out) second one

  nobody : (a : SideId) → p.opened ≤ a.link → group_of (number a) x.members ≡ None
  nobody a past = k.member a ∙ ap (λ z. z.group) (get_or_past p.sides (number a) no_side (omega (arith, size, past)))

  apart : number second ≢ number first
  apart h = absurd (omega (arith, h))

  nobody_second : group_of (number second) one.members ≡ None
  nobody_second =
      where-member (group_set g In) first x (nobody first (omega arith)) (number second)
      ∙ elim (eqb_tells (number second) (number first)) [
        | inl same ↦ absurd (apart same.1)
        | inr other ↦
            ap (λ b. if b then group_set g In else group_of (number second) x.members) other.0 ∙ nobody second (omega arith)
      ]

  new-group : (a : SideId) → p.opened ≡ a.link → (side_at q a).group ≡ group_set g a.side
  new-group a here = ap (λ z. z.group) (side_at-new g connected p a size here)

  old-group : (a : SideId) → p.opened ≢ a.link → (side_at q a).group ≡ (side_at p a).group
  old-group a away = ap (λ z. z.group) (side_at-old g connected p a size away)

  groups-same : two.groups ≡ x.groups
  groups-same = where-groups (group_set g Out) second one ∙ where-groups (group_set g In) first x

  member : (a : SideId) → group_of (number a) two.members ≡ (side_at q a).group
  member a =
      where-member (group_set g Out) second one nobody_second (number a)
      ∙ elim (eqb_tells (number a) (number second)) [
        | inl same ↦
            let is : a ≡ second = number-same a second same.1 in
            ap (λ b. if b then group_set g Out else group_of (number a) one.members) same.0
            ∙ sym (new-group second refl) ∙ ap (λ z. (side_at q z).group) (sym is)
        | inr other ↦
            ap (λ b. if b then group_set g Out else group_of (number a) one.members) other.0
            ∙ where-member (group_set g In) first x (nobody first (omega arith)) (number a)
            ∙ elim (eqb_tells (number a) (number first)) [
              | inl same ↦
                  let is : a ≡ first = number-same a first same.1 in
                  ap (λ b. if b then group_set g In else group_of (number a) x.members) same.0
                  ∙ sym (new-group first refl) ∙ ap (λ z. (side_at q z).group) (sym is)
              | inr others ↦
                  ap (λ b. if b then group_set g In else group_of (number a) x.members) others.0
                  ∙ k.member a ∙ sym (old-group a (λ here. by_side a.side refl here others.1 other.1))
            ]
      ]
    where
      by_side : (z : Side) → a.side ≡ z → p.opened ≡ a.link → number a ≢ number first → number a ≢ number second → ⊥
      by_side In is here no_first no_second = no_first (let h = ap half is in omega (arith, h, here))
      by_side Out is here no_first no_second = no_second (let h = ap half is in omega (arith, h, here))

  -- its sides join the groups of the settings
  pub opened-grouped : Grouped g u (with_link g connected p)
      (joined_where (group_set g Out) (record { link = p.opened; side = Out })
      (joined_where (group_set g In) (record { link = p.opened; side = In }) x))
  opened-grouped = record {
    many = ap length groups-same ∙ k.many;
    each = λ n y v a b. group-same g t p.time n y u v (told.groups g n) (k.each n y v a (ap (λ z. slice_get z n) (sym groups-same) ∙ b));
    member = member;
    once = where-once (group_set g Out) second one (where-once (group_set g In) first x k.once);
    counted = λ n.
        let a = where-count (group_set g Out) second one nobody_second n in
        let b = where-count (group_set g In) first x (nobody first (omega arith)) n in
        let c = sides-opened p q n refl (λ z before. old-group z (λ here. absurd (omega (arith, here, before)))) in
        let d = ap (one_of n) (new-group first refl) in
        let e = ap (one_of n) (new-group second refl) in
        let f = k.counted n in
        omega (arith, a, b, c, d, e, f);
    known = λ a n is. elim (eqb_tells p.opened a.link) [
      | inl here ↦ set-within g has a.side n (sym (new-group a here.1) ∙ is)
      | inr away ↦ k.known a n (sym (old-group a away.1) ∙ is)
    ];
    freed = λ a dead. elim (eqb_tells p.opened a.link) [
      | inl here ↦
          absurd (let bad : true ≡ false = sym (ap (λ z. z.live) (side_at-new g connected p a size here.1)) ∙ dead in cc)
      | inr away ↦
          old-group a away.1 ∙ k.freed a (sym (ap (λ z. z.live) (side_at-old g connected p a size away.1)) ∙ dead)
    ];
  }

once-none : IsDistinct nat_eq []
unfolding IsDistinct
once-none = tt

-- Before the first turn all groups are as they are made.
pub new-grouped : (g : Settings) → Grouped g [] nothing_yet (new_groups g.groups)
new-grouped g = record {
  many = length-map g.groups (λ y. made y.cfg y.share 0);
  each = λ n y v a b.
      let w = get_mapped (λ y. made y.cfg y.share 0) g.groups n v b in
      let same : w.0 ≡ y = same_Some w.0 y (sym w.1 ∙ a) in
      subst (GroupFits g [] 0 n y) w.2
      (subst (λ z. GroupFits g [] 0 n y (made z.cfg z.share 0)) (sym same) (made-fits n y));
  member = λ e. refl;
  once = once-none;
  counted = λ n. refl;
  known = λ e n is. absurd (cc);
  freed = λ e dead. refl;
}
  where
    made-fits : (n : ℕ) (y : GroupSet) → GroupFits g [] 0 n y (made y.cfg y.share 0)
    made-fits n y = record {
      cfg = refl;
      least = omega arith;
      tick = refl;
      each = both;
    }
      where
        both : (d : Dir) → GroupLaneFits y d [] 0 (lane_of (made y.cfg y.share 0) d)
        both dir.Read = first-fits y dir.Read
        both dir.Write = first-fits y dir.Write
