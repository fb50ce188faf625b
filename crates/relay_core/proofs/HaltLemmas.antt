-- Who is in no group, as others join and leave; and whether a group leaves its members something.
use Rattle.std.specs.Prelude.{option_map, unwrap_or, if◌then◌else◌, slice_get, slice_set, max, map, length}
use Rattle.std.specs.Option.{option_map_or}
use Rattle.std.specs.List.{All}
use Rattle.std.specs.Map.{remove_entry}
use Rattle.std.proofs.Common.{◌≡◌, ◌≢◌, ℕ, zero, suc, ◌+◌, ◌/◌, ◌<◌, ◌≤◌, Bool, true, false, not, nat_le, nat_eq, List, [], ◌∷◌}
use Rattle.std.proofs.Common.{Option, Some, None, inl, inr, refl, sym, ◌∙◌, ap, subst, arith}
use Rattle.std.proofs.lemmas.Bool.{le-leb}
use Rattle.std.proofs.lemmas.Bool.Decides.{eqb_tells}
use Rattle.std.proofs.lemmas.List.Elements.{All-head, All-tail}
use Rattle.token_bucket.specs.declared.limit.Dir.{Dir}
use Rattle.token_bucket.specs.declared.limit.Dir.TheVariants as dir
use Rattle.token_bucket.specs.Levels.{held}
use Rattle.ev_types.specs.declared.side.SideId.{SideId}
use Rattle.ev_types.specs.Sides.{number}
use Rattle.rate_group.specs.GroupValue.{GroupValue, GroupsValue}
use Rattle.rate_group.specs.Steps.{lane_of, group_of, joined, share_of, share_in, count_in}
use Rattle.rate_group.proofs.KnownMembers.{group-insert}
use Rattle.relay_state.specs.Opening.{joined_where}
use Rattle.relay_core.specs.Timeless.{leaves_some}
use Rattle.relay_core.specs.Halts.{halts_of, halts_in, is_free}
use Rattle.relay_core.specs.declared.halts.Halts.{Halts}

-- who is in no group is in none once another has left
pub left-keeps : (member k : ℕ) (es : List (ℕ × ℕ)) → group_of member es ≡ None → group_of member (remove_entry (nat_eq k) es) ≡ None
left-keeps member k [] h = h
left-keeps member k (y ∷ es) h = by (nat_eq k y.0) (nat_eq member y.0) h (left-keeps member k es)
  where
    stay : (a : Bool) → (if a then Some y.1 else group_of member es) ≡ None →
        (group_of member es ≡ None → group_of member (remove_entry (nat_eq k) es) ≡ None) →
        (if a then Some y.1 else group_of member (remove_entry (nat_eq k) es)) ≡ None
    stay true p rest = absurd (cc p)
    stay false p rest = rest p

    by : (b a : Bool) → (if a then Some y.1 else group_of member es) ≡ None →
        (group_of member es ≡ None → group_of member (remove_entry (nat_eq k) es) ≡ None) →
        group_of member (if b then es else y ∷ remove_entry (nat_eq k) es) ≡ None
    by b true p rest = absurd (cc p)
    by true false p rest = p
    by false false p rest = stay (nat_eq member y.0) h rest

-- nor once another has joined
pub joined-keeps : (member k n : ℕ) (x : GroupsValue) → member ≢ k → group_of member x.members ≡ None →
    group_of member (joined n k x).members ≡ None
joined-keeps member k n x other h =
    group-insert member k n x.members
    ∙ elim (eqb_tells member k) as (λ _. (if nat_eq member k then Some n else group_of member x.members) ≡ None) [
      | inl same ↦ absurd (other same.1)
      | inr apart ↦ ap (λ b. if b then Some n else group_of member x.members) apart.0 ∙ h
    ]

pub joined_where-keeps : (o : Option ℕ) (e : SideId) (member : ℕ) (x : GroupsValue) → member ≢ number e → group_of member x.members ≡ None →
    group_of member (joined_where o e x).members ≡ None
joined_where-keeps None e member x other h = h
joined_where-keeps (Some n) e member x other h = joined-keeps member (number e) n x other h

-- A group leaves each of its members something in a direction, or nothing, by whether it is suspended there.
free-share : (g : GroupValue) (d : Dir) (count : ℕ) → 1 ≤ g.least → leaves_some (Some (share_of g d count)) ≡ not (halts_in (halts_of g) d)
free-share g d count least = by (lane_of g d).suspended ∙ lane d
  where
    lane : (d : Dir) → not (lane_of g d).suspended ≡ not (halts_in (halts_of g) d)
    lane dir.Read = refl
    lane dir.Write = refl

    by : (b : Bool) → nat_le 1 (if b then 0 else max (held (lane_of g d).level / count) g.least) ≡ not b
    by true = refl
    by false = le-leb 1 (max (held (lane_of g d).level / count) g.least) (omega (arith, least))

-- so it is of all groups, and of who is in none
pub free-by : (member : ℕ) (d : Dir) (x : GroupsValue) → All (λ (g : GroupValue). 1 ≤ g.least) x.groups →
    leaves_some (share_in member d x) ≡ is_free (map halts_of x.groups) d (group_of member x.members)
free-by member d x shares = go (group_of member x.members)
  where
    at : (count : ℕ) (gs : List GroupValue) (n : ℕ) → All (λ (g : GroupValue). 1 ≤ g.least) gs →
        leaves_some (Some (option_map_or (λ g. share_of g d count) (slice_get gs n) 0)) ≡ is_free (map halts_of gs) d (Some n)
    at count [] n all = refl
    at count (g ∷ gs) zero all = free-share g d count (All-head (λ (g : GroupValue). 1 ≤ g.least) g gs all)
    at count (g ∷ gs) (suc n) all = at count gs n (All-tail (λ (g : GroupValue). 1 ≤ g.least) g gs all)

    go : (o : Option ℕ) →
        leaves_some (option_map (λ n. option_map_or (λ g. share_of g d (count_in n x.members)) (slice_get x.groups n) 0) o)
        ≡ is_free (map halts_of x.groups) d o
    go None = refl
    go (Some n) = at (count_in n x.members) x.groups n shares

-- Groups are noted one after the other.

set-same : {A : Type 0} (xs : List A) (j : ℕ) (x : A) → j < length xs → slice_get (slice_set xs j x) j ≡ Some x
set-same [] j x lt = absurd (omega (arith, lt))
set-same (y ∷ ys) zero x lt = refl
set-same (y ∷ ys) (suc j) x lt = set-same ys j x (omega (arith, lt))

set-other : {A : Type 0} (xs : List A) (j k : ℕ) (x : A) → k ≢ j → slice_get (slice_set xs j x) k ≡ slice_get xs k
set-other [] j k x apart = refl
set-other (y ∷ ys) zero zero x apart = absurd (apart refl)
set-other (y ∷ ys) zero (suc k) x apart = refl
set-other (y ∷ ys) (suc j) zero x apart = refl
set-other (y ∷ ys) (suc j) (suc k) x apart = set-other ys j k x (λ same. apart (ap suc same))

set-length : {A : Type 0} (xs : List A) (j : ℕ) (x : A) → length (slice_set xs j x) ≡ length xs
set-length [] j x = refl
set-length (y ∷ ys) zero x = refl
set-length (y ∷ ys) (suc j) x = ap suc (set-length ys j x)

-- of the groups up to a number it is noted in which directions they are suspended
abbrev pub AreNoted : ℕ → List Halts → List GroupValue → Type 0
AreNoted at xs gs = (k : ℕ) → k < at → slice_get xs k ≡ option_map halts_of (slice_get gs k)

pub noted-next : (xs ys : List Halts) (gs : List GroupValue) (at : ℕ) → at < length xs →
    option_map (λ h. slice_set xs at h) (option_map halts_of (slice_get gs at)) ≡ Some ys → AreNoted at xs gs →
    (length ys ≡ length xs) × AreNoted (at + 1) ys gs
noted-next xs ys gs at lt is before = go (slice_get gs at) refl is
  where
    next : (g : GroupValue) → slice_get gs at ≡ Some g → AreNoted (at + 1) (slice_set xs at (halts_of g)) gs
    next g here k below = elim (eqb_tells k at) [
      | inl same ↦
          ap (slice_get (slice_set xs at (halts_of g))) same.1 ∙ set-same xs at (halts_of g) lt
          ∙ sym (ap (option_map halts_of) (ap (slice_get gs) same.1 ∙ here))
      | inr apart ↦ set-other xs at k (halts_of g) apart.1 ∙ before k (let other = apart.1 in omega (arith, below, other))
    ]

    go : (o : Option GroupValue) → slice_get gs at ≡ o → option_map (λ h. slice_set xs at h) (option_map halts_of o) ≡ Some ys →
        (length ys ≡ length xs) × AreNoted (at + 1) ys gs
    go None here is = absurd (let wrong : None ≡ Some ys = is in cc)
    go (Some g) here is =
        let same : slice_set xs at (halts_of g) ≡ ys = ap (λ o. unwrap_or o xs) is in (
          sym (ap length same) ∙ set-length xs at (halts_of g),
          subst (λ zs. AreNoted (at + 1) zs gs) same (next g here),
        )

-- the other groups' notes stay
pub noted-later : (xs ys : List Halts) (gs : List GroupValue) (at : ℕ) →
    option_map (λ h. slice_set xs at h) (option_map halts_of (slice_get gs at)) ≡ Some ys → (k : ℕ) → k ≢ at →
    slice_get ys k ≡ slice_get xs k
noted-later xs ys gs at is k apart = go (slice_get gs at) is
  where
    go : (o : Option GroupValue) → option_map (λ h. slice_set xs at h) (option_map halts_of o) ≡ Some ys → slice_get ys k ≡ slice_get xs k
    go None is = absurd (let wrong : None ≡ Some ys = is in cc)
    go (Some g) is =
        let same : slice_set xs at (halts_of g) ≡ ys = ap (λ o. unwrap_or o xs) is in
        ap (λ zs. slice_get zs k) (sym same) ∙ set-other xs at k (halts_of g) apart

-- in the end of all
pub noted-all : (xs : List Halts) (gs : List GroupValue) → length xs ≡ length gs → AreNoted (length gs) xs gs → xs ≡ map halts_of gs
noted-all [] [] same h = refl
noted-all [] (g ∷ gs) same h = absurd (omega (arith, same))
noted-all (x ∷ xs) [] same h = absurd (omega (arith, same))
noted-all (x ∷ xs) (g ∷ gs) same h =
    let first : x ≡ halts_of g = ap (λ o. unwrap_or o x) (h zero (omega arith)) in
    let rest = noted-all xs gs (omega (arith, same)) (λ k lt. h (suc k) (omega (arith, lt))) in
    λ i. first i ∷ rest i
