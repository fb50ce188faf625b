-- Members that come and go, and how many each group has.
use Rattle.std.proofs.Common.{◌≡◌, ◌∙◌, inl, inr, ℕ, zero, suc, ◌+◌, ◌-◌, ◌<◌, ◌≤◌, Bool, true, false, cond, List, [], ◌∷◌, length, set}
use Rattle.std.proofs.Common.{get_or, Option, Some, refl, sym, ap, subst, arith, nat_eq, length-append}
use Rattle.std.specs.Prelude.{◌++◌, slice_get}
use Rattle.std.specs.Option.{option_map, option_map_or, IsSomeAnd}
use Rattle.std.proofs.lemmas.List.{length-map, length-set}
use Rattle.std.proofs.lemmas.Option.{slice_get-map, slice_get_read, slice_get_within, get_or_from_slice_get}
use Rattle.std.proofs.lemmas.List.Sums.{sum_by-cons, count_by-le-length}
use Rattle.std.proofs.lemmas.Bool.Decides.{eqb_tells}
use Rattle.std.specs.List.{AllByRecursion}
use Rattle.std.specs.Map.{remove_entry}
use Rattle.indexmap.specs.IndexMap.{insert_entry}
use Rattle.rate_group.specs.declared.group.Group.{Group}
use Rattle.rate_group.specs.GroupValue.{GroupValue}
use Rattle.token_bucket.specs.declared.limit.Dir.{Dir}
use Rattle.rate_group.specs.GroupList.{group_value, group_values, IsWithinShare, counts_of, one_at, one_of, Counted, CountsMove, HasMember}
use Rattle.rate_group.specs.Steps.{count_in, group_of, share_of, share_in}
use Rattle.rate_group.proofs.ListLemmas.{one_less, count_at}

abbrev pub Member : Type 0
Member = ℕ × ℕ

count-cons : (k : ℕ) (e : Member) (es : List Member) → count_in k (e ∷ es) ≡ one_at k e.1 + count_in k es
count-cons k e es = sum_by-cons (λ (x : Member). cond (nat_eq k x.1) 1 0) e es

-- a member that joins, or that moves out of another group
pub count-insert : (k m n : ℕ) (es : List Member) →
    count_in k (insert_entry nat_eq es m n) + one_of k (group_of m es) ≡ count_in k es + one_at k n
count-insert k m n [] = let a = count-cons k (m, n) [] in omega (arith, a)
count-insert k m n (e ∷ es) = by (count-insert k m n es) (nat_eq m e.0)
  where
    by : count_in k (insert_entry nat_eq es m n) + one_of k (group_of m es) ≡ count_in k es + one_at k n → (b : Bool) →
        count_in k (cond b ((e.0, n) ∷ es) (e ∷ insert_entry nat_eq es m n)) + one_of k (cond b (Some e.1) (group_of m es))
        ≡ count_in k (e ∷ es) + one_at k n
    by rest true = let a = count-cons k (e.0, n) es in let b = count-cons k e es in omega (arith, a, b)
    by rest false =
        let a = count-cons k e (insert_entry nat_eq es m n) in
        let b = count-cons k e es in
        omega (arith, a, b, rest)

-- a member that leaves
pub count-remove : (k m : ℕ) (es : List Member) → count_in k (remove_entry (nat_eq m) es) + one_of k (group_of m es) ≡ count_in k es
count-remove k m [] = refl
count-remove k m (e ∷ es) = by (count-remove k m es) (nat_eq m e.0)
  where
    by : count_in k (remove_entry (nat_eq m) es) + one_of k (group_of m es) ≡ count_in k es → (b : Bool) →
        count_in k (cond b es (e ∷ remove_entry (nat_eq m) es)) + one_of k (cond b (Some e.1) (group_of m es)) ≡ count_in k (e ∷ es)
    by rest true = let b = count-cons k e es in omega (arith, b)
    by rest false =
        let a = count-cons k e (remove_entry (nat_eq m) es) in
        let b = count-cons k e es in
        omega (arith, a, b, rest)

pub one-same : (n : ℕ) → one_at n n ≡ 1
one-same n = elim (eqb_tells n n) [ inl e ↦ ap (λ b. cond b 1 0) e.0 | inr e ↦ absurd (e.1 refl) ]

-- the group of a member has one
pub count-some : (m n : ℕ) (es : List Member) → group_of m es ≡ Some n → 0 < count_in n es
count-some m n es h =
    let a = count-remove n m es in
    let b : one_of n (group_of m es) ≡ 1 = ap (one_of n) h ∙ one-same n in
    omega (arith, a, b)

-- Members of groups with numbers below a length

abbrev pub InGroups : ℕ → List Member → Type 0
InGroups long es = AllByRecursion (λ (e : Member). e.1 < long) es

pub known-insert : (long m n : ℕ) (es : List Member) → n < long → InGroups long es → InGroups long (insert_entry nat_eq es m n)
known-insert long m n [] h k = (h, tt)
known-insert long m n (e ∷ es) h k = by (known-insert long m n es h k.1) (nat_eq m e.0)
  where
    by : InGroups long (insert_entry nat_eq es m n) → (b : Bool) → InGroups long (cond b ((e.0, n) ∷ es) (e ∷ insert_entry nat_eq es m n))
    by rest true = (h, k.1)
    by rest false = (k.0, rest)

pub known-remove : (long m : ℕ) (es : List Member) → InGroups long es → InGroups long (remove_entry (nat_eq m) es)
known-remove long m [] k = tt
known-remove long m (e ∷ es) k = by (known-remove long m es k.1) (nat_eq m e.0)
  where
    by : InGroups long (remove_entry (nat_eq m) es) → (b : Bool) → InGroups long (cond b es (e ∷ remove_entry (nat_eq m) es))
    by rest true = k.1
    by rest false = (k.0, rest)

pub known-more : (long more : ℕ) (es : List Member) → long ≤ more → InGroups long es → InGroups more es
known-more long more [] h k = tt
known-more long more (e ∷ es) h k = ((let a = k.0 in omega (arith, a, h)), known-more long more es h k.1)

pub known-group : (long m n : ℕ) (es : List Member) → InGroups long es → group_of m es ≡ Some n → n < long
known-group long m n [] k h = absurd (cc)
known-group long m n (e ∷ es) k h = by (known-group long m n es k.1) (nat_eq m e.0) h
  where
    by : (group_of m es ≡ Some n → n < long) → (b : Bool) → cond b (Some e.1) (group_of m es) ≡ Some n → n < long
    by rest true q = let same : e.1 ≡ n = cc in let a = k.0 in omega (arith, a, same)
    by rest false q = rest q

-- Groups that count their members

pub long-counts : (old new : List Group) → counts_of new ≡ counts_of old → length new ≡ length old
long-counts old new h =
    let a = length-map new (λ (g : Group). g.count) in
    let b = length-map old (λ (g : Group). g.count) in
    let c = ap length h in
    omega (arith, a, b, c)

pub long-set : (old new : List Group) (n count : ℕ) → counts_of new ≡ set (counts_of old) n count → length new ≡ length old
long-set old new n count h =
    let a = length-map new (λ (g : Group). g.count) in
    let b = length-map old (λ (g : Group). g.count) in
    let c = ap length h in
    let d = length-set (counts_of old) n count in
    omega (arith, a, b, c, d)

-- where no count changes
pub counted-same : (old new : List Group) (es : List Member) → Counted old es → counts_of new ≡ counts_of old → Counted new es
counted-same old new es h same = record {
  counts = λ n. ap (λ cs. get_or cs n 0) same ∙ h.counts n;
  known = subst (λ n. InGroups n es) (sym (long-counts old new same)) h.known;
}

-- a group with no members is made
pub counted-push : (gs : List Group) (x : Group) (es : List Member) → Counted gs es → x.count ≡ 0 → Counted (gs ++ x ∷ []) es
counted-push gs x es h none = record {
  counts = λ n. counts-push gs n ∙ h.counts n;
  known = known-more (length gs) (length (gs ++ x ∷ [])) es (let k = length-append gs (x ∷ []) in omega (arith, k)) h.known;
}
  where
    counts-push : (xs : List Group) (n : ℕ) → get_or (counts_of (xs ++ x ∷ [])) n 0 ≡ get_or (counts_of xs) n 0
    counts-push [] zero = none
    counts-push [] (suc n) = refl
    counts-push (g ∷ xs) zero = refl
    counts-push (g ∷ xs) (suc n) = counts-push xs n

-- a member's group is one that has a member
pub has-member : (gs : List Group) (es : List Member) (m : ℕ) → Counted gs es → HasMember gs (group_of m es)
has-member gs es m h n is =
    let some = count-some m n es is in
    let count = h.counts n in
    (known-group (length gs) m n es h.known is, omega (arith, some, count))

-- a member moves
pub counted-move : (old new : List Group) (es : List Member) (m n : ℕ) → Counted old es → n < length old → length new ≡ length old →
    CountsMove old new (group_of m es) n → Counted new (insert_entry nat_eq es m n)
counted-move old new es m n h to long moves = record {
  counts = λ k.
      let a = moves k in
      let b = h.counts k in
      let c = count-insert k m n es in
      omega (arith, a, b, c);
  known = subst (λ z. InGroups z (insert_entry nat_eq es m n)) (sym long) (known-insert (length old) m n es to h.known);
}

-- there is room for it in the count of its group
pub room-move : (gs : List Group) (es : List Member) (m n all : ℕ) → Counted gs es → length (insert_entry nat_eq es m n) ≡ all →
    get_or (counts_of gs) n 0 < all + one_of n (group_of m es)
room-move gs es m n all h long =
    let a = h.counts n in
    let b = count-insert n m n es in
    let c = count_by-le-length (λ (e : Member). nat_eq n e.1) (insert_entry nat_eq es m n) in
    let d = one-same n in
    omega (arith, a, b, c, d, long)

-- a member leaves
pub counted-left : (old new : List Group) (es : List Member) (m n : ℕ) → Counted old es → group_of m es ≡ Some n →
    counts_of new ≡ set (counts_of old) n (get_or (counts_of old) n 0 - 1) → Counted new (remove_entry (nat_eq m) es)
counted-left old new es m n h is counts =
    let has = has-member old es m h n is in
    let many = length-map old (λ (g : Group). g.count) in
    let long = long-set old new n (get_or (counts_of old) n 0 - 1) counts in
    record {
      counts = λ k.
          let a = one_less (counts_of old) n k (let w = has.0 in omega (arith, many, w)) has.1 in
          let b = h.counts k in
          let c = count-remove k m es in
          let d : one_of k (group_of m es) ≡ one_at k n = ap (one_of k) is in
          let e = ap (λ cs. get_or cs k 0) counts in
          omega (arith, a, b, c, d, e);
      known = subst (λ z. InGroups z (remove_entry (nat_eq m) es)) (sym long) (known-remove (length old) m es h.known);
    }

-- What is read of a member's group

-- it counts its members
pub count-read : (gs : List Group) (es : List Member) (n : ℕ) (x : Group) → Counted gs es → n < length gs → x ≡ get_or gs n x →
    x.count ≡ count_in n es
count-read gs es n x h within is = ap (λ (g : Group). g.count) is ∙ sym (count_at gs n x within) ∙ h.counts n

pub share-read : (gs : List Group) (es : List Member) (m n : ℕ) (d : Dir) (x : Group) → Counted gs es → group_of m es ≡ Some n →
    n < length gs → x ≡ get_or gs n x →
    Some (share_of (group_value x) d x.count) ≡ share_in m d (record { groups = group_values gs; members = es })
share-read gs es m n d x h known within is =
    let count = count-read gs es n x h within is in
    let at : slice_get (group_values gs) n ≡ Some (group_value x) =
    slice_get-map group_value gs n ∙ ap (option_map group_value) (slice_get_read gs (length gs) n x refl within is) in
    ap (λ k. Some (share_of (group_value x) d k)) count
    ∙ ap (λ (o : Option GroupValue). Some (option_map_or (λ g. share_of g d (count_in n es)) o 0)) (sym at)
    ∙ ap (λ (o : Option ℕ). option_map (λ k. option_map_or (λ g. share_of g d (count_in k es)) (slice_get (group_values gs) k) 0) o)
    (sym known)

-- what is within a member's share is within that of its group
pub within-share : (gs : List Group) (es : List Member) (m n : ℕ) (d : Dir) (k : ℕ) → Counted gs es → group_of m es ≡ Some n →
    IsSomeAnd (share_in m d (record { groups = group_values gs; members = es })) (λ share. k ≤ share) → IsWithinShare gs n d k
within-share gs es m n d k h known within g at =
    let there = slice_get_within gs n g at in
    let is : g ≡ get_or gs n g = sym (get_or_from_slice_get gs n g g at) in
    subst (λ (o : Option ℕ). IsSomeAnd o (λ share. k ≤ share)) (sym (share-read gs es m n d g h known there is)) within
