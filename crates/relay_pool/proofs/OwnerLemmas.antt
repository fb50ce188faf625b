-- The owners of bays, and the bays without one, which were given back.
use Rattle.std.proofs.Common.{◌≡◌, ◌≢◌, ℕ, ◌+◌, ◌<◌, ◌≤◌, Bool, true, false, cond, List, [], ◌∷◌, ◌++◌, length, map}
use Rattle.std.proofs.Common.{slice_index_or, slice_set, sym, ◌∙◌, ap, arith, subst, length-append}
use Rattle.std.specs.Global.{Vec}
use Rattle.std.specs.List.{All, AllPairs, count_by}
use Rattle.std.specs.Prelude.{Option, Some, None, slice_get, vec_capacity}
use Rattle.std.proofs.lemmas.List.{get_or-set_same, get_or-set_other, get_or_append_left, length-set, map-set}
use Rattle.std.proofs.lemmas.List.{set-get_or, get_or-map}
use Rattle.std.proofs.lemmas.List.Elements.{All-push}
use Rattle.std.proofs.lemmas.List.Quantifiers.{all_pairs_push}
use Rattle.std.proofs.lemmas.List.Sums.{sum_by_push, sum_by-set, get_or-le-sum_by}
use Rattle.std.proofs.lemmas.Option.{slice_get_within, slice_get-get_or, get_or_from_slice_get}
use Rattle.std.proofs.Math.Seq.{get_or-append_seam}
use Rattle.relay_pool.specs.PoolView.{AreGivenBack}
use Rattle.relay_pool.specs.Stays.{stay_at, is_in_bay}
use Rattle.relay_pool.specs.declared.stay.Stay.{Stay}
use Rattle.relay_pool.specs.declared.stay.Stay.TheVariants as stay

get_kept : {A : Type 0} (xs ys : List A) (i : ℕ) (x d : A) → slice_index_or ys i d ≡ slice_index_or xs i d → i < length ys →
    slice_get xs i ≡ Some x → slice_get ys i ≡ Some x
get_kept xs ys i x d p h q = slice_get-get_or ys i d h ∙ ap Some (p ∙ get_or_from_slice_get xs i x d q)

abbrev has-owner : Option (Option ℕ) → Bool
has-owner (Some (Some n)) = true
has-owner _ = false

-- a bay with an owner isn't one without
pub unowned : (owners : List (Option ℕ)) (u bay n : ℕ) → slice_get owners u ≡ Some (Some n) → slice_get owners bay ≡ Some None → u ≢ bay
unowned owners u bay n p q e =
    absurd (let wrong : true ≡ false = ap has-owner (sym p ∙ ap (slice_get owners) e ∙ q) in cc)

-- one bay gets an owner or loses it

module _ (owners : List (Option ℕ)) (bay : ℕ) (y : Option ℕ) where
  pub other_set : (u : ℕ) (x : Option ℕ) → u ≢ bay → slice_get owners u ≡ Some x → slice_get (slice_set owners bay y) u ≡ Some x
  other_set u x d p =
      let w = slice_get_within owners u x p in
      let l = length-set owners bay y in
      get_kept owners (slice_set owners bay y) u x None (get_or-set_other owners bay u y None d) (omega (arith, w, l)) p

  pub own_set : (x : Option ℕ) → slice_get owners bay ≡ Some x → slice_get (slice_set owners bay y) bay ≡ Some y
  own_set x p =
      let w = slice_get_within owners bay x p in
      let l = length-set owners bay y in
      slice_get-get_or (slice_set owners bay y) bay None (omega (arith, w, l)) ∙ ap Some (get_or-set_same owners bay y None w)

pub owned_set : (owners : List (Option ℕ)) (bay link : ℕ) → slice_get owners bay ≡ Some None → (u n : ℕ) →
    slice_get owners u ≡ Some (Some n) → slice_get (slice_set owners bay (Some link)) u ≡ Some (Some n)
owned_set owners bay link free u n p = other_set owners bay (Some link) u (Some n) (unowned owners u bay n p free) p

-- there is one bay more

pub owned_more : (owners : List (Option ℕ)) (x : Option ℕ) (u : ℕ) (y : Option ℕ) → slice_get owners u ≡ Some y →
    slice_get (owners ++ x ∷ []) u ≡ Some y
owned_more owners x u y p =
    let w = slice_get_within owners u y p in
    let l = length-append owners (x ∷ []) in
    get_kept owners (owners ++ x ∷ []) u y None (get_or_append_left owners (x ∷ []) None u w) (omega (arith, w, l)) p

pub own_more : (owners : List (Option ℕ)) (x : Option ℕ) → slice_get (owners ++ x ∷ []) (length owners) ≡ Some x
own_more owners x =
    let l = length-append owners (x ∷ []) in
    slice_get-get_or (owners ++ x ∷ []) (length owners) None (omega (arith, l)) ∙ ap Some (get_or-append_seam owners x [] None)

-- how many links are kept, where one more is, one is no more, and no other one is

abbrev pub kept_in : List Bool → ℕ
kept_in kept = count_by (λ x. x) kept

pub kept_push : (kept : List Bool) → kept_in (kept ++ true ∷ []) ≡ kept_in kept + 1
kept_push kept = sum_by_push (λ x. cond x 1 0) kept true

module _ (kept : List Bool) (link : ℕ) (b : link < length kept) (is : slice_index_or kept link true ≡ true) where
  pub kept_some : 1 ≤ kept_in kept
  kept_some = subst (λ x. cond x 1 0 ≤ kept_in kept) is (get_or-le-sum_by (λ x. cond x 1 0) kept link true b)

  pub kept_less : kept_in (slice_set kept link false) + 1 ≡ kept_in kept
  kept_less =
      let less : kept_in (slice_set kept link false) + cond (slice_index_or kept link true) 1 0 ≡ kept_in kept + 0 =
      sum_by-set (λ x. cond x 1 0) kept link false true b in
      let weight : Bool → ℕ = λ x. cond x 1 0 in
      let one : weight (slice_index_or kept link true) ≡ 1 = ap weight is in
      omega (arith, less, one)

pub kept_still : (stays new : List Stay) (link : ℕ) → link < length stays → new ≡ slice_set stays link (stay_at new link) →
    is_in_bay (stay_at new link) ≡ is_in_bay (stay_at stays link) → map is_in_bay new ≡ map is_in_bay stays
kept_still stays new link b rest same =
    ap (map is_in_bay) rest ∙ map-set is_in_bay stays link (stay_at new link)
    ∙ ap (slice_set (map is_in_bay stays) link) (same ∙ sym (get_or-map is_in_bay stays link (stay.Bay 0) true b))
    ∙ set-get_or (map is_in_bay stays) link true

-- The bays that were given back

module _ (free : Vec ℕ) (owners : List (Option ℕ)) (kept : List Bool) (back : AreGivenBack free owners kept) where
  -- the last is taken for a link
  module _ (new : Vec ℕ) (bay link : ℕ) (items : free.items ≡ new.items ++ bay ∷ []) (room : vec_capacity new ≡ vec_capacity free) where
    count : length free.items ≡ length new.items + 1
    count = ap length items ∙ length-append new.items (bay ∷ [])

    old_at : (k d : ℕ) → k < length new.items → slice_index_or free.items k d ≡ slice_index_or new.items k d
    old_at k d b = ap (λ xs. slice_index_or xs k d) items ∙ get_or_append_left new.items (bay ∷ []) d k b

    last_at : (d : ℕ) → slice_index_or free.items (length new.items) d ≡ bay
    last_at d = ap (λ xs. slice_index_or xs (length new.items) d) items ∙ get_or-append_seam new.items bay [] d

    pub last_unowned : slice_get owners bay ≡ Some None
    last_unowned =
        subst (λ u. slice_get owners u ≡ Some None) (last_at 0) (back.unowned (length new.items) 0 (omega (arith, count)))

    pub back_taken : AreGivenBack new (slice_set owners bay (Some link)) (kept ++ true ∷ [])
    back_taken =
        let l = length-set owners bay (Some link) in
        record {
          unowned = λ k d b.
              other_set owners bay (Some link) (slice_index_or new.items k d) None
              (subst (λ u. slice_index_or new.items k d ≢ u) (last_at d)
              (subst (λ u. u ≢ slice_index_or free.items (length new.items) d) (old_at k d b)
              (back.apart k (length new.items) d b (omega (arith, count)))))
              (subst (λ u. slice_get owners u ≡ Some None) (old_at k d b) (back.unowned k d (omega (arith, b, count))));
          apart = λ i j d p q.
              subst (λ u. u ≢ slice_index_or new.items j d) (old_at i d (omega (arith, p, q)))
              (subst (λ u. slice_index_or free.items i d ≢ u) (old_at j d q) (back.apart i j d p (omega (arith, q, count))));
          others = (let all = back.others in omega (arith, all, count, l, kept_push kept));
          room = (let all = back.room in omega (arith, all, room, l));
        }

  -- there is none, and a new bay
  pub back_more : (new : Vec ℕ) (x : Option ℕ) → length free.items ≡ 0 → length new.items ≡ 0 →
      length owners + 1 ≤ vec_capacity new → AreGivenBack new (owners ++ x ∷ []) (kept ++ true ∷ [])
  back_more new x none still room =
      let l = length-append owners (x ∷ []) in
      record {
        unowned = λ k d b. absurd (omega (arith, b, still));
        apart = λ i j d p q. absurd (omega (arith, q, still));
        others = (let all = back.others in omega (arith, all, none, still, l, kept_push kept));
        room = omega (arith, l, room);
      }

  -- a link leaves its bay
  module _ (bay link : ℕ) (own : slice_get owners bay ≡ Some (Some link)) (b : link < length kept)
      (is : slice_index_or kept link true ≡ true) where
    pub back_room : length free.items < vec_capacity free
    back_room = let all = back.others in let room = back.room in omega (arith, all, room, kept_some kept link b is)

    away : (k d : ℕ) → k < length free.items → slice_index_or free.items k d ≢ bay
    away k d w e = unowned owners bay (slice_index_or free.items k d) link own (back.unowned k d w) (sym e)

    pub back_left : (new : Vec ℕ) → new.items ≡ free.items ++ bay ∷ [] → vec_capacity new ≡ vec_capacity free →
        AreGivenBack new (slice_set owners bay None) (slice_set kept link false)
    back_left new items room =
        let l = length-set owners bay None in
        let count : length new.items ≡ length free.items + 1 = ap length items ∙ length-append free.items (bay ∷ []) in
        record {
          unowned = subst (λ xs. All (λ u. slice_get (slice_set owners bay None) u ≡ Some None) xs) (sym items)
              (All-push (λ u. slice_get (slice_set owners bay None) u ≡ Some None) free.items bay
              (λ k d w. other_set owners bay None (slice_index_or free.items k d) None (away k d w) (back.unowned k d w))
              (own_set owners bay None (Some link) own));
          apart = subst (λ xs. AllPairs (λ x y. x ≢ y) xs) (sym items)
              (all_pairs_push (λ x y. x ≢ y) free.items bay back.apart away);
          others = (let all = back.others in omega (arith, all, count, l, kept_less kept link b is));
          room = (let all = back.room in omega (arith, all, room, l));
        }
