-- The earliest of two lists of moments, one after the other, is the lesser of those of each.
use Rattle.std.specs.Prelude.{option_to_list}
use Rattle.std.proofs.Common.{◌≡◌, ℕ, zero, suc, ◌+◌, ◌-◌, ◌≤◌, ◌<◌, true, ◌&&◌, min, List, [], ◌∷◌, ◌++◌, Option, Some, None, refl, sym}
use Rattle.std.proofs.Common.{◌∙◌, ap, arith, append-nil}
use Rattle.ev_types.specs.declared.side.Side.{Side}
use Rattle.ev_types.specs.declared.side.Side.TheVariants.{In, Out}
use Rattle.std.specs.List.{flat_map}
use Rattle.token_bucket.specs.declared.limit.Dir.{Dir}
use Rattle.token_bucket.specs.declared.limit.Dir.TheVariants as dir
use Rattle.ev_types.specs.declared.side.SideId.{SideId}
use Rattle.token_bucket.specs.Spells.{least_with}
use Rattle.rate_group.specs.GroupValue.{GroupValue}
use Rattle.rate_group.specs.Gains as gains
use Rattle.rate_group.specs.Steps.{count_in}
use Rattle.relay_model.specs.Moments.{timeout_of, last_activity, is_timed, moment_where, both_ways, earliest}
use Rattle.relay_model.specs.Plain.{side_at, sides_from}
use Rattle.relay_state.specs.Closing.{in_side, out_side}
use Rattle.relay_state.specs.Rooms.{wants}
use Rattle.relay_state.specs.State.{State}
use Rattle.relay_state.specs.Time.{expiry, group_gains}
use Rattle.relay_core.specs.Waits.{earlier, wait_until, expiries}
use Rattle.relay_core.proofs.TimeLemmas.{sides_from-more}

least_with-min : (n m : ℕ) (xs : List ℕ) → least_with (min n m) xs ≡ min n (least_with m xs)
least_with-min n m [] = refl
least_with-min n m (x ∷ xs) =
    let a : min (min n m) x ≡ min n (min m x) = omega arith in ap (λ k. least_with k xs) a ∙ least_with-min n (min m x) xs

least_with-append : (n m : ℕ) (xs ys : List ℕ) → least_with n (xs ++ m ∷ ys) ≡ min (least_with n xs) (least_with m ys)
least_with-append n m [] ys = least_with-min n m ys
least_with-append n m (x ∷ xs) ys = least_with-append (min n x) m xs ys

pub wait_until-append : (time : ℕ) (xs ys : List ℕ) → wait_until time (xs ++ ys) ≡ earlier (wait_until time xs) (wait_until time ys)
wait_until-append time [] ys = refl
wait_until-append time (x ∷ xs) [] = ap (wait_until time) (append-nil (x ∷ xs))
wait_until-append time (x ∷ xs) (y ∷ ys) =
    let n : ℕ = least_with x xs in
    let m : ℕ = least_with y ys in
    let a : min n m - time ≡ min (n - time) (m - time) = omega arith in
    ap (λ k. Some (k - time)) (least_with-append x y xs ys) ∙ ap Some a

pub earlier-assoc : (a b c : Option ℕ) → earlier (earlier a b) c ≡ earlier a (earlier b c)
earlier-assoc None b c = refl
earlier-assoc (Some n) None c = refl
earlier-assoc (Some n) (Some m) None = refl
earlier-assoc (Some n) (Some m) (Some k) = let a : min (min n m) k ≡ min n (min m k) = omega arith in ap Some a

pub earlier-none : (a : Option ℕ) → earlier a None ≡ a
earlier-none None = refl
earlier-none (Some n) = refl

pub earlier-comm : (a b : Option ℕ) → earlier a b ≡ earlier b a
earlier-comm None None = refl
earlier-comm None (Some m) = refl
earlier-comm (Some n) None = refl
earlier-comm (Some n) (Some m) = let e : min n m ≡ min m n = omega arith in ap Some e

earlier-self : (a : Option ℕ) → earlier a a ≡ a
earlier-self None = refl
earlier-self (Some n) = let e : min n n ≡ n = omega arith in ap Some e

-- the earliest of two lists
pub earliest-append : (xs ys : List ℕ) → earliest (xs ++ ys) ≡ earlier (earliest xs) (earliest ys)
earliest-append [] ys = refl
earliest-append (x ∷ xs) [] = ap earliest (append-nil (x ∷ xs))
earliest-append (x ∷ xs) (y ∷ ys) = ap Some (least_with-append x y xs ys)

-- of a list of one or none
pub earliest-one : (o : Option ℕ) → earliest (option_to_list o) ≡ o
earliest-one None = refl
earliest-one (Some n) = refl

-- of moments that two sides more have
pub firsts_more : (f : SideId → List ℕ) (first : Option ℕ) (a b : SideId) (es : List SideId) →
    earlier (earlier first (earlier (earliest (f a)) (earliest (f b)))) (earliest (flat_map f es))
    ≡ earlier first (earliest (flat_map f (a ∷ b ∷ es)))
firsts_more f first a b es =
    let x = earliest (f a) in
    let y = earliest (f b) in
    let z = earliest (flat_map f es) in
    earlier-assoc first (earlier x y) z
    ∙ ap (earlier first) (earlier-assoc x y z ∙ ap (earlier x) (sym (earliest-append (f b) (flat_map f es)))
    ∙ sym (earliest-append (f a) (flat_map f (b ∷ es))))

-- A moment that is not before one that counts already may be left out.
pub late-out : (f : SideId → List ℕ) (first : Option ℕ) (e : SideId) (es : List SideId) → earlier first (earliest (f e)) ≡ first →
    earlier first (earliest (flat_map f (e ∷ es))) ≡ earlier first (earliest (flat_map f es))
late-out f first e es late =
    let z = earliest (flat_map f es) in
    ap (earlier first) (earliest-append (f e) (flat_map f es)) ∙ sym (earlier-assoc first (earliest (f e)) z) ∙ ap (λ o. earlier o z) late

-- and it is not before one that counts once another does too
pub late-more : (late first more : Option ℕ) → earlier first late ≡ first → earlier (earlier first more) late ≡ earlier first more
late-more late first more is =
    earlier-assoc first more late ∙ ap (earlier first) (earlier-comm more late) ∙ sym (earlier-assoc first late more)
    ∙ ap (λ o. earlier o more) is

-- the moment of a side that is among them counts already
pub counted-in : (f : SideId → List ℕ) (m : ℕ) (e : SideId) (n from : ℕ) → from ≤ e.link → e.link < n → f e ≡ m ∷ [] →
    earlier (Some m) (earliest (flat_map f (sides_from from (n - from)))) ≡ earliest (flat_map f (sides_from from (n - from)))
counted-in f m e n from low below is = go (e.link - from) from (omega (arith, low)) e.side refl
  where
    total : ℕ → Option ℕ
    total k = earliest (flat_map f (sides_from k (n - k)))

    both : (k : ℕ) → k < n → total k ≡ earlier (earliest (f (in_side k))) (earlier (earliest (f (out_side k))) (total (k + 1)))
    both k lt =
        ap (λ es. earliest (flat_map f es)) (sides_from-more k n lt)
        ∙ earliest-append (f (in_side k)) (f (out_side k) ++ flat_map f (sides_from (k + 1) (n - (k + 1))))
        ∙ ap (earlier (earliest (f (in_side k)))) (earliest-append (f (out_side k)) (flat_map f (sides_from (k + 1) (n - (k + 1)))))

    swap : (a b c : Option ℕ) → earlier a (earlier b c) ≡ earlier b (earlier a c)
    swap a b c = sym (earlier-assoc a b c) ∙ ap (λ o. earlier o c) (earlier-comm a b) ∙ earlier-assoc b a c

    again : (a b : Option ℕ) → earlier a (earlier a b) ≡ earlier a b
    again a b = sym (earlier-assoc a a b) ∙ ap (λ o. earlier o b) (earlier-self a)

    own : earliest (f e) ≡ Some m
    own = ap earliest is

    at : (k : ℕ) → k < n → e.link ≡ k → (u : Side) → e.side ≡ u → earlier (Some m) (total k) ≡ total k
    at k lt here In side =
        let mine : earliest (f (in_side k)) ≡ Some m =
        ap (λ z. earliest (f z)) (λ i. record { link = sym here i; side = sym side i }) ∙ own in
        let rest = earlier (earliest (f (out_side k))) (total (k + 1)) in
        let sum : total k ≡ earlier (Some m) rest = both k lt ∙ ap (λ o. earlier o rest) mine in
        ap (earlier (Some m)) sum ∙ again (Some m) rest ∙ sym sum
    at k lt here Out side =
        let mine : earliest (f (out_side k)) ≡ Some m = ap (λ z. earliest (f z)) (λ i. record { link = sym here i; side = sym side i })
        ∙ own in
        let x = earliest (f (in_side k)) in
        let rest = earlier (Some m) (total (k + 1)) in
        let sum : total k ≡ earlier x rest = both k lt ∙ ap (λ o. earlier x (earlier o (total (k + 1)))) mine in
        ap (earlier (Some m)) sum ∙ swap (Some m) x rest ∙ ap (earlier x) (again (Some m) (total (k + 1))) ∙ sym sum

    go : (gap k : ℕ) → k + gap ≡ e.link → (u : Side) → e.side ≡ u → earlier (Some m) (total k) ≡ total k
    go zero k here u side = at k (omega (arith, here, below)) (omega (arith, here)) u side
    go (suc gap) k here u side =
        let lt : k < n = omega (arith, here, below) in
        let x = earliest (f (in_side k)) in
        let y = earliest (f (out_side k)) in
        let next = go gap (k + 1) (omega (arith, here)) u side in
        ap (earlier (Some m)) (both k lt) ∙ swap (Some m) x (earlier y (total (k + 1)))
        ∙ ap (earlier x) (swap (Some m) y (total (k + 1)) ∙ ap (earlier y) next) ∙ sym (both k lt)

-- the wait for both directions of a side
abbrev pub side_wait : State → SideId → Option ℕ
side_wait s e = wait_until s.plain.time (flat_map (expiry s e) both_ways)

module _ (s : State) where
  abbrev t : ℕ
  t = s.plain.time

  -- both directions of a side
  pub wait_both : (e : SideId) →
      earlier (wait_until s.plain.time (expiry s e dir.Read)) (wait_until s.plain.time (expiry s e dir.Write))
      ≡ side_wait s e
  wait_both e =
      let r : List ℕ = expiry s e dir.Read in
      let w : List ℕ = expiry s e dir.Write in
      ap (λ ws. earlier (wait_until t r) (wait_until t ws)) (sym (append-nil w)) ∙ sym (wait_until-append t r (w ++ []))

  -- two sides more, each with some moments
  module _ (f : SideId → List ℕ) where
    pub waits_more : (least : Option ℕ) (a b : SideId) (es : List SideId) →
        earlier (earlier least (earlier (wait_until s.plain.time (f a)) (wait_until s.plain.time (f b)))) (wait_until s.plain.time
        (flat_map f es))
        ≡ earlier least (wait_until s.plain.time (flat_map f (a ∷ b ∷ es)))
    waits_more least a b es =
        let x : List ℕ = f a in
        let y : List ℕ = f b in
        let z : List ℕ = flat_map f es in
        earlier-assoc least (earlier (wait_until t x) (wait_until t y)) (wait_until t z)
        ∙ ap (earlier least) (earlier-assoc (wait_until t x) (wait_until t y) (wait_until t z)
        ∙ ap (earlier (wait_until t x)) (sym (wait_until-append t y z)) ∙ sym (wait_until-append t x (y ++ z)))

  pub wait_more : (least : Option ℕ) (a b : SideId) (es : List SideId) →
      earlier (earlier least (earlier (side_wait s a) (side_wait s b))) (wait_until s.plain.time (expiries s es))
      ≡ earlier least (wait_until s.plain.time (expiries s (a ∷ b ∷ es)))
  wait_more least a b es = waits_more (λ e. flat_map (expiry s e) both_ways) least a b es

-- when groups gain again is told alike by what keeps them and by the state
pub gains-alike : (s : State) (n : ℕ) (xs : List GroupValue) →
    gains.waiting_gains s.plain.time n s.groups.members xs ≡ group_gains s n xs
gains-alike s n [] = refl
gains-alike s n (x ∷ xs) = ap (λ z. gains.waiting_gain s.plain.time (count_in n s.groups.members) x ++ z) (gains-alike s (n + 1) xs)

pub first-earliest : (xs : List ℕ) → gains.first_moment xs ≡ earliest xs
first-earliest [] = refl
first-earliest (x ∷ xs) = refl

-- A direction that is wanted and has a timeout may be idle for what is left of that.
pub wait-idle : (s : State) (e : SideId) (d : Dir) (idle timeout : ℕ) → is_timed (side_at s.plain e) d ≡ true → wants s e d ≡ true →
    last_activity (side_at s.plain e) d ≤ s.plain.time → idle ≡ s.plain.time - last_activity (side_at s.plain e) d →
    timeout ≡ timeout_of (side_at s.plain e) d → Some (timeout - idle) ≡ wait_until s.plain.time (expiry s e d)
wait-idle s e d idle timeout timed wanted past is most =
    let moment : ℕ = last_activity (side_at s.plain e) d + timeout_of (side_at s.plain e) d in
    let same : timeout - idle ≡ moment - s.plain.time = omega (arith, past, is, most) in
    let both : (is_timed (side_at s.plain e) d && wants s e d) ≡ true = λ i. timed i && wanted i in
    ap Some same ∙ sym (ap (λ b. wait_until s.plain.time (moment_where b moment)) both)
