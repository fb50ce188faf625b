-- Lines with one key stand side by side where lines are sorted.
use Rattle.std.proofs.Common.{◌≡◌, ℕ, suc, ◌+◌, ◌*◌, ◌<◌, ◌≤◌, Bool, true, false, ◌==◌, ◌&&◌, List, [], ◌∷◌, ◌++◌, length, take, drop, get_or, None}
use Rattle.std.proofs.Common.{refl, sym, ◌∙◌, ap, subst, cond, ltb, leb, arith, append-nil}
use Rattle.std.specs.Prelude.{filter}
use Rattle.std.specs.List.{AllWithin}
use Rattle.std.specs.List.Sorted.{IsPartitionPoint, IsStableByKey, ties}
use Rattle.std.specs.Ordering.{is_lt, nat_cmp}
use Rattle.std.proofs.lemmas.Bool.Decides.{nat_tests}
use Rattle.std.proofs.lemmas.List.{get_or-take, get_or-drop, length-take-le, length-drop, take-append-drop}
use Rattle.std.proofs.lemmas.List.Elements.{filter-append, filter_agree}
use Rattle.ev_types.specs.declared.plan_line.PlanLine.{PlanLine}
use Rattle.ev_types.specs.declared.why.WhyKind.{WhyKind}
use Rattle.ev_types.specs.declared.why.WhyKind.TheVariants as kind
use Rattle.relay_model.specs.Plans.{same_kind}
use Rattle.script_hook.specs.Keys.{key_at, line_key, rank}
use Rattle.script_hook.specs.Planning.{is_at}

-- A fire has a key of its own

few-ranks : (k : WhyKind) → rank k < 8
few-ranks kind.Connected = omega arith
few-ranks kind.Read = omega arith
few-ranks kind.Write = omega arith
few-ranks kind.Timer = omega arith
few-ranks kind.Event = omega arith

same-rank : (a b : WhyKind) → same_kind a b ≡ (rank a == rank b)
same-rank kind.Connected kind.Connected = refl
same-rank kind.Read kind.Read = refl
same-rank kind.Write kind.Write = refl
same-rank kind.Timer kind.Timer = refl
same-rank kind.Event kind.Event = refl
same-rank _ _ = refl

same-number : (r s x y : ℕ) → r < 8 → s < 8 → (r == s && x == y) ≡ (8 * x + r == 8 * y + s)
same-number r s x y p q = grind (arith, nat_tests)

at-key : (k : WhyKind) (n : ℕ) (line : PlanLine) → is_at k n line ≡ (line_key line == key_at k n)
at-key k n line = ap (λ b. b && line.nth == n) (same-rank line.why k) ∙ same-number (rank line.why) (rank k) line.nth n
    (few-ranks line.why) (few-ranks k)

ties-number : (x y : ℕ) → ties (λ a b. is_lt (nat_cmp a b)) x y ≡ (y == x)
ties-number x y = grind (arith, nat_tests)

-- a stable sort leaves those for one fire as they were
pub same-sorted : (k : WhyKind) (n : ℕ) (xs ys : List PlanLine) → IsStableByKey line_key nat_cmp xs ys →
    filter (is_at k n) ys ≡ filter (is_at k n) xs
same-sorted k n xs ys h =
    let x : PlanLine = record { why = k; nth = n; act = None } in
    let tie : PlanLine → Bool = ties (λ a b. is_lt (nat_cmp (line_key a) (line_key b))) x in
    let agree : (line : PlanLine) → is_at k n line ≡ tie line = λ line. at-key k n line ∙ sym (ties-number (key_at k n) (line_key line)) in
    filter_agree (is_at k n) tie agree ys ∙ h x ∙ sym (filter_agree (is_at k n) tie agree xs)

-- What a filter keeps

filter-none : {X : Type 0} (p : X → Bool) (xs : List X) → ((k : ℕ) (d : X) → k < length xs → p (get_or xs k d) ≡ false) → filter p xs ≡ []
filter-none p [] h = refl
filter-none p (x ∷ xs) h =
    ap (λ b. cond b (x ∷ filter p xs) (filter p xs)) (h 0 x (omega arith)) ∙ filter-none p xs (λ k d w. h (suc k) d (omega (arith, w)))

filter-all : {X : Type 0} (p : X → Bool) (xs : List X) → ((k : ℕ) (d : X) → k < length xs → p (get_or xs k d) ≡ true) → filter p xs ≡ xs
filter-all p [] h = refl
filter-all p (x ∷ xs) h =
    ap (λ b. cond b (x ∷ filter p xs) (filter p xs)) (h 0 x (omega arith))
    ∙ ap (λ z. x ∷ z) (filter-all p xs (λ k d w. h (suc k) d (omega (arith, w))))

not-below : (x t : ℕ) → ltb x t ≡ true → (x == t) ≡ false
not-below x t h = grind (arith, nat_tests)

not-above : (x t : ℕ) → leb x t ≡ false → (x == t) ≡ false
not-above x t h = grind (arith, nat_tests)

between : (x t : ℕ) → ltb x t ≡ false → leb x t ≡ true → (x == t) ≡ true
between x t h k = grind (arith, nat_tests)

-- from the first that is not below to the first behind it that is above
here-is : {X : Type 0} (key : X → ℕ) (t : ℕ) (xs : List X) (low many : ℕ) → low ≤ length xs → many ≤ length (drop low xs)
    → AllWithin (λ y. ltb (key y) t ≡ true) xs 0 low → AllWithin (λ y. ltb (key y) t ≡ false) xs low (length xs)
    → AllWithin (λ y. leb (key y) t ≡ true) (drop low xs) 0 many → AllWithin
    (λ y. leb (key y) t ≡ false) (drop low xs) many (length (drop low xs))
    → filter (λ y. key y == t) xs ≡ take many (drop low xs)
here-is {X} key t xs low many within few below rest upto above =
    let p : X → Bool = λ y. key y == t in
    let ys : List X = drop low xs in
    let n = length-take-le low xs within in
    let m = length-take-le many ys few in
    let l = length-drop low xs in
    let j = length-drop many ys in
    let first : filter p (take low xs) ≡ [] =
    filter-none p (take low xs) (λ k d w. let u : k < low = omega (arith, n, w) in rw (get_or-take low xs k d u)
    (not-below (key (get_or xs k d)) t (below k d (omega arith) u))) in
    let last : filter p (drop many ys) ≡ [] =
    filter-none p (drop many ys) (λ k d w. rw (get_or-drop many ys k d)
    (not-above (key (get_or ys (many + k) d)) t (above (many + k) d (omega arith) (omega (arith, j, w))))) in
    let mid : filter p (take many ys) ≡ take many ys =
    filter-all p (take many ys) (λ k d w. let u : k < many = omega (arith, m, w) in rw (get_or-take many ys k d u)
    (between (key (get_or ys k d)) t
    (rw (get_or-drop low xs k d) (rest (low + k) d (omega arith) (omega (arith, u, few, l, within)))) (upto k d (omega arith) u))) in
    ap (filter p) (sym (take-append-drop low xs)) ∙ filter-append p (take low xs) ys
    ∙ ap (λ z. z ++ filter p ys) first
    ∙ ap (filter p) (sym (take-append-drop many ys)) ∙ filter-append p (take many ys) (drop many ys)
    ∙ (λ i. mid i ++ last i) ∙ append-nil (take many ys)

-- those of sorted lines that are for one fire
pub lines-here : (k : WhyKind) (n at : ℕ) (xs ys here : List PlanLine) (low many : ℕ) → at ≡ key_at k n → low ≤ length xs →
    many ≤ length ys → ys ≡ drop low xs
    → here ≡ take many ys → IsPartitionPoint (λ y. ltb (line_key y) at ≡ true) (λ y. ltb (line_key y) at ≡ false) xs low
    → IsPartitionPoint (λ y. leb (line_key y) at ≡ true) (λ y. leb (line_key y) at ≡ false) ys many → here ≡ filter (is_at k n) xs
lines-here k n at xs ys here low many key within few back front h j =
    let f : many ≤ length (drop low xs) = subst (λ z. many ≤ length z) back few in
    let m = subst (λ z. IsPartitionPoint (λ y. leb (line_key y) at ≡ true) (λ y. leb (line_key y) at ≡ false) z many) back j in
    front ∙ ap (take many) back ∙ sym (here-is line_key at xs low many within f h.0 h.1 m.0 m.1)
    ∙ ap (λ z. filter (λ y. line_key y == z) xs) key
    ∙ sym (filter_agree (is_at k n) (λ y. line_key y == key_at k n) (at-key k n) xs)
