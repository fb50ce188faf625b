-- The walks over a table, from one side that wants something or can do it to the next.
use Rattle.std.proofs.Common.{◌≡◌, ◌∙◌, ℕ, zero, suc, ◌+◌, ◌*◌, ◌<◌, ◌≤◌, min, Bool, true, false, cond, ◌&&◌, ◌||◌, List, [], ◌∷◌, ◌++◌}
use Rattle.std.proofs.Common.{map, length, refl, sym, ap, subst, arith, inl, inr, add-one, append-nil}
use Rattle.std.specs.Prelude.{filter}
use Rattle.std.specs.List.{list_any}
use Rattle.std.proofs.lemmas.Bool.{cases_Bool, cases_eq, and_parts, or_cases, or_left, or_right, or_from, both_ways}
use Rattle.std.proofs.lemmas.List.{map-append}
use Rattle.std.proofs.lemmas.List.Elements.{filter-append}
use Rattle.std.proofs.lemmas.List.Folds.{list_any-append}
use Rattle.ev_types.specs.Sides.{number}
use Rattle.number_set.specs.Next.{in_either, IsLeast, IsGreatest}
use Rattle.number_set.specs.Numbers.{NumberSetValue}
use Rattle.number_set.specs.Walks.{WalkValue, walked}
use Rattle.ev_port.specs.declared.port.Want.{Want}
use Rattle.ev_port.specs.Marking.{marks_by, after_marks}
use Rattle.ev_port.specs.Table.{WantsValue, row_by, row, wants_some, is_marked, is_ready_by, marked_by, rows_before, named_before, named}
use Rattle.ev_port.specs.Table.{NextWant, PreviousWant}
use Rattle.ev_port.proofs.NamedLemmas.{number-side_of, named-some, named-skip, stays_between}

-- What a number in both sets of one side says of its row

twice : (a b : Bool) → ((a && a) || (b && b)) ≡ (a || b)
twice true b = refl
twice false true = refl
twice false false = refl

pub either-same : (r w : ℕ → Bool) (n : ℕ) → in_either r r w w n ≡ wants_some (row_by r w n)
either-same r w n = twice (r n) (w n)

pub either-marked : (r w : ℕ → Bool) (x y : NumberSetValue) (n : ℕ) → in_either r x.has w y.has n ≡ is_marked (marked_by x y (row_by r w n))
either-marked r w x y n = ap (λ m. (r n && x.has m) || (w n && y.has m)) (sym (number-side_of n))

-- none of the sets has a number from the end on
pub either-within : (r s w t : ℕ → Bool) (end n : ℕ) → (end ≤ n → r n ≡ false) → (end ≤ n → w n ≡ false)
    → in_either r s w t n ≡ true → n < end
either-within r s w t end n a b h = elim (or_cases (r n && s n) (w n && t n) h) [
  | inl p ↦ (let q = and_parts (r n) (s n) p in omega (arith, λ (l : end ≤ n). both_ways (r n) (a l) q.0))
  | inr p ↦ (let q = and_parts (w n) (t n) p in omega (arith, λ (l : end ≤ n). both_ways (w n) (b l) q.0))
]

pub marked-wants : (x y : NumberSetValue) (w : Want) → is_marked (marked_by x y w) ≡ true → wants_some w ≡ true
marked-wants x y w h = elim (or_cases (w.read && x.has (number w.side)) (w.write && y.has (number w.side)) h) [
  | inl p ↦ or_left w.read w.write (and_parts w.read (x.has (number w.side)) p).0
  | inr p ↦ or_right w.read w.write (and_parts w.write (y.has (number w.side)) p).0
]

-- From want to want

pub rows-found : (r w : ℕ → Bool) (from n : ℕ) → IsLeast (in_either r r w w) from n
    → rows_before r w (n + 1) ≡ rows_before r w from ++ row_by r w n ∷ []
rows-found r w from n h =
    named-some r w n (sym (either-same r w n) ∙ h.passes)
    ∙ ap (λ ws. ws ++ row_by r w n ∷ []) (named-skip r w from n h.reached (λ k a b. sym (either-same r w k) ∙ h.none_before k a b))

pub rows-all : (r w : ℕ → Bool) (from to : ℕ) → from ≤ to → ((k : ℕ) → from ≤ k → in_either r r w w k ≡ false)
    → rows_before r w to ≡ rows_before r w from
rows-all r w from to l h = named-skip r w from to l (λ k a b. sym (either-same r w k) ∙ h k a)

-- The walk over two sets, from where it stands on
abbrev pub walk_at : (first second third fourth : NumberSetValue) → ℕ → WalkValue
walk_at first second third fourth from = record { first = first; second = second; third = third; fourth = fourth; from = from }

pub walk-next : (v : WalkValue) (a b c d : NumberSetValue) (from n : ℕ) → v ≡ walk_at a b c d from → IsLeast (walked v) v.from n
    → IsLeast (in_either a.has b.has c.has d.has) from n
walk-next v a b c d from n same h = subst (λ u. IsLeast (walked u) u.from n) same h

pub walk-end : (v : WalkValue) (a b c d : NumberSetValue) (from : ℕ) → v ≡ walk_at a b c d from
    → ((k : ℕ) → v.from ≤ k → walked v k ≡ false) → (k : ℕ) → from ≤ k → in_either a.has b.has c.has d.has k ≡ false
walk-end v a b c d from same h = subst (λ u. (k : ℕ) → u.from ≤ k → walked u k ≡ false) same h

pub walk-from : (v u : WalkValue) (n : ℕ) → u ≡ record v { from = n + 1 } → u.from ≡ n + 1
walk-from v u n behind = ap (λ (x : WalkValue). x.from) behind

pub walk-behind : (v u : WalkValue) (a b c d : NumberSetValue) (n : ℕ) → v ≡ walk_at a b c d v.from → u ≡ record v { from = n + 1 }
    → u ≡ walk_at a b c d u.from
walk-behind v u a b c d n same behind =
    behind ∙ ap (λ (x : WalkValue). record x { from = n + 1 }) same ∙ ap (walk_at a b c d) (sym (walk-from v u n behind))

-- One want more

pub marks-more : {M : Type 0} (marked : M → Want → Want) (after : M → Want → M) (m : M) (ws : List Want) (w : Want)
    → marks_by marked after m (ws ++ w ∷ []) ≡ marks_by marked after m ws ++ marked (after_marks after m ws) w ∷ []
marks-more marked after m [] w = refl
marks-more marked after m (x ∷ ws) w = ap (λ ms. marked m x ∷ ms) (marks-more marked after (after m x) ws w)

pub after-more : {M : Type 0} (after : M → Want → M) (m : M) (ws : List Want) (w : Want)
    → after_marks after m (ws ++ w ∷ []) ≡ after (after_marks after m ws) w
after-more after m [] w = refl
after-more after m (x ∷ ws) w = after-more after (after m x) ws w

pub length-one : (p : Want → Bool) (w : Want) → length (filter p (w ∷ [])) ≤ 1
length-one p w = elim (cases_Bool (p w)) [
  | inl b ↦ (let e = ap (λ q. length (cond q (w ∷ []) [])) b in omega (arith, e))
  | inr b ↦ (let e = ap (λ q. length (cond q (w ∷ []) [])) b in omega (arith, e))
]

-- From mark to mark

abbrev pub marked_before : (r w : ℕ → Bool) → NumberSetValue → NumberSetValue → ℕ → List Want
marked_before r w x y n = filter is_marked (map (marked_by x y) (rows_before r w n))

one-marked : (m : Want → Want) (x : Want) (b c : Bool) → wants_some x ≡ b → is_marked (m x) ≡ c
    → filter is_marked (map m (filter wants_some (x ∷ []))) ≡ cond b (cond c (m x ∷ []) []) []
one-marked m x true c h g = ap (λ q. filter is_marked (map m (cond q (x ∷ []) []))) h ∙ ap (λ q. cond q (m x ∷ []) []) g
one-marked m x false c h g = ap (λ q. filter is_marked (map m (cond q (x ∷ []) []))) h

marked-more : (r w : ℕ → Bool) (x y : NumberSetValue) (n : ℕ) → marked_before r w x y (n + 1)
    ≡ marked_before r w x y n ++ filter is_marked (map (marked_by x y) (filter wants_some (row_by r w n ∷ [])))
marked-more r w x y n =
    let m = marked_by x y in
    ap (marked_before r w x y) (add-one n)
    ∙ ap (filter is_marked) (map-append m (rows_before r w n) (filter wants_some (row_by r w n ∷ [])))
    ∙ filter-append is_marked (map m (rows_before r w n)) (map m (filter wants_some (row_by r w n ∷ [])))

marked-none : (r w : ℕ → Bool) (x y : NumberSetValue) (n : ℕ) → is_marked (marked_by x y (row_by r w n)) ≡ false
    → marked_before r w x y (n + 1) ≡ marked_before r w x y n
marked-none r w x y n h =
    let m = marked_by x y in
    marked-more r w x y n
    ∙ ap (λ ws. marked_before r w x y n ++ ws) (elim (cases_Bool (wants_some (row_by r w n))) [
      | inl b ↦ one-marked m (row_by r w n) true false b h
      | inr b ↦ one-marked m (row_by r w n) false false b h
    ])
    ∙ append-nil (marked_before r w x y n)

marked-some : (r w : ℕ → Bool) (x y : NumberSetValue) (n : ℕ) → is_marked (marked_by x y (row_by r w n)) ≡ true
    → marked_before r w x y (n + 1) ≡ marked_before r w x y n ++ marked_by x y (row_by r w n) ∷ []
marked-some r w x y n h =
    marked-more r w x y n
    ∙ ap (λ ws. marked_before r w x y n ++ ws) (one-marked (marked_by x y) (row_by r w n) true true (marked-wants x y (row_by r w n) h) h)

pub marked-found : (r w : ℕ → Bool) (x y : NumberSetValue) (from n : ℕ) → IsLeast (in_either r x.has w y.has) from n
    → marked_before r w x y (n + 1) ≡ marked_before r w x y from ++ marked_by x y (row_by r w n) ∷ []
marked-found r w x y from n h =
    marked-some r w x y n (sym (either-marked r w x y n) ∙ h.passes)
    ∙ ap (λ ws. ws ++ marked_by x y (row_by r w n) ∷ []) (stays_between (marked_before r w x y) from n h.reached
    (λ k a b. marked-none r w x y k (sym (either-marked r w x y k) ∙ h.none_before k a b)))

pub marked-all : (r w : ℕ → Bool) (x y : NumberSetValue) (from to : ℕ) → from ≤ to
    → ((k : ℕ) → from ≤ k → in_either r x.has w y.has k ≡ false)
    → marked_before r w x y to ≡ marked_before r w x y from
marked-all r w x y from to l h =
    stays_between (marked_before r w x y) from to l (λ k a b. marked-none r w x y k (sym (either-marked r w x y k) ∙ h k a))

-- Whether there is one

one-any : (p : Want → Bool) (x : Want) (b : Bool) → wants_some x ≡ b → list_any p (filter wants_some (x ∷ [])) ≡ (b && (p x || false))
one-any p x true h = ap (λ q. list_any p (cond q (x ∷ []) [])) h
one-any p x false h = ap (λ q. list_any p (cond q (x ∷ []) [])) h

any-more : (p : Want → Bool) (r w : ℕ → Bool) (n : ℕ) → list_any p (rows_before r w (suc n))
    ≡ (list_any p (rows_before r w n) || list_any p (filter wants_some (row_by r w n ∷ [])))
any-more p r w n = list_any-append p (rows_before r w n) (filter wants_some (row_by r w n ∷ []))

any-none : (p : Want → Bool) (r w : ℕ → Bool) (n : ℕ) → ((k : ℕ) → k < n → p (row_by r w k) ≡ false)
    → list_any p (rows_before r w n) ≡ false
any-none p r w zero h = refl
any-none p r w (suc n) h = any-more p r w n ∙ or_from _ _ (any-none p r w n (λ k l. h k (omega (arith, l))))
    (elim (cases_Bool (wants_some (row_by r w n))) [
      | inl b ↦ one-any p (row_by r w n) true b ∙ ap (λ q. q || false) (h n (omega arith))
      | inr b ↦ one-any p (row_by r w n) false b
    ])

any-some : (p : Want → Bool) (r w : ℕ → Bool) (at n : ℕ) → at < n → wants_some (row_by r w at) ≡ true → p (row_by r w at) ≡ true
    → list_any p (rows_before r w n) ≡ true
any-some p r w at zero l a b = absurd (omega (arith, l))
any-some p r w at (suc n) l a b = any-more p r w n ∙ elim (cases_eq at n) [
  | inl e ↦ or_right (list_any p (rows_before r w n)) _
      (ap (λ k. list_any p (filter wants_some (row_by r w k ∷ []))) (sym e) ∙ one-any p (row_by r w at) true a ∙ ap (λ q. q || false) b)
  | inr e ↦ or_left (list_any p (rows_before r w n)) _ (any-some p r w at n (omega (arith, l, e)) a b)
]

pub ready-none : (r w : ℕ → Bool) (x y : NumberSetValue) (n : ℕ) → ((k : ℕ) → 0 ≤ k → in_either r x.has w y.has k ≡ false)
    → list_any (is_ready_by x y) (rows_before r w n) ≡ false
ready-none r w x y n h = any-none (is_ready_by x y) r w n (λ k l. sym (either-marked r w x y k) ∙ h k (omega arith))

pub ready-some : (r w : ℕ → Bool) (x y : NumberSetValue) (from at n : ℕ) → at < n → IsLeast (in_either r x.has w y.has) from at
    → list_any (is_ready_by x y) (rows_before r w n) ≡ true
ready-some r w x y from at n l h =
    let m = sym (either-marked r w x y at) ∙ h.passes in
    any-some (is_ready_by x y) r w at n l (marked-wants x y (row_by r w at) m) m

-- The next want of a table, and the one before

module _ (t : WantsValue) where
  abbrev some_wants : ℕ → Bool
  some_wants = in_either t.reads t.reads t.writes t.writes

  within : (n : ℕ) → some_wants n ≡ true → n < 2 * t.links
  within n h = either-within t.reads t.reads t.writes t.writes (2 * t.links) n (t.reads_end n) (t.writes_end n) h

  pub next-none : (from : ℕ) → ((k : ℕ) → from ≤ k → some_wants k ≡ false) → named t ≡ named_before t (min from (2 * t.links))
  next-none from h = rows-all t.reads t.writes (min from (2 * t.links)) (2 * t.links) (omega arith)
      (λ k a. elim (cases_Bool (some_wants k)) [
        | inl b ↦ absurd (let l = within k b in both_ways (some_wants k) (h k (omega (arith, a, l))) b)
        | inr b ↦ b
      ])

  pub next-some : (from n : ℕ) → IsLeast some_wants from n → NextWant t from (row t n)
  next-some from n h =
      let e = number-side_of n in
      let reached = h.reached in
      let below = within n h.passes in
      record {
        behind = omega (arith, e, reached);
        within = omega (arith, e, below);
        named = ap (λ m. named_before t (m + 1)) e ∙ rows-found t.reads t.writes from n h;
      }

  pub previous-none : (before : ℕ) → ((k : ℕ) → k < before → some_wants k ≡ false) → named_before t before ≡ []
  previous-none before h = named-skip t.reads t.writes 0 before (omega arith) (λ k a b. sym (either-same t.reads t.writes k) ∙ h k b)

  pub previous-some : (before n : ℕ) → IsGreatest some_wants before n → PreviousWant t before (row t n)
  previous-some before n h =
      let e = number-side_of n in
      let first = h.below in
      let below = within n h.passes in
      record {
        below = omega (arith, e, first);
        within = omega (arith, e, below);
        named =
            named-skip t.reads t.writes (n + 1) before (omega (arith, first))
            (λ k a b. sym (either-same t.reads t.writes k) ∙ h.none_after k (omega (arith, a)) b)
            ∙ named-some t.reads t.writes n (sym (either-same t.reads t.writes n) ∙ h.passes)
            ∙ ap (λ m. named_before t m ++ row t n ∷ []) (sym e);
      }
