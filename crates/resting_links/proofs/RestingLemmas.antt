-- Moments that are taken, and links that are watched one after the other.
use Rattle.std.specs.Prelude.{slice_set, if◌then◌else◌, nat_le, ◌||◌, ◌*◌, ◌+◌}
use Rattle.std.proofs.Common.{◌≡◌, ◌≢◌, ℕ, zero, suc, ◌/◌, ◌<◌, ◌≤◌, ◌==◌, Bool, true, false, List, [], ◌∷◌, length}
use Rattle.std.proofs.Common.{Option, Some, None, inl, inr, refl, sym, ◌∙◌, ap, subst, arith}
use Rattle.std.proofs.lemmas.Bool.Decides.{eqb_tells, leb_tells}
use Rattle.ev_types.specs.declared.side.Side.{Side}
use Rattle.ev_types.specs.declared.side.Side.TheVariants.{In, Out}
use Rattle.ev_types.specs.declared.side.SideId.{SideId}
use Rattle.ev_types.specs.Sides.{number, half}
use Rattle.next_moments.specs.Earliest.{moment_for, NoneIsDue}
use Rattle.resting_links.specs.RestingValue.{RestingValue, Wakes, has_come, link_has_come}

pub wakes-none : (r : RestingValue) → Wakes r r
wakes-none r = record { len = refl; places = refl; grew = λ n out. out; kept = λ e out. refl; none = λ i is. is }

pub wakes-then : {a b c : RestingValue} → Wakes a b → Wakes b c → Wakes a c
wakes-then p q = record {
  len = q.len ∙ p.len;
  places = q.places ∙ p.places;
  grew = λ n out. p.grew n (q.grew n out);
  kept = λ e out. q.kept e out ∙ p.kept e (q.grew e.link out);
  none = λ i is. q.none i (p.none i is);
}

-- the side of a number
pub record Numbered (i : ℕ) : Type 0 where
  pub of : SideId
  pub at : number of ≡ i

pub numbered : (i : ℕ) → Numbered i
numbered zero = record { of = record { link = 0; side = In }; at = refl }
numbered (suc zero) = record { of = record { link = 0; side = Out }; at = refl }
numbered (suc (suc i)) =
    let p = numbered i in
    record { of = record { link = suc p.of.link; side = p.of.side }; at = (let at = p.at in omega (arith, at)) }

pub half-below : (x : Side) → half x < 2
half-below In = omega arith
half-below Out = omega arith

-- the link of the side of a number
pub link-of : (e : SideId) (i : ℕ) → number e ≡ i → e.link ≡ i / 2
link-of e i is = let low = half-below e.side in omega (arith, is, low)

-- How many numbers have a moment.

pub left : List (Option ℕ) → ℕ
left [] = 0
left (None ∷ xs) = left xs
left (Some m ∷ xs) = suc (left xs)

pub left-fewer : (xs ys : List (Option ℕ)) → length ys ≡ length xs →
    ((i : ℕ) → moment_for xs i ≡ None → moment_for ys i ≡ None) → left ys ≤ left xs
unfolding left
left-fewer [] [] len none = omega arith
left-fewer [] (y ∷ ys) len none = absurd (omega (arith, len))
left-fewer (x ∷ xs) [] len none = absurd (omega (arith, len))
left-fewer (None ∷ xs) (None ∷ ys) len none = left-fewer xs ys (omega (arith, len)) (λ i. none (suc i))
left-fewer (None ∷ xs) (Some m ∷ ys) len none = absurd (let wrong : Some m ≡ None = none 0 refl in cc)
left-fewer (Some n ∷ xs) (None ∷ ys) len none =
    let less = left-fewer xs ys (omega (arith, len)) (λ i. none (suc i)) in omega (arith, less)
left-fewer (Some n ∷ xs) (Some m ∷ ys) len none =
    let less = left-fewer xs ys (omega (arith, len)) (λ i. none (suc i)) in omega (arith, less)

pub left-taken : (xs : List (Option ℕ)) (i m : ℕ) → moment_for xs i ≡ Some m → left (slice_set xs i None) < left xs
unfolding left
left-taken [] i m is = absurd (let wrong : None ≡ Some m = is in cc)
left-taken (None ∷ xs) zero m is = absurd (let wrong : None ≡ Some m = is in cc)
left-taken (Some n ∷ xs) zero m is = omega arith
left-taken (None ∷ xs) (suc i) m is = left-taken xs i m is
left-taken (Some n ∷ xs) (suc i) m is = let less = left-taken xs i m is in omega (arith, less)

-- A moment was taken, and then the link of its side is watched.
pub woken : (a b c : RestingValue) (i : ℕ) → b.watched ≡ a.watched → length b.moments ≡ length a.moments →
    ((n : ℕ) → moment_for b.moments n ≡ (if n == i then None else moment_for a.moments n)) → Wakes b c →
    c.watched.has (i / 2) ≡ true → Wakes a c
woken a b c i same len taken p there = record {
  len = p.len ∙ ap (λ s. s.len) same;
  places = p.places ∙ len;
  grew = λ n out. sym (ap (λ s. s.has n) same) ∙ p.grew n out;
  kept = λ e out.
      let apart : number e ≢ i = (λ is. absurd (let wrong : true ≡ false = sym there ∙ ap c.watched.has (sym (link-of e i is)) ∙
      out in cc)) in
      p.kept e out ∙ taken (number e) ∙ other (number e) apart;
  none = λ n is. p.none n (taken n ∙ gone n is);
}
  where
    other : (n : ℕ) → n ≢ i → (if n == i then None else moment_for a.moments n) ≡ moment_for a.moments n
    other n apart = elim (eqb_tells n i) [
      | inl here ↦ absurd (apart here.1)
      | inr there ↦ ap (λ c. if c then None else moment_for a.moments n) there.0
    ]

    gone : (n : ℕ) → moment_for a.moments n ≡ None → (if n == i then None else moment_for a.moments n) ≡ None
    gone n is = by (n == i)
      where
        by : (c : Bool) → (if c then None else moment_for a.moments n) ≡ None
        by true = refl
        by false = is

pub or-false : (b : Bool) → b || false ≡ b
or-false false = refl
or-false true = refl

or-true : (b : Bool) → b || true ≡ true
or-true false = refl
or-true true = refl

-- What is watched or due stays, as a moment that came is taken and the link of its side is watched.
pub due-woken : (a b c : RestingValue) (i m time : ℕ) → b.watched ≡ a.watched →
    ((n : ℕ) → moment_for b.moments n ≡ (if n == i then None else moment_for a.moments n)) → Wakes b c →
    ((n : ℕ) → c.watched.has n ≡ (if n == i / 2 then true else b.watched.has n)) →
    moment_for a.moments i ≡ Some m → nat_le m time ≡ true → (n : ℕ) →
    c.watched.has n || link_has_come c time n ≡ a.watched.has n || link_has_come a time n
due-woken a b c i m time same taken p has stands came n = elim (eqb_tells n (i / 2)) [
  | inl here ↦ ap (λ x. x || link_has_come c time n) (has n ∙ ap (λ z. if z then true else b.watched.has n) here.0)
      ∙ sym (ap (λ x. a.watched.has n || x) (own here.1) ∙ or-true (a.watched.has n))
  | inr there ↦ other there.1 (has n ∙ ap (λ z. if z then true else b.watched.has n) there.0 ∙ ap (λ s. s.has n) same)
]
  where
    comes : (k : ℕ) → i ≡ k → has_come (moment_for a.moments k) time ≡ true
    comes k at = ap (λ j. has_come (moment_for a.moments j) time) (sym at) ∙ ap (λ o. has_come o time) stands ∙ came

    own : n ≡ i / 2 → link_has_come a time n ≡ true
    own at = elim (eqb_tells i (2 * n)) [
      | inl even ↦ ap (λ x. x || has_come (moment_for a.moments (2 * n + 1)) time) (comes (2 * n) even.1)
      | inr odd ↦ ap (λ x. has_come (moment_for a.moments (2 * n)) time || x)
          (comes (2 * n + 1) (let apart = odd.1 in omega (arith, at, apart)))
          ∙ or-true (has_come (moment_for a.moments (2 * n)) time)
    ]

    -- a side of another link that is not watched has the moment that it had
    stays : n ≢ i / 2 → c.watched.has n ≡ false → (x : Side) (k : ℕ) → 2 * n + half x ≡ k → has_come (moment_for c.moments k) time
        ≡ has_come (moment_for a.moments k) time
    stays apart out x k at = ap (λ o. has_come o time) (subst (λ j. moment_for c.moments j ≡ moment_for a.moments j)
        (let low = half-below x in omega (arith, at))
        (has_moment x out apart))
      where
        has_moment : (x : Side) → c.watched.has n ≡ false → n ≢ i / 2 →
            moment_for c.moments (number (record { link = n; side = x })) ≡ moment_for a.moments (number (record { link = n; side = x }))
        has_moment x out apart =
            let e : SideId = record { link = n; side = x } in
            p.kept e out ∙ taken (number e) ∙ elim (eqb_tells (number e) i) [
              | inl here ↦ absurd (apart (link-of e i here.1))
              | inr there ↦ ap (λ z. if z then None else moment_for a.moments (number e)) there.0
            ]

    other : n ≢ i / 2 → c.watched.has n ≡ a.watched.has n →
        c.watched.has n || link_has_come c time n ≡ a.watched.has n || link_has_come a time n
    other apart is = by (c.watched.has n) refl
      where
        by : (w : Bool) → c.watched.has n ≡ w → c.watched.has n || link_has_come c time n ≡ a.watched.has n || link_has_come a time n
        by true e = ap (λ x. x || link_has_come c time n) e ∙ sym (ap (λ x. x || link_has_come a time n) (sym is ∙ e))
        by false e = ap (λ x. x || link_has_come c time n) e
            ∙ ap (λ x. x || has_come (moment_for c.moments (2 * n + 1)) time) (stays apart e In (2 * n) (omega arith))
            ∙ ap (λ x. has_come (moment_for a.moments (2 * n)) time || x) (stays apart e Out (2 * n + 1) (omega arith))
            ∙ sym (ap (λ x. x || link_has_come a time n) (sym is ∙ e))

-- and once none is due any more
pub none-due : (r : RestingValue) (time : ℕ) → NoneIsDue r.moments time → (n : ℕ) → link_has_come r time n ≡ false
none-due r time none n =
    ap (λ x. x || has_come (moment_for r.moments (2 * n + 1)) time) (not_yet (2 * n)) ∙ not_yet (2 * n + 1)
  where
    not_yet : (k : ℕ) → has_come (moment_for r.moments k) time ≡ false
    not_yet k = by (moment_for r.moments k) refl
      where
        by : (o : Option ℕ) → moment_for r.moments k ≡ o → has_come o time ≡ false
        by None e = refl
        by (Some m) e = elim (leb_tells m time) [
          | inl le ↦ absurd (let late = none k m e in let soon = le.1 in omega (arith, late, soon))
          | inr gt ↦ gt.0
        ]
