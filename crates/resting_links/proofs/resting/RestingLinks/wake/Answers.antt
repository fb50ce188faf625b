use Rattle.std.proofs.Common.{◌≡◌, ◌≤◌, ◌<◌, ℕ, ◌∙◌, Option, Some, None, ap, sym, subst, refl, arith, List}
use Rattle.std.specs.Prelude.{IsSomeAnd, if◌then◌else◌, ◌||◌, nat_le}
use Rattle.std.proofs.Common.{true, inl, inr}
use Rattle.std.proofs.lemmas.Bool.Decides.{leb_tells}
use Rattle.next_moments.specs.Earliest.{moment_for, IsEarliest, IsEarliestDue, taken_from, is_taken}
use Rattle.resting_links.specs.RestingValue.{RestingValue, Wakes, link_has_come}
use Rattle.resting_links.specs.RestingView.{resting_of}
use Rattle.resting_links.proofs.RestingLemmas.{left, left-fewer, left-taken, woken, wakes-then, due-woken, none-due, or-false}
use Rattle.resting_links.proofs.resting.RestingLinks.wake.Goals as goal

pub watch-requires : goal.watch-requires
watch-requires c =
    let within = c.in-Some.ensures.within in
    let covers = c.self.invariant.covers in
    let pairs = c.self.invariant.pairs in
    let len = c.take_due.ensures.len in
    (omega (arith, within, covers, len), omega (arith, within, pairs, len))

-- a number that is due has a moment, and one has fewer without it
less : (xs ys : List (Option ℕ)) (time i : ℕ) → IsEarliestDue xs time i → ys ≡ taken_from (Some i) xs → left ys < left xs
less xs ys time i due is = subst (λ z. left z < left xs) (sym is) (by (moment_for xs i) refl due)
  where
    by : (o : Option ℕ) → moment_for xs i ≡ o → IsSomeAnd o (λ m. IsEarliest xs i m × (m ≤ time)) →
        left (taken_from (Some i) xs) < left xs
    by None at h = absurd h
    by (Some m) at h = left-taken xs i m at

pub loop-number-smaller : goal.loop-number-smaller
loop-number-smaller c =
    let taken : c.take_due.new.self ≡ taken_from (Some c.in-Some.number) c.self.inside.moments = c.take_due.ensures.left
    ∙ ap (λ o. taken_from o c.self.inside.moments) c.in-Some.is in
    let first = less c.self.inside.moments c.take_due.new.self c.args.time c.in-Some.number c.in-Some.ensures.due taken in
    let rest = left-fewer c.take_due.new.self c.watch.new.self.moments c.watch.ensures.more.places c.watch.ensures.more.none in
    let same : left c.loop-number.self.moments ≡ left c.self.inside.moments =
    ap (λ (v : RestingValue). left v.moments) (sym c.self.view_is) in
    omega (arith, first, rest, same)

-- a number that is due has a moment that came
woken_due : {A : Type 0} (xs : List (Option ℕ)) (i time : ℕ) → IsEarliestDue xs time i →
    ((m : ℕ) → moment_for xs i ≡ Some m → nat_le m time ≡ true → A) → A
woken_due {A = A} xs i time due with_moment = by (moment_for xs i) refl due
  where
    by : (o : Option ℕ) → moment_for xs i ≡ o → IsSomeAnd o (λ m. IsEarliest xs i m × (m ≤ time)) → A
    by None at h = absurd h
    by (Some m) at h = elim (leb_tells m time) [
      | inl le ↦ with_moment m at le.0
      | inr gt ↦ absurd (let late = gt.1 in let soon = h.1 in omega (arith, late, soon))
    ]

pub loop-number-preserved : goal.loop-number-preserved
loop-number-preserved c = record {
  more = wakes-then c.loop-number.invariant.more
      (subst (λ v. Wakes v c.watch.new.self) c.self.view_is
      (woken (resting_of c.self.inside) (record { watched = c.self.inside.watched; moments = c.take_due.new.self }) c.watch.new.self
      c.in-Some.number refl c.take_due.ensures.len
      (λ n. c.take_due.ensures.moments n ∙ ap (λ o. if is_taken o n then None else moment_for c.self.inside.moments n) c.in-Some.is)
      c.watch.ensures.more c.watch.ensures.there));
  due = λ n. woken_due c.self.inside.moments c.in-Some.number c.args.time c.in-Some.ensures.due (λ m stands came.
      due-woken (resting_of c.self.inside) (record { watched = c.self.inside.watched; moments = c.take_due.new.self }) c.watch.new.self
      c.in-Some.number m c.args.time refl
      (λ k. c.take_due.ensures.moments k ∙ ap (λ o. if is_taken o k then None else moment_for c.self.inside.moments k) c.in-Some.is)
      c.watch.ensures.more c.watch.ensures.no_other stands came n)
      ∙ ap (λ (v : RestingValue). v.watched.has n || link_has_come v c.args.time n) c.self.view_is ∙ c.loop-number.invariant.due n;
}

pub returns-clause-due : goal.returns-clause-due
returns-clause-due c =
    let r : RestingValue = resting_of c.self.inside in
    λ n. sym (ap (λ x. r.watched.has n || x) (none-due r c.args.time c.in_default.ensures.due n) ∙ or-false (r.watched.has n))
    ∙ ap (λ (v : RestingValue). v.watched.has n || link_has_come v c.args.time n) c.self.view_is ∙ c.loop-number.invariant.due n
