-- A switched filter obeys the laws where both of its parts do.
use Rattle.std.proofs.Common.{◌≡◌, ℕ, ◌+◌, ◌-◌, ◌<◌, ◌≤◌, Bool, true, false, List, [], ◌++◌, length, take, drop, Option, Some, None, refl}
use Rattle.std.proofs.Common.{sym, ◌∙◌, ap, subst, append_assoc, arith, length-append}
use Rattle.std.specs.Prelude.{nat_le}
use Rattle.std.proofs.lemmas.Bool.{leb-true, leb-false}
use Rattle.std.proofs.lemmas.List.{append-nil, take_all, take-append-le, drop-append-le, drop-take, take-take, length-drop}
use Rattle.std.proofs.Math.ListN.{drop_of_length-le}
use Rattle.std.proofs.Math.Seq.{drop-append-add, take-append-add}
use Rattle.filter_model.specs.Filter.{Filter}
use Rattle.filter_model.specs.FilterLaws.{IsPrefixOf, PrefixLaw, BadLaw, CutLaw, IsFilter, LookAlike, last_of, more, more_at_end}
use Rattle.filter_model.specs.Switched.{behind, switched, SwitchedIsFilter}
use Rattle.filter_model.proofs.ListLemmas.{IsPrefixOf-append, IsPrefixOf-rest, IsPrefixOf-trans}

-- the same bytes in front keep a beginning a beginning
IsPrefixOf-front : (front xs ys : List ℕ) → IsPrefixOf xs ys → IsPrefixOf (front ++ xs) (front ++ ys)
IsPrefixOf-front front xs ys p =
    IsPrefixOf-append (front ++ xs) (drop (length xs) ys) (front ++ ys)
    (append_assoc front xs (drop (length xs) ys) ∙ ap (λ z. front ++ z) (IsPrefixOf-rest xs ys p))

-- what `behind` says of a place
record Behind (first place : ℕ) (o : Option ℕ) : Type 0 where
  there : ℕ
  is : o ≡ Some there
  sum : first + there ≡ place

behind-some : (first place : ℕ) (o : Option ℕ) → behind first o ≡ Some place → Behind first place o
behind-some first place None h = absurd (cc)
behind-some first place (Some there) h = record { there = there; is = refl; sum = cc }

behind-none : (first : ℕ) (o : Option ℕ) → behind first o ≡ None → o ≡ None
behind-none first None h = refl
behind-none first (Some place) h = absurd (cc)

module _ (f next : Filter) (place : ℕ) (law : IsFilter f) (next_law : IsFilter next) (fresh : next.since ≡ 0) where
  abbrev both : Filter
  both = switched f place next

  late : (xs ys : List ℕ) → place ≤ length xs → both.before (xs ++ ys) ≡ f.before (take place xs) ++ next.before (drop place xs ++ ys)
  late xs ys le =
      ap (λ z. f.before z ++ next.before (drop place (xs ++ ys))) (take-append-le place xs ys le)
      ∙ ap (λ z. f.before (take place xs) ++ next.before z) (drop-append-le place xs ys le)

  late_end : (xs ys : List ℕ) → place ≤ length xs → both.at_end (xs ++ ys) ≡ f.before (take place xs) ++ next.at_end (drop place xs ++ ys)
  late_end xs ys le =
      ap (λ z. f.before z ++ next.at_end (drop place (xs ++ ys))) (take-append-le place xs ys le)
      ∙ ap (λ z. f.before (take place xs) ++ next.at_end z) (drop-append-le place xs ys le)

  nothing_late : next.before [] ≡ []
  nothing_late = next_law.prefix.empty

  -- before the place the first filter makes all of the output
  early : (xs : List ℕ) → length xs ≤ place → both.before xs ≡ f.before xs
  early xs le =
      ap (λ z. f.before z ++ next.before (drop place xs)) (take_all place xs le)
      ∙ ap (λ z. f.before xs ++ z) (ap next.before (drop_of_length-le xs le) ∙ nothing_late)
      ∙ append-nil (f.before xs)

  grows : (xs ys : List ℕ) → IsPrefixOf (both.before xs) (both.before (xs ++ ys))
  grows xs ys = by_order (nat_le place (length xs)) refl
    where
      by_order : (b : Bool) → nat_le place (length xs) ≡ b → IsPrefixOf (both.before xs) (both.before (xs ++ ys))
      by_order true e =
          let le = leb-true place (length xs) e in
          subst (λ z. IsPrefixOf (both.before xs) z) (sym (late xs ys le))
          (IsPrefixOf-front (f.before (take place xs)) _ _ (next_law.prefix.grows (drop place xs) ys))
      by_order false e =
          let lt = leb-false place (length xs) e in
          let le : length xs ≤ place = omega arith in
          let n : ℕ = place - length xs in
          let reach : length xs + n ≡ place = omega arith in
          let front : take place (xs ++ ys) ≡ xs ++ take n ys = ap (λ k. take k (xs ++ ys)) (sym reach) ∙ take-append-add xs ys n in
          subst (λ z. IsPrefixOf z (both.before (xs ++ ys))) (sym (early xs le))
          (IsPrefixOf-trans (f.before xs) (f.before (take place (xs ++ ys))) (both.before (xs ++ ys))
          (subst (λ z. IsPrefixOf (f.before xs) (f.before z)) (sym front) (law.prefix.grows xs (take n ys)))
          (IsPrefixOf-append (f.before (take place (xs ++ ys))) (next.before (drop place (xs ++ ys))) _ refl))

  prefix : PrefixLaw both
  prefix = record {
    empty = early [] (omega arith) ∙ law.prefix.empty;
    grows = grows;
    ends = λ xs. IsPrefixOf-front (f.before (take place xs)) _ _ (next_law.prefix.ends (drop place xs));
  }

  -- where the later filter has a bad place, the input goes past the place of the switch
  reaches : (xs : List ℕ) (there : ℕ) → next.bad (drop place xs) ≡ Some there → place + there < length xs
  reaches xs there h = let lt = next_law.badness.is_there (drop place xs) there h in omega (arith, length-drop place xs)

  -- the input up to a place behind the switch
  upto : (xs : List ℕ) (n : ℕ) → drop place (take (place + n) xs) ≡ take n (drop place xs)
  upto xs n = drop-take place n xs

  badness : BadLaw both
  badness = record {
    is_there = λ xs bad h. (let k = behind-some place bad (next.bad (drop place xs)) h in let lt = reaches xs k.there k.is in
        let le = k.sum in omega arith);
    shows = λ xs bad h.
        let k = behind-some place bad (next.bad (drop place xs)) h in
        let same : bad + 1 ≡ place + (k.there + 1) = let le = k.sum in omega arith in
        ap (λ n. behind place (next.bad (drop place (take n xs)))) same
        ∙ ap (λ z. behind place (next.bad z)) (upto xs (k.there + 1))
        ∙ ap (behind place) (next_law.badness.shows (drop place xs) k.there k.is)
        ∙ ap Some k.sum;
    stays = λ xs ys bad h.
        let k = behind-some place bad (next.bad (drop place xs)) h in
        let le : place ≤ length xs = let lt = reaches xs k.there k.is in omega arith in
        ap (λ z. behind place (next.bad z)) (drop-append-le place xs ys le)
        ∙ ap (behind place) (next_law.badness.stays (drop place xs) ys k.there k.is)
        ∙ ap Some k.sum;
    stops = λ xs bad h.
        let k = behind-some place bad (next.bad (drop place xs)) h in
        let le : place ≤ place + k.there = omega arith in
        ap (λ z. f.before (take place xs) ++ z) (next_law.badness.stops (drop place xs) k.there k.is ∙ ap next.before
        (sym (upto xs k.there)))
        ∙ ap (λ z. f.before z ++ next.before (drop place (take (place + k.there) xs))) (sym (take-take place (place + k.there) xs le))
        ∙ ap (λ n. both.before (take n xs)) k.sum;
    bad_at_end = λ xs bad h.
        let k = behind-some place bad (next.bad (drop place xs)) h in
        ap (behind place) (next_law.badness.bad_at_end (drop place xs) k.there k.is) ∙ ap Some k.sum;
    stops_at_end = λ xs bad h.
        let k = behind-some place bad (next.bad_at_end (drop place xs)) h in
        ap (λ z. f.before (take place xs) ++ z) (next_law.badness.stops_at_end (drop place xs) k.there k.is);
  }

  alike : (xs zs : List ℕ) → LookAlike both xs zs → LookAlike next (drop place xs) (drop place zs)
  alike xs zs h = record {
    count = let k = h.count in omega (arith, length-drop place xs, length-drop place zs);
    begun = let k = fresh in omega arith;
    last = subst (λ n. last_of (drop n (drop place xs)) ≡ last_of (drop n (drop place zs))) (sym fresh) h.last;
    left_good = behind-none place _ h.left_good;
    right_good = behind-none place _ h.right_good;
  }

  more_is : (xs ys : List ℕ) → place ≤ length xs → more both xs ys ≡ more next (drop place xs) ys
  more_is xs ys le =
      ap (drop (length (both.before xs))) (late xs ys le)
      ∙ ap (λ n. drop n (f.before (take place xs) ++ next.before (drop place xs ++ ys))) (length-append (f.before (take place xs))
      (next.before (drop place xs)))
      ∙ drop-append-add (f.before (take place xs)) (next.before (drop place xs ++ ys)) (length (next.before (drop place xs)))

  more_at_end_is : (xs ys : List ℕ) → place ≤ length xs → more_at_end both xs ys ≡ more_at_end next (drop place xs) ys
  more_at_end_is xs ys le =
      ap (drop (length (both.before xs))) (late_end xs ys le)
      ∙ ap (λ n. drop n (f.before (take place xs) ++ next.at_end (drop place xs ++ ys))) (length-append (f.before (take place xs))
      (next.before (drop place xs)))
      ∙ drop-append-add (f.before (take place xs)) (next.at_end (drop place xs ++ ys)) (length (next.before (drop place xs)))

  cut : CutLaw both
  cut = record {
    same = λ xs zs h ys.
        more_is xs ys h.begun ∙ next_law.cut.same _ _ (alike xs zs h) ys ∙ sym (more_is zs ys (subst (λ n. place ≤ n) h.count h.begun));
    same_at_end = λ xs zs h ys.
        more_at_end_is xs ys h.begun ∙ next_law.cut.same_at_end _ _ (alike xs zs h) ys ∙ sym
        (more_at_end_is zs ys (subst (λ n. place ≤ n) h.count h.begun));
    same_bad = λ xs zs h ys.
        ap (behind place)
        (ap next.bad (drop-append-le place xs ys h.begun)
        ∙ next_law.cut.same_bad _ _ (alike xs zs h) ys
        ∙ ap next.bad (sym (drop-append-le place zs ys (subst (λ n. place ≤ n) h.count h.begun))));
    same_bad_at_end = λ xs zs h ys.
        ap (behind place)
        (ap next.bad_at_end (drop-append-le place xs ys h.begun)
        ∙ next_law.cut.same_bad_at_end _ _ (alike xs zs h) ys
        ∙ ap next.bad_at_end (sym (drop-append-le place zs ys (subst (λ n. place ≤ n) h.count h.begun))));
  }

  pub switched_filter : IsFilter both
  switched_filter = record { prefix = prefix; badness = badness; cut = cut }

pub switched_is_filter : SwitchedIsFilter
switched_is_filter f next place law next_law fresh = switched_filter f next place law next_law fresh
