-- How far the bytes of a direction have come only grows: what was read, and what was moved.
use Rattle.std.proofs.Common.{◌≡◌, ℕ, zero, suc, ◌+◌, ◌-◌, ◌≤◌, Bool, true, false, ◌&&◌, ◌||◌, ◌==◌, not, if◌then◌else◌, List, [], ◌++◌}
use Rattle.std.proofs.Common.{length, take, drop, Some, None, ◌⊎◌, inl, inr, refl, sym, ◌∙◌, ap, subst, arith, length-append, append_assoc}
use Rattle.std.specs.Prelude.{nat_eq, nat_lt}
use Rattle.std.proofs.lemmas.Bool.{and_parts, and_from, eq-eqb, eqb-true}
use Rattle.std.proofs.lemmas.List.{append-nil, take-append-drop, take-append-le, take_all, take-take}
use Rattle.filter_model.specs.Filter.{Filter, met}
use Rattle.filter_model.specs.FilterLaws.{IsPrefixOf, PrefixLaw, BadLaw, IsFilter}
use Rattle.relay_model.specs.Flow.{Flow, middle, input, output}
use Rattle.relay_model.specs.Conserved.{all_moved}
use Rattle.relay_model.specs.Pass.{read_stops, with_used, with_read_done, with_moved}
use Rattle.filter_model.specs.Stopping.{first_from, is_over}
use Rattle.filter_model.proofs.ListLemmas.{IsPrefixOf-rest}
use Rattle.filter_model.proofs.MetLemmas.{bad-of_take}

-- what was moved
abbrev pub moved_list : Filter → List ℕ → Flow → List ℕ
moved_list r read f = take f.moved (middle r read f)

-- the counts of a direction fit up to what was moved
pub record FlowOk (r : Filter) (read : List ℕ) (ended : Bool) (f : Flow) : Type 0 where
  pub used : f.used ≤ length read
  pub moved : f.moved ≤ length (middle r read f)
  pub done : f.read_done ≡ true → (ended ≡ true) × (f.used ≡ length read)

-- a place is bad in a list, or at its end where no more will come
abbrev pub IsBadIn : Filter → List ℕ → Bool → ℕ → Type 0
IsBadIn f xs over place = (f.bad xs ≡ Some place) ⊎ ((over ≡ true) × (f.bad_at_end xs ≡ Some place))

-- a list has grown, and not where it was over
pub record GrewList (xs : List ℕ) (over : Bool) (new : List ℕ) (new_over : Bool) : Type 0 where
  pub more : List ℕ
  pub is : new ≡ xs ++ more
  pub stays : over ≡ true → (new_over ≡ true) × (new ≡ xs)

pub grew-same : (xs : List ℕ) (over : Bool) → GrewList xs over xs over
grew-same xs over = record { more = []; is = sym (append-nil xs); stays = λ h. (h, refl) }

-- a bad place stays bad
pub bad-grew : (f : Filter) → BadLaw f → (xs : List ℕ) (over : Bool) (new : List ℕ) (new_over : Bool) (place : ℕ) → GrewList xs
    over new new_over → IsBadIn f xs over place → IsBadIn f new new_over place
bad-grew f law xs over new new_over place k (inl h) = inl (subst (λ z. f.bad z ≡ Some place) (sym k.is) (law.stays xs k.more place h))
bad-grew f law xs over new new_over place k (inr h) = let s = k.stays h.0 in inr (
  s.0,
  subst (λ z. f.bad_at_end z ≡ Some place)
      (sym s.1) h.1,
)

-- what is met is bad there
pub bad-met : (f : Filter) → BadLaw f → (xs : List ℕ) (used : ℕ) (over room : Bool) (place : ℕ) → met f xs used over room ≡ Some
    place → IsBadIn f xs over place
bad-met f law xs used over room place h = go room (nat_lt used (length xs)) over refl h
  where
    go : (b c d : Bool) → over ≡ d → (if b then (if c then f.bad (take (used + 1) xs) else (if d then f.bad_at_end xs else None))
        else None) ≡ Some place → IsBadIn f xs over place
    go false c d e h = absurd (cc)
    go true true d e h = inl (bad-of_take f law (used + 1) xs place h)
    go true false true e h = inr (e, h)
    go true false false e h = absurd (cc)

-- What the counts and the bytes of a direction make grows

pub record Grown (r : Filter) (read : List ℕ) (ended : Bool) (f : Flow) (new_read : List ℕ) (new_ended : Bool) (new : Flow) : Type 0 where
  pub ok : FlowOk r new_read new_ended new
  pub raw : GrewList read ended new_read new_ended
  pub passed : GrewList (moved_list r read f) (all_moved r read f) (moved_list r new_read new) (all_moved r new_read new)

pub grown-same : (r : Filter) (read : List ℕ) (ended : Bool) (f : Flow) → FlowOk r read ended f → Grown r read ended f read ended f
grown-same r read ended f k = record { ok = k; raw = grew-same read ended; passed = grew-same (moved_list r read f) (all_moved r read f) }

-- the counts that the bytes moved hang on
pub record Stations : Type 0 where
  pub used : ℕ
  pub moved : ℕ
  pub read_done : Bool

abbrev pub stations : Flow → Stations
stations f = record { used = f.used; moved = f.moved; read_done = f.read_done }

-- the same counts at more bytes
pub grown-read : (r : Filter) (read : List ℕ) (ended : Bool) (f : Flow) (bytes : List ℕ) (new_ended : Bool) (new : Flow) → stations
    new ≡ stations f → FlowOk r read ended f →
    (ended ≡ true → (new_ended ≡ true) × (bytes ≡ [])) → Grown r read ended f (read ++ bytes) new_ended new
grown-read r read ended f bytes new_ended new same k stays = record {
  ok = record {
    used = let u = ap (λ z. z.used) same in let n = k.used in omega (arith, length-append read bytes);
    moved = let m = ap (λ z. z.moved) same in let n = k.moved in let l = ap length made in omega arith;
    done = λ h.
        let d = k.done (sym (ap (λ z. z.read_done) same) ∙ h) in
        let s = stays d.0 in
        let u = ap (λ z. z.used) same in
        let none : length bytes ≡ 0 = ap length s.1 in
        (s.0, let e = d.1 in omega (arith, length-append read bytes));
  };
  raw = record { more = bytes; is = refl; stays = λ h. let s = stays h in (s.0, ap (λ z. read ++ z) s.1 ∙ append-nil read) };
  passed = record {
    more = [];
    is = list ∙ sym (append-nil (moved_list r read f));
    stays = λ h. (all ∙ h, list);
  };
}
  where
    taken : take new.used (read ++ bytes) ≡ take f.used read
    taken = ap (λ n. take n (read ++ bytes)) (ap (λ z. z.used) same) ∙ take-append-le f.used read bytes k.used

    made : middle r (read ++ bytes) new ≡ middle r read f
    made = let d = ap (λ z. z.read_done) same in λ i. if d i then r.at_end (taken i) else r.before (taken i)

    list : moved_list r (read ++ bytes) new ≡ moved_list r read f
    list = let m = ap (λ z. z.moved) same in λ i. take (m i) (made i)

    all : all_moved r (read ++ bytes) new ≡ all_moved r read f
    all = let d = ap (λ z. z.read_done) same in let m = ap (λ z. z.moved) same in λ i. d i && nat_eq (m i) (length (made i))

pub grown-counts : (r : Filter) (read : List ℕ) (ended : Bool) (f new : Flow) → stations new ≡ stations f → FlowOk r read ended f →
    Grown r read ended f read ended new
grown-counts r read ended f new same k =
    subst (λ z. Grown r read ended f z ended new) (append-nil read) (grown-read r read ended f [] ended new same k (λ h. (h, refl)))

-- more was made of what was read, and as much was moved
grown-made : (r : Filter) (read : List ℕ) (ended : Bool) (f new : Flow) → FlowOk r read ended f → new.moved ≡ f.moved → new.used ≤
    length read →
    (new.read_done ≡ true → (ended ≡ true) × (new.used ≡ length read)) → f.read_done ≡ false → (more : List ℕ) → middle r read new
    ≡ middle r read f ++ more → Grown r read ended f read ended new
grown-made r read ended f new k same used done unfinished more made = record {
  ok = record {
    used = used;
    moved = let m = k.moved in let l : length (middle r read new) ≡ length (middle r read f ++ more) = ap length made in
        omega (arith, length-append (middle r read f) more);
    done = done;
  };
  raw = grew-same read ended;
  passed = record {
    more = [];
    is =
        (λ i. take (same i) (made i)) ∙ take-append-le f.moved (middle r read f) more k.moved
        ∙ sym (append-nil (moved_list r read f));
    stays = λ h. absurd (let d = (and_parts f.read_done (nat_eq f.moved (length (middle r read f))) h).0 in cc);
  };
}

first-above : (stop : ℕ → Bool) (n left : ℕ) → (n ≤ first_from stop n left) × (first_from stop n left ≤ n + left)
first-above stop n zero = (omega arith, omega arith)
first-above stop n (suc left) = go (stop n) (first-above stop (n + 1) left)
  where
    go : (b : Bool) → ((n + 1) ≤ first_from stop (n + 1) left) × (first_from stop (n + 1) left ≤ (n + 1) + left) →
        (n ≤ (if b then n else first_from stop (n + 1) left)) × ((if b then n else first_from stop (n + 1) left) ≤ n + suc left)
    go true h = (omega arith, omega arith)
    go false h = (omega arith, omega arith)

-- what is made of a longer beginning begins with what is made of a shorter one
before-grows : (r : Filter) → PrefixLaw r → (read : List ℕ) (m n : ℕ) → m ≤ n → r.before (take n read) ≡ r.before (take m read) ++
    drop (length (r.before (take m read))) (r.before (take n read))
before-grows r law read m n le =
    let joined : take m read ++ drop m (take n read) ≡ take n read = ap (λ z. z ++ drop m (take n read))
    (sym (take-take m n read le)) ∙ take-append-drop m (take n read) in
    sym (IsPrefixOf-rest (r.before (take m read)) (r.before (take n read))
    (subst (λ z. IsPrefixOf (r.before (take m read)) (r.before z)) joined (law.grows (take m read) (drop m (take n read)))))

pub grown-used : (r : Filter) → IsFilter r → (read : List ℕ) (mark : ℕ) (ended : Bool) (f : Flow) → FlowOk r read ended f → Grown r
    read ended f read ended (with_used r read mark f)
grown-used r law read mark ended f k = go f.read_done refl
  where
    go : (b : Bool) → f.read_done ≡ b → Grown r read ended f read ended (with_used r read mark f)
    go true h =
        let none : length read - f.used ≡ 0 = let d = (k.done h).1 in omega arith in
        let same : (with_used r read mark f).used ≡ f.used = ap (λ n. first_from (read_stops r read mark f) f.used n) none in
        grown-counts r read ended f (with_used r read mark f) (λ i. record { used = same i; moved = f.moved; read_done = f.read_done }) k
    go false h =
        let b = first-above (read_stops r read mark f) f.used (length read - f.used) in
        let u = k.used in
        grown-made r read ended f (with_used r read mark f) k refl (omega arith) (λ q. absurd (cc)) h
        (drop (length (r.before (take f.used read))) (r.before (take (with_used r read mark f).used read)))
        (ap (λ d. if d then r.at_end (take (with_used r read mark f).used read) else r.before (take (with_used r read mark f).used read)) h
        ∙ before-grows r law.prefix read f.used (with_used r read mark f).used b.0
        ∙ ap (λ d. (if d then r.at_end (take f.used read) else r.before (take f.used read)) ++ drop
        (length (r.before (take f.used read))) (r.before (take (with_used r read mark f).used read))) (sym h))

pub grown-done : (r : Filter) → IsFilter r → (read : List ℕ) (mark : ℕ) (ended : Bool) (f : Flow) → FlowOk r read ended f → Grown r
    read ended f read ended (with_read_done r read mark ended f)
grown-done r law read mark ended f k = go f.read_done refl test refl
  where
    test : Bool
    test = ended && f.used == length read && is_over r read (nat_lt (length (input r read f)) mark)

    new : Flow
    new = with_read_done r read mark ended f

    go : (b : Bool) → f.read_done ≡ b → (c : Bool) → test ≡ c → Grown r read ended f read ended new
    go true h c q = grown-counts r read ended f new (let d : new.read_done ≡ f.read_done = ap (λ z. z || test) h ∙ sym h in λ i.
        record { used = f.used; moved = f.moved; read_done = d i }) k
    go false h false q = grown-counts r read ended f new (let d : new.read_done ≡ f.read_done = (λ i. h i || q i) ∙ sym h in λ i.
        record { used = f.used; moved = f.moved; read_done = d i }) k
    go false h true q =
        let parts = and_parts (ended && f.used == length read) (is_over r read (nat_lt (length (input r read f)) mark)) q in
        let first = and_parts ended (f.used == length read) parts.0 in
        let d : new.read_done ≡ true = λ i. h i || q i in
        grown-made r read ended f new k refl k.used (λ _. (first.0, eqb-true f.used (length read) first.1)) h
        (drop (length (r.before (take f.used read))) (r.at_end (take f.used read)))
        (ap (λ z. if z then r.at_end (take f.used read) else r.before (take f.used read)) d
        ∙ sym (IsPrefixOf-rest (r.before (take f.used read)) (r.at_end (take f.used read)) (law.prefix.ends (take f.used read)))
        ∙ ap (λ z. (if z then r.at_end (take f.used read) else r.before (take f.used read)) ++ drop
        (length (r.before (take f.used read))) (r.at_end (take f.used read))) (sym h))

pub grown-moved : (r : Filter) (read : List ℕ) (ended : Bool) (f : Flow) → FlowOk r read ended f → Grown r read ended f read ended
    (with_moved r read f)
grown-moved r read ended f k = go (not f.held && length (output r read f) == 0)
  where
    all : Flow
    all = record f { moved = length (middle r read f) }

    whole : moved_list r read all ≡ middle r read f
    whole = take_all (length (middle r read f)) (middle r read f) (omega arith)

    go : (b : Bool) → Grown r read ended f read ended (if b then all else f)
    go false = grown-same r read ended f k
    go true = record {
      ok = record { used = k.used; moved = omega arith; done = k.done };
      raw = grew-same read ended;
      passed = record {
        more = drop f.moved (middle r read f);
        is = whole ∙ sym (take-append-drop f.moved (middle r read f));
        stays = λ h.
            let parts = and_parts f.read_done (nat_eq f.moved (length (middle r read f))) h in
            let same : f.moved ≡ length (middle r read f) = eqb-true f.moved (length (middle r read f)) parts.1 in (
              and_from f.read_done (nat_eq (length (middle r read f)) (length (middle r read f))) parts.0
                  (eq-eqb (length (middle r read f)) (length (middle r read f)) refl),
              ap (λ n. take n (middle r read f)) (sym same),
            );
      };
    }

grew-trans : (xs : List ℕ) (a : Bool) (ys : List ℕ) (b : Bool) (zs : List ℕ) (c : Bool) → GrewList xs a ys b → GrewList ys b zs c →
    GrewList xs a zs c
grew-trans xs a ys b zs c h k = record {
  more = h.more ++ k.more;
  is = k.is ∙ ap (λ v. v ++ k.more) h.is ∙ append_assoc xs h.more k.more;
  stays = λ q. let m = h.stays q in let n = k.stays m.0 in (n.0, n.1 ∙ m.1);
}

pub grown-trans : (r : Filter) (read : List ℕ) (ended : Bool) (f mid new : Flow) → Grown r read ended f read ended mid → Grown r
    read ended mid read ended new → Grown r read ended f read ended new
grown-trans r read ended f mid new h k = record { ok = k.ok; raw = grew-same read ended; passed = grew-trans _ _ _ _ _ _ h.passed k.passed }
