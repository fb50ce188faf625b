-- A filter's step: what it uses and makes at most, that it does nothing or goes on, and that it needs no more room for fewer bytes.
use Rattle.std.proofs.Common.{◌≡◌, inl, inr, ℕ, zero, suc, ◌+◌, ◌-◌, ◌*◌, ◌<◌, ◌≤◌, min, Bool, true, false, ◌||◌, ◌&&◌, ◌==◌, nat_le}
use Rattle.std.proofs.Common.{if◌then◌else◌, List, [], ◌∷◌, ◌++◌, length, take, Option, Some, None, refl, sym, ◌∙◌, ap, arith, append-nil}
use Rattle.std.proofs.Common.{length-append, length-take-le, leb-true, leb-false}
use Rattle.std.specs.Prelude.{nat_lt, is_some}
use Rattle.std.specs.List.{last_or}
use Rattle.std.proofs.lemmas.List.{nil_from_length}
use mathlib.Core.Logic.{◌⊎◌}
use Rattle.ev_types.specs.declared.filter.FilterKind.{FilterKind}
use Rattle.ev_types.specs.declared.filter.FilterKind.TheVariants as kind
use Rattle.filter_model.specs.Running.{Running}
use Rattle.filter_model.specs.FilterRun.{Ran, goes_on, run, adds, is_bad_byte, end_adds}
use Rattle.filter_model.specs.FilterStep.{count_of, run_of, after_bytes, stop_place, is_finished, Stepped, ending, stepped, most_made}
use Rattle.filter_model.proofs.FilterRunLemmas.{run-within}
use Rattle.filter_model.proofs.FilterFitLemmas.{adds-two, end-one}
use Rattle.stream_filters.specs.StepAnswers.{most_by_step}
use Rattle.bev_filter.specs.StepRoom.{hands_on, goes_whole, HasStepRoom}
use Rattle.stream_filters.proofs.ShiftLemmas.{step-shift}

-- 1 for what is so
abbrev pub bit : Bool → ℕ
bit true = 1
bit false = 0

pub bit-le : (b : Bool) → bit b ≤ 1
bit-le true = omega arith
bit-le false = omega arith

-- a run makes at most two bytes of each that it used
run-double : (k : FilterKind) (limit n count : ℕ) (last : Option ℕ) (src : List ℕ) →
    length (run k limit n count last src).made ≤ 2 * (run k limit n count last src).used
run-double k limit n count last [] = omega arith
run-double k limit n count last (x ∷ src) =
    go (nat_le limit n || is_bad_byte k x) (run-double k limit (n + length (adds k count last x)) (count + 1) (Some x) src)
  where
    out : List ℕ
    out = adds k count last x

    rest : Ran
    rest = run k limit (n + length (adds k count last x)) (count + 1) (Some x) src

    go : (b : Bool) → length rest.made ≤ 2 * rest.used → length (goes_on b out rest).made ≤ 2 * (goes_on b out rest).used
    go true h = omega arith
    go false h = let two = adds-two k count last x in omega (arith, length-append out rest.made, h, two)

-- nothing was done
abbrev pub idle : Running → Stepped
idle x = record { used = 0; made = []; after = x }

-- The filter had not stopped and wasn't finished, and it used a byte, finishes or stops.
pub record GoesOn (x : Running) (s : Stepped) : Type 0 where
  pub unfinished : x.finished ≡ false
  pub unstopped : x.stopped ≡ None
  pub made : length s.made ≤ 2 * s.used + bit s.after.finished
  pub something : 0 < s.used + bit s.after.finished + bit (is_some s.after.stopped)

none_or_some : (n : ℕ) → (n ≡ 0) ⊎ (0 < n)
none_or_some zero = inl refl
none_or_some (suc n) = inr (omega arith)

left_false : (a b : Bool) → (a || b) ≡ false → a ≡ false
left_false true b e = absurd (cc)
left_false false b e = refl

right_none : (a : Bool) (p : Option ℕ) → (a || is_some p) ≡ false → p ≡ None
right_none true p e = absurd (cc)
right_none false None e = refl
right_none false (Some n) e = absurd (cc)

module _ (x : Running) (over : Bool) (limit n : ℕ) (src : List ℕ) where
  abbrev ran : Ran
  ran = run_of x limit n src

  abbrev ran_on : Running
  ran_on = after_bytes x (take ran.used src)

  abbrev run_ends : Stepped
  run_ends = ending (after_bytes x (take (run_of x limit n src).used src)) (run_of x limit n src)
      ((run_of x limit n src).used == length src) over (nat_lt (n + length (run_of x limit n src).made) limit)

  within : (run_of x limit n src).used ≤ length src
  within = run-within x.kind limit n (count_of x) x.last src

  double : length (run_of x limit n src).made ≤ 2 * (run_of x limit n src).used
  double = run-double x.kind limit n (count_of x) x.last src

  -- a step uses no more than it is offered
  pub step-within : (stepped x over limit n src).used ≤ length src
  step-within = go (x.finished || is_some x.stopped)
    where
      go : (b : Bool) → (if b then idle x else run_ends).used ≤ length src
      go true = omega arith
      go false = within

  -- and the filter counts what it used
  pub step-counts : (stepped x over limit n src).after.used ≡ x.used + (stepped x over limit n src).used
  step-counts = go (x.finished || is_some x.stopped)
    where
      go : (b : Bool) → (if b then idle x else run_ends).after.used ≡ x.used + (if b then idle x else run_ends).used
      go true = omega arith
      go false = ap (λ m. x.used + m) (length-take-le (run_of x limit n src).used src within)

  -- a run that ends so
  abbrev ended : Bool → Option ℕ → Stepped
  ended fin stop = record {
    used = (run_of x limit n src).used;
    made = (run_of x limit n src).made ++ (if fin then end_adds x.kind (after_bytes x (take (run_of x limit n src).used src)).last else []);
    after = let y = after_bytes x (take (run_of x limit n src).used src) in record y { finished = fin; stopped = stop };
  }

  ended-goes : x.finished ≡ false → x.stopped ≡ None → (fin : Bool) (stop : Option ℕ) →
      (ended fin stop ≡ idle x) ⊎ GoesOn x (ended fin stop)
  ended-goes unfinished unstopped true stop =
      let y : Running = after_bytes x (take (run_of x limit n src).used src) in
      inr (record {
        unfinished = unfinished;
        unstopped = unstopped;
        made = omega (arith, double, end-one x.kind y.last, length-append (run_of x limit n src).made (end_adds x.kind y.last));
        something = omega arith;
      })
  ended-goes unfinished unstopped false (Some place) =
      inr (record {
        unfinished = unfinished;
        unstopped = unstopped;
        made = omega (arith, double, ap length (append-nil (run_of x limit n src).made));
        something = omega arith;
      })
  ended-goes unfinished unstopped false None = go (none_or_some (run_of x limit n src).used)
    where
      go : ((run_of x limit n src).used ≡ 0) ⊎ (0 < (run_of x limit n src).used) →
          (ended false None ≡ idle x) ⊎ GoesOn x (ended false None)
      go (inl none) =
          let made : (run_of x limit n src).made ≡ [] =
          nil_from_length (run_of x limit n src).made (omega (arith, double, none)) in
          let made_is : (run_of x limit n src).made ++ [] ≡ [] = append-nil (run_of x limit n src).made ∙ made in
          let used_is : x.used + 0 ≡ x.used = omega arith in
          inl ((λ i. record {
            used = none i;
            made = made_is i;
            after = record x {
              used = x.used + length (take (none i) src);
              last = last_or x.last (take (none i) src);
              finished = false;
              stopped = None;
            };
          })
          ∙ (λ i. record {
            used = 0;
            made = [];
            after = record x { used = used_is i; finished = sym unfinished i; stopped = sym unstopped i };
          }))
      go (inr some) =
          inr (record {
            unfinished = unfinished;
            unstopped = unstopped;
            made = omega (arith, double, ap length (append-nil (run_of x limit n src).made));
            something = omega (arith, some);
          })

  -- a step does nothing, or goes on
  pub step-goes : (stepped x over limit n src ≡ idle x) ⊎ GoesOn x (stepped x over limit n src)
  step-goes = go (x.finished || is_some x.stopped) refl
    where
      go : (b : Bool) → (x.finished || is_some x.stopped) ≡ b →
          ((if b then idle x else run_ends) ≡ idle x) ⊎ GoesOn x (if b then idle x else run_ends)
      go true e = inl refl
      go false e =
          let y : Running = after_bytes x (take (run_of x limit n src).used src) in
          let all : Bool = (run_of x limit n src).used == length src in
          let room : Bool = nat_lt (n + length (run_of x limit n src).made) limit in
          ended-goes (left_false x.finished (is_some x.stopped) e) (right_none x.finished x.stopped e)
          (is_finished y all over room) (stop_place y all over room)

-- fewer bytes make no more
made-mono : (k : FilterKind) (m n : ℕ) → m ≤ n → most_made k m ≤ most_made k n
made-mono kind.None m n h = h
made-mono kind.ToCrlf m n h = omega (arith, h)
made-mono kind.ToLf m n h = omega (arith, h)
made-mono kind.HexOut m n h = omega (arith, h)
made-mono kind.HexIn m n h = omega (arith, h)

most-mono : (k : FilterKind) (m n held limit : ℕ) → m ≤ n → most_by_step k m held limit ≤ most_by_step k n held limit
most-mono k m n held limit h = go (nat_le limit held)
  where
    go : (b : Bool) → (if b then 0 else min (limit - held + 1) (most_made k m)) ≤ (if b then 0 else min (limit - held + 1) (most_made k n))
    go true = omega arith
    go false = omega (arith, made-mono k m n h)

true_parts : (a b c : Bool) → (a && b && c) ≡ true → (a ≡ true) × (b ≡ true) × (c ≡ true)
true_parts true true true e = (refl, refl, refl)
true_parts true true false e = absurd (cc)
true_parts true false c e = absurd (cc)
true_parts false b c e = absurd (cc)

-- they go whole where more would
whole-mono : (k : FilterKind) (m n held limit : ℕ) → m ≤ n → goes_whole k n held limit ≡ true → goes_whole k m held limit ≡ true
whole-mono k m n held limit h e = go (nat_le m limit) refl
  where
    parts : (hands_on k ≡ true) × ((held == 0) ≡ true) × (nat_le n limit ≡ true)
    parts = true_parts (hands_on k) (held == 0) (nat_le n limit) e

    go : (b : Bool) → nat_le m limit ≡ b → (hands_on k && held == 0 && nat_le m limit) ≡ true
    go true w = λ i. parts.0 i && parts.1 i && w i
    go false w = absurd (omega (arith, h, leb-true n limit parts.2, leb-false m limit w))

-- and need no more room; more room does as well
pub room-mono : (k : FilterKind) (m n held limit spare beside spare2 beside2 made : ℕ) → m ≤ n → spare ≤ spare2 → beside ≤ beside2 →
    HasStepRoom k n held limit spare beside made → HasStepRoom k m held limit spare2 beside2 made
room-mono k m n held limit spare beside spare2 beside2 made h s b room = record {
  behind = λ part. go part (goes_whole k n held limit) refl;
  apart = λ made_there. (let c = most-mono k m n held limit h in let d = room.apart made_there in omega (arith, c, d, b));
  counted = (let c = most-mono k m n held limit h in let d = room.counted in omega (arith, c, d));
}
  where
    go : goes_whole k m held limit ≡ false → (w : Bool) → goes_whole k n held limit ≡ w → most_by_step k m held limit ≤ spare2
    go part true e = absurd (let whole = whole-mono k m n held limit h e in let wrong : true ≡ false = sym whole ∙ part in cc)
    go part false e = let c = most-mono k m n held limit h in let d = room.behind e in omega (arith, c, d, s)

-- a step into a target that holds nothing, with what the limit leaves
pub step-here : (x : Running) (over : Bool) (limit held room none : ℕ) (src bytes : List ℕ) → room ≡ limit - held → none ≡ 0 → bytes ≡ src →
    stepped x over room none bytes ≡ stepped x over limit held src
step-here x over limit held room none src bytes r z s = (λ i. stepped x over (r i) (z i) (s i)) ∙ step-shift x over limit held src
