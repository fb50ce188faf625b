-- A run that is made part by part.
use Rattle.std.proofs.Common.{◌≡◌, ℕ, ◌+◌, ◌≤◌, true, List, [], ◌∷◌, ◌++◌, length, take, drop, Option, Some, ◌||◌, refl, sym, ◌∙◌, ap}
use Rattle.std.proofs.Common.{arith, append_assoc, append-nil, length-append}
use Rattle.std.specs.Prelude.{nat_le}
use Rattle.std.specs.List.{last_or}
use Rattle.std.proofs.lemmas.Bool.Decides.{nat_tests}
use Rattle.std.proofs.lemmas.List.{length-drop, length-take-le, drop-drop}
use Rattle.std.proofs.Math.Seq.{take-add}
use Rattle.std.proofs.Math.ListN.{drop_of_length-le}
use Rattle.ev_types.specs.declared.filter.FilterKind.{FilterKind}
use Rattle.filter_model.specs.FilterRun.{Ran, nothing_ran, goes_on, run, adds, is_bad_byte}
use Rattle.filter_model.specs.FilterCuts.{joined}
use Rattle.filter_model.proofs.ListLemmas.{last_or-append}
use Rattle.stream_filters.specs.declared.knowledge.Knowledge.{Knowledge}
use Rattle.stream_filters.specs.Parts.{AppendsPart, HasRoom, RanOver}

-- the first `at` bytes were used, and the run goes on behind them, for which there is room
pub record Along (k : FilterKind) (limit : ℕ) (before now : Knowledge) (src old new : List ℕ) (at capacity : ℕ) : Type 0 where
  pub within : at ≤ length src
  pub known : now ≡ record before { used = before.used + length (take at src); last = last_or before.last (take at src) }
  pub made : List ℕ
  pub filled : new ≡ old ++ made
  pub goes : run k limit (length old) before.used before.last src ≡ joined (record { used = at; made = made })
      (run k limit (length new) now.used now.last (drop at src))
  pub room : HasRoom k limit now.used now.last (drop at src) new capacity

pub along-begins : (k : FilterKind) (limit : ℕ) (before : Knowledge) (src old : List ℕ) (capacity : ℕ) →
    HasRoom k limit before.used before.last src old capacity →
    Along k limit before before src old old 0 capacity
along-begins k limit before src old capacity room = record {
  within = omega arith;
  known = (let e : before.used ≡ before.used + 0 = omega arith in λ i. record before { used = e i });
  made = [];
  filled = sym (append-nil old);
  goes =
      (let r : Ran = run k limit (length old) before.used before.last src in
      let e : r.used ≡ 0 + r.used = omega arith in λ i. record { used = e i; made = r.made });
  room = room;
}

-- a part more
pub along-more : (k : FilterKind) (limit : ℕ) (before now : Knowledge) (src old new : List ℕ) (at capacity : ℕ) →
    Along k limit before now src old new at capacity →
    (next : List ℕ) (used capacity' : ℕ) → AppendsPart k limit now.used now.last (drop at src) new next used → capacity ≤ capacity' →
    Along k limit before (record now {
      used = now.used + length (take used (drop at src));
      last =
          last_or now.last (take used (drop at src));
    }) src old next (at + used) capacity'
along-more k limit before now src old new at capacity a next used capacity' p grew =
    let there : at + used ≤ length src = (let w = p.within in let d = length-drop at src in let b = a.within in omega (arith, w, d, b)) in
    let count : length (take used (drop at src)) ≡ used = length-take-le used (drop at src) p.within in
    let known : Knowledge = record now {
      used = now.used + length (take used (drop at src));
      last =
          last_or now.last (take used (drop at src));
    } in
    let r : Ran = run k limit (length next) (now.used + used) (last_or now.last (take used (drop at src))) (drop used (drop at src)) in
    let r' : Ran = run k limit (length next) known.used known.last (drop (at + used) src) in
    let same : r ≡ r' = (let d = drop-drop used at src in
    λ i. run k limit (length next) (now.used + sym count i) (last_or now.last (take used (drop at src))) (d i)) in
    let sum : at + (used + r.used) ≡ at + used + r.used = omega arith in
    let whole : take at src ++ take used (drop at src) ≡ take (at + used) src = sym (take-add at used src) in
    record {
      within = there;
      known =
          (λ i. record (a.known i) {
            used = (a.known i).used + length (take used (drop at src));
            last =
                last_or (a.known i).last (take used (drop at src));
          })
          ∙ (let e : before.used + length (take at src) + length (take used (drop at src)) ≡ before.used + length
          (take (at + used) src) = omega (arith, length-append (take at src) (take used (drop at src)), ap length whole) in
          let l = sym (last_or-append before.last (take at src) (take used (drop at src))) ∙ ap (last_or before.last) whole in
          λ i. record before { used = e i; last = l i });
      made = a.made ++ p.made;
      filled = p.filled ∙ (λ i. a.filled i ++ p.made) ∙ append_assoc old a.made p.made;
      goes =
          a.goes ∙ (λ i. joined (record { used = at; made = a.made }) (p.goes i))
          ∙ (λ i. record { used = sum i; made = sym (append_assoc a.made p.made r.made) i })
          ∙ (λ i. joined (record { used = at + used; made = a.made ++ p.made }) (same i));
      room =
          (let e = ap (λ (z : Ran). length z.made) p.goes in
          let b = a.room in
          let f = ap length p.filled in
          let g = ap (λ (z : Ran). length z.made) same in
          omega (arith, e, b, f, g, grew, length-append new p.made, length-append p.made r.made));
    }

-- a run that stops where it has come to
pub along-ends : (k : FilterKind) (limit : ℕ) (before now : Knowledge) (src old new : List ℕ) (at capacity : ℕ) →
    Along k limit before now src old new at capacity →
    run k limit (length new) now.used now.last (drop at src) ≡ nothing_ran → RanOver k limit before src old now new at
along-ends k limit before now src old new at capacity a stops =
    let whole : run k limit (length old) before.used before.last src ≡ record { used = at; made = a.made } =
    a.goes ∙ (λ i. joined (record { used = at; made = a.made }) (stops i))
    ∙ (let e : at + 0 ≡ at = omega arith in λ i. record { used = e i; made = append-nil a.made i }) in
    record {
      used_is = sym (ap (λ (z : Ran). z.used) whole);
      filled = a.filled ∙ ap (λ (z : Ran). old ++ z.made) (sym whole);
      known = a.known;
    }

-- it stops where nothing is left, or at the limit
pub stops-done : (k : FilterKind) (limit n count : ℕ) (last : Option ℕ) (src : List ℕ) (at : ℕ) → length src ≤ at →
    run k limit n count last (drop at src) ≡ nothing_ran
stops-done k limit n count last src at le = ap (run k limit n count last) (drop_of_length-le src le)

pub stops-full : (k : FilterKind) (limit n count : ℕ) (last : Option ℕ) (src : List ℕ) → limit ≤ n →
    run k limit n count last src ≡ nothing_ran
stops-full k limit n count last [] le = refl
stops-full k limit n count last (x ∷ src) le =
    let full : nat_le limit n ≡ true = grind (arith, nat_tests, le) in
    λ i. goes_on (full i || is_bad_byte k x) (adds k count last x) (run k limit (n + length (adds k count last x)) (count + 1) (Some x) src)
