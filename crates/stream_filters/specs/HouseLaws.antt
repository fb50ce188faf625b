-- The five filters obey the laws of filters of a byte stream. An impl takes the proofs of its laws from `specs/`.
use Rattle.std.proofs.Common.{◌≤◌, ℕ, List, length, drop, sym, ◌∙◌, subst}
use Rattle.std.proofs.Math.Arith.{le-zero}
use Rattle.std.proofs.Math.Nat.{sub-le, le_of_sub-eq-zero}
use Rattle.filter_model.specs.Filter.{filter_of}
use Rattle.filter_model.specs.FilterLaws.{last_of, LookAlike}
use Rattle.filter_model.specs.Running.{Running}
use Rattle.filter_model.proofs.EveryFilter.{every_filter, begins_with_input}
use Rattle.stream_filters.specs.House.{MayHaveUsed, HouseIsLawful}

none-less : (n : ℕ) → 0 ≤ n
none-less n = le_of_sub-eq-zero (le-zero (sub-le 0 n))

used-alike : (x : Running) (xs zs : List ℕ) → MayHaveUsed x xs → MayHaveUsed x zs → LookAlike (filter_of x.kind) xs zs
used-alike x xs zs a b =
    let z = begins_with_input x.kind in
    record {
      count = sym a.used ∙ b.used;
      begun = subst (λ n. n ≤ length xs) (sym z) (none-less (length xs));
      last = (λ i. last_of (drop (z i) xs)) ∙ sym a.last ∙ b.last ∙ (λ i. last_of (drop (sym z i) zs));
      left_good = a.good;
      right_good = b.good;
    }

pub house_is_lawful : HouseIsLawful
house_is_lawful = record {
  prefix = λ x. (every_filter x.kind).prefix;
  badness = λ x. (every_filter x.kind).badness;
  counted = λ x xs a. a.used;
  good = λ x xs a. a.good;
  cut = λ x xs zs a b.
      let alike = used-alike x xs zs a b in
      let law = (every_filter x.kind).cut in
      record {
        adds = law.same xs zs alike;
        adds_at_end = law.same_at_end xs zs alike;
        bad = law.same_bad xs zs alike;
        bad_at_end = law.same_bad_at_end xs zs alike;
      };
}
