-- A step of any filter into a target that holds bytes is the step into an empty one, with what the limit leaves.
use Rattle.std.proofs.Common.{◌≡◌, ℕ, ◌+◌, ◌-◌, Bool, ◌==◌, ◌&&◌, ◌||◌, if◌then◌else◌, List, [], ◌++◌, length, take, ◌∙◌, ap, arith}
use Rattle.std.specs.Prelude.{nat_le, nat_lt, is_some}
use Rattle.filter_model.specs.Filter.{Filter, met}
use Rattle.filter_model.specs.FilterLaws.{more, more_at_end}
use Rattle.filter_model.specs.Stopping.{first_from, is_over}
use Rattle.stream_filters.specs.StreamSteps.{Reached, held_after, must_end, use_count, Taken, taken, taking}
use Rattle.stream_filters.proofs.ShiftLemmas.{le-shift, lt-shift}

module _ (f : Filter) (past src : List ℕ) (limit n : ℕ) where
  abbrev added : ℕ → ℕ
  added j = length (more f past (take j src))

  end-shift : (j : ℕ) → must_end f past src (limit - n) 0 j ≡ must_end f past src limit n j
  end-shift j =
      let a : 0 + added j ≡ added j = omega arith in
      ap (λ b. b || is_some (f.bad (past ++ take (j + 1) src))) (ap (nat_le (limit - n)) a ∙ le-shift limit n (added j))

  use-shift : use_count f past src (limit - n) 0 ≡ use_count f past src limit n
  use-shift = λ i. first_from (λ j. end-shift j i) 0 (length src)

  room-shift : (used : ℕ) → nat_lt (held_after f past src 0 used) (limit - n) ≡ nat_lt (held_after f past src n used) limit
  room-shift used =
      let a : 0 + added used ≡ added used = omega arith in
      ap (λ m. nat_lt m (limit - n)) a ∙ lt-shift limit n (added used)

  abbrev with_room : Bool → ℕ → Bool → Taken
  with_room over used room =
      let finished = over && (used == length src) && is_over f (past ++ src) room in
      record {
        used = used;
        made = (if finished then more_at_end f past (take used src) else more f past (take used src));
        reached = record { used = length past + used; finished = finished; stopped = met f (past ++ src) (length past + used) over room };
      }

  taking-shift : (over : Bool) → taking f past src over (limit - n) 0 (use_count f past src (limit - n) 0)
      ≡ taking f past src over limit n (use_count f past src limit n)
  taking-shift over =
      ap (λ u. taking f past src over (limit - n) 0 u) use-shift
      ∙ ap (with_room over (use_count f past src limit n)) (room-shift (use_count f past src limit n))

  pub taken-shift : (was : Reached) (over : Bool) → taken f past was over (limit - n) 0 src ≡ taken f past was over limit n src
  taken-shift was over =
      ap (λ t. if was.finished || is_some was.stopped then record { used = 0; made = []; reached = was } else t) (taking-shift over)
