-- A step of any filter of a byte stream, in the words of its definition: what some bytes give behind those that it used.
use Rattle.std.specs.Prelude.{◌≡◌, ℕ, ◌+◌, Bool, ◌==◌, ◌&&◌, ◌||◌, nat_lt, nat_le, if◌then◌else◌, ⊤, List, [], ◌++◌, length, take, Option}
use Rattle.std.specs.Prelude.{Some, None, is_some, not, ◌^◌, Result, Ok, Err}
use Rattle.ev_types.specs.declared.filter.Mode.{Mode}
use Rattle.filter_model.specs.Filter.{Filter, met}
use Rattle.filter_model.specs.FilterLaws.{PrefixLaw, BadLaw, more, more_at_end}
use Rattle.filter_model.specs.Stopping.{first_from, is_over}
use Rattle.stream_filters.specs.StepAnswers.{is_last, says_spent}
use Rattle.stream_filters.specs.declared.stream_filter.Step.{Step}
use Rattle.stream_filters.specs.declared.fault.FilterFault.{FilterFault}
use Rattle.stream_filters.specs.declared.fault.FilterFault.TheVariants.{Memory, BadByte, Spent}

-- how far a filter has come: how many bytes it used, whether it is finished, and the bad place at which it stopped
pub record Reached : Type 0 where
  pub used : ℕ
  pub finished : Bool
  pub stopped : Option ℕ

-- After these two inputs the same bytes add the same, and are bad at the same place.
pub record GoOnAlike (f : Filter) (xs zs : List ℕ) : Type 0 where
  pub adds : (ys : List ℕ) → more f xs ys ≡ more f zs ys
  pub adds_at_end : (ys : List ℕ) → more_at_end f xs ys ≡ more_at_end f zs ys
  pub bad : (ys : List ℕ) → f.bad (xs ++ ys) ≡ f.bad (zs ++ ys)
  pub bad_at_end : (ys : List ℕ) → f.bad_at_end (xs ++ ys) ≡ f.bad_at_end (zs ++ ys)

-- What a filter of a byte stream obeys. Its output is never taken back and stops before a bad place. The bytes that it may have used
-- are good and as many as it counts. What it keeps of them is all that matters: whichever of them it used, it goes on alike.
pub record IsStreamFilter {S : Type 0} (filter : S → Filter) (reached : S → Reached) (known : S → List ℕ → Type 0) : Type 0 where
  pub prefix : (x : S) → PrefixLaw (filter x)
  pub badness : (x : S) → BadLaw (filter x)
  pub counted : (x : S) (xs : List ℕ) → known x xs → (reached x).used ≡ length xs
  pub good : (x : S) (xs : List ℕ) → known x xs → (filter x).bad xs ≡ None
  pub cut : (x : S) (xs zs : List ℕ) → known x xs → known x zs → GoOnAlike (filter x) xs zs

-- how many bytes the target holds, `held` of them from before, behind what the first so many bytes of src add after `past`
abbrev pub held_after : Filter → List ℕ → List ℕ → ℕ → ℕ → ℕ
held_after f past src held count = held + length (more f past (take count src))

-- must a step stop there: its target is at the limit or above, or the next byte is bad
abbrev pub must_end : Filter → List ℕ → List ℕ → ℕ → ℕ → ℕ → Bool
must_end f past src limit held count =
    nat_le limit (held_after f past src held count) || is_some (f.bad (past ++ take (count + 1) src))

-- how many bytes of src a step uses: those before the first place at which it must stop, or all
abbrev pub use_count : Filter → List ℕ → List ℕ → ℕ → ℕ → ℕ
use_count f past src limit held = first_from (must_end f past src limit held) 0 (length src)

-- what a step did: how many bytes it used, what it made, and how far the filter came
pub record Taken : Type 0 where
  pub used : ℕ
  pub made : List ℕ
  pub reached : Reached

-- What so many bytes make, at the end where the filter is finished by it: where all are used, no more will come, the end is good, and
-- nothing is held back or the target has room.
abbrev pub taking : Filter → List ℕ → List ℕ → Bool → ℕ → ℕ → ℕ → Taken
taking f past src over limit held used =
    let room = nat_lt (held_after f past src held used) limit in
    let finished = over && (used == length src) && is_over f (past ++ src) room in
    record {
      used = used;
      made = (if finished then more_at_end f past (take used src) else more f past (take used src));
      reached = record { used = length past + used; finished = finished; stopped = met f (past ++ src) (length past + used) over room };
    }

-- The step of a filter that used `past` and came so far, where it is offered src, the stream ends behind that or not, and its target
-- holds `held` bytes. One that is finished or has stopped does nothing more.
abbrev pub taken : Filter → List ℕ → Reached → Bool → ℕ → ℕ → List ℕ → Taken
taken f past was over limit held src =
    if was.finished || is_some was.stopped then record { used = 0; made = []; reached = was }
    else taking f past src over limit held (use_count f past src limit held)

-- the step was made: the filter came as far as it says, may have used these bytes too, and what it made stands behind what the target held
pub record Comes (known : List ℕ → Type 0) (t : Taken) (past src : List ℕ) (is : Reached) (target filled : List ℕ) : Type 0 where
  pub knows : known (past ++ take t.used src)
  pub reached : is ≡ t.reached
  pub filled_by : filled ≡ target ++ t.made

-- a step that did not stop
pub record GoesOn (step : Step) (t : Taken) : Type 0 where
  pub used : step.used ≡ t.used
  pub finished : step.finished ≡ t.reached.finished
  pub unstopped : t.reached.stopped ≡ None

-- Ok tells how many bytes were used and whether the filter is finished, where it did not stop. BadByte tells how many were used and the
-- place at which it stopped.
abbrev pub Tells : Result Step FilterFault → (List ℕ → Type 0) → Taken → List ℕ → List ℕ → Reached → List ℕ → List ℕ → Type 0
Tells (Ok step) known t past src is target filled = GoesOn step t × Comes known t past src is target filled
Tells (Err (BadByte used place)) known t past src is target filled =
    (used ≡ t.used) × (t.reached.stopped ≡ Some place) × Comes known t past src is target filled
Tells (Err Memory) known t past src is target filled = ⊤
Tells (Err Spent) known t past src is target filled = ⊤

-- want of memory changed nothing, and neither did Spent
abbrev pub KeptIfRefused : {S : Type 0} → Result Step FilterFault → S → S → List ℕ → List ℕ → Type 0
KeptIfRefused (Ok step) before after target filled = ⊤
KeptIfRefused (Err (BadByte used place)) before after target filled = ⊤
KeptIfRefused (Err Memory) before after target filled = (after ≡ before) × (filled ≡ target)
KeptIfRefused (Err Spent) before after target filled = (after ≡ before) × (filled ≡ target)

-- it goes on, and the bytes that it used and those offered are more than a u64 counts
abbrev pub is_beyond : Reached → ℕ → Bool
is_beyond x offered = not (x.finished || is_some x.stopped) && not (nat_lt (x.used + offered) (2 ^ 64))

-- One step of a filter. It is the same filter then. Whatever it may have used before, it answers and makes what its definition says,
-- and may have used what the step used too. A refused step changed nothing, and Spent comes exactly where the bytes can't be counted.
pub record MakesStep {S : Type 0} (filter : S → Filter) (reached : S → Reached) (known : S → List ℕ → Type 0) (mode : Mode) (limit : ℕ)
    (src : List ℕ) (result : Result Step FilterFault) (before after : S) (target filled : List ℕ) : Type 0 where
  pub same : filter after ≡ filter before
  pub tells : (past : List ℕ) → known before past →
      Tells result (known after) (taken (filter before) past (reached before) (is_last mode) limit (length target) src) past src
      (reached after) target filled
  pub refused : KeptIfRefused result before after target filled
  pub spent : says_spent result ≡ is_beyond (reached before) (length src)
