-- How far a direction has come: one list, what was read, and four places in it. What the four buffers hold follows.
use Rattle.std.specs.Prelude.{◌≡◌, ℕ, ◌≤◌, Bool, true, false, if◌then◌else◌, List, length, take, drop, None, is_none}
use Rattle.filter_model.specs.Filter.{Filter}

-- The counts of a direction and its flags. A filter that is finished makes no more; a held direction gives nothing to
-- the write filter.
pub record Flow : Type 0 where
  pub used : ℕ  -- bytes that the read filter used
  pub moved : ℕ  -- bytes that were moved from the input to the peer's output
  pub turned : ℕ  -- bytes that the write filter used
  pub given : ℕ  -- bytes that the peer's end took
  pub read_done : Bool  -- the read filter is finished
  pub write_done : Bool  -- the write filter is finished
  pub held : Bool

abbrev pub no_flow : Flow
no_flow = record { used = 0; moved = 0; turned = 0; given = 0; read_done = false; write_done = false; held = false }

-- what the read filter has made of the bytes that it used, its end where it is finished
abbrev pub middle : Filter → List ℕ → Flow → List ℕ
middle r read f = if f.read_done then r.at_end (take f.used read) else r.before (take f.used read)

-- what the write filter has made of the bytes that it used, its end where it is finished
abbrev pub outcome : Filter → Filter → List ℕ → Flow → List ℕ
outcome r w read f = if f.write_done then w.at_end (take f.turned (middle r read f)) else w.before (take f.turned (middle r read f))

-- read and not used yet
abbrev pub raw_input : List ℕ → Flow → List ℕ
raw_input read f = drop f.used read

-- made by the read filter and not moved yet
abbrev pub input : Filter → List ℕ → Flow → List ℕ
input r read f = drop f.moved (middle r read f)

-- moved and not used by the write filter yet
abbrev pub output : Filter → List ℕ → Flow → List ℕ
output r read f = drop f.turned (take f.moved (middle r read f))

-- made by the write filter and not given yet
abbrev pub raw_output : Filter → Filter → List ℕ → Flow → List ℕ
raw_output r w read f = drop f.given (outcome r w read f)

-- No count passes what is there for it. The read filter is finished only where the side has ended, all was used and its
-- end is good; the write filter only where the read filter is, all was moved and used, and its end is good.
pub record Fits (r w : Filter) (read : List ℕ) (ended : Bool) (f : Flow) : Type 0 where
  pub used : f.used ≤ length read
  pub moved : f.moved ≤ length (middle r read f)
  pub turned : f.turned ≤ f.moved
  pub given : f.given ≤ length (outcome r w read f)
  pub read_done : f.read_done ≡ true → (ended ≡ true) × (f.used ≡ length read) × (r.bad_at_end read ≡ None)
  pub write_done : f.write_done ≡ true →
      (f.read_done ≡ true) × (f.turned ≡ f.moved) × (f.moved ≡ length (middle r read f)) × (w.bad_at_end (middle r read f) ≡ None)

-- what a direction makes of all that was read, before the end
abbrev pub passed_on : Filter → Filter → List ℕ → List ℕ
passed_on r w xs = w.before (r.before xs)

-- and at the end: both ends are added, unless the read filter's end is bad
abbrev pub passed_at_end : Filter → Filter → List ℕ → List ℕ
passed_at_end r w xs = if is_none (r.bad_at_end xs) then w.at_end (r.at_end xs) else passed_on r w xs

-- the one before the side has ended, the other from then on
abbrev pub passed : Filter → Filter → Bool → List ℕ → List ℕ
passed r w ended xs = if ended then passed_at_end r w xs else passed_on r w xs
