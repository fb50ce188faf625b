-- What it is that no byte of a direction is lost, made or changed. The first record speaks of the trace and the counts, the
-- second of the buffers and the running filters, which hold exactly what the counts leave. A direction goes from a side to
-- its peer. What follows from these records stands in ConservedLaws.
use Rattle.std.specs.Prelude.{◌≡◌, ℕ, ◌≤◌, Bool, true, if◌then◌else◌, List, [], take, All, length, nat_eq, ◌&&◌}
use Rattle.ev_types.specs.declared.filter.FilterKind.{FilterKind}
use Rattle.ev_types.specs.declared.side.SideId.{SideId}
use Rattle.ev_types.specs.Sides.{peer}
use Rattle.ev_types.specs.Trace.{Trace}
use Rattle.relay_model.specs.Trace.{moved_at_free, given_at_free, is_write_closed}
use Rattle.filter_model.specs.Filter.{Filter}
use Rattle.filter_model.specs.Running.{Running, StandsAt}
use Rattle.relay_model.specs.Flow.{Flow, Fits, middle, outcome, raw_input, input, output, raw_output, passed_at_end}

-- nothing waits and no filter will make more: what was given is all that the direction makes at the end
pub record IsComplete (r w : Filter) (read taken : List ℕ) (f : Flow) : Type 0 where
  pub read_done : f.read_done ≡ true
  pub write_done : f.write_done ≡ true
  pub raw_input : raw_input read f ≡ []
  pub input : input r read f ≡ []
  pub output : output r read f ≡ []
  pub raw_output : raw_output r w read f ≡ []
  pub all : taken ≡ passed_at_end r w read

-- What a trace and the counts say of the direction that begins at a side, where `read` was read there, `taken` was taken by
-- the peer's end, and `ended` tells whether the side has ended. The counts fit. What was taken is the first `given` bytes
-- that the write filter made. The free of the side told how many bytes were moved, that of the peer how many were given.
-- Where writing was ended at the peer, the direction is complete.
pub record Accounted (r w : Filter) (t : Trace) (from : SideId) (read taken : List ℕ) (ended : Bool) (f : Flow) : Type 0 where
  pub fits : Fits r w read ended f
  pub given : taken ≡ take f.given (outcome r w read f)
  pub side_freed : All (λ told. told ≡ f.moved) (moved_at_free from t)
  pub peer_freed : All (λ told. told ≡ f.given) (given_at_free (peer from) t)
  pub closed : is_write_closed (peer from) t ≡ true → IsComplete r w read taken f

-- once the side is freed, these of its direction stand still
pub record StandsStill (old new : Flow) : Type 0 where
  pub moved : new.moved ≡ old.moved
  pub read_done : new.read_done ≡ old.read_done
  pub write_done : new.write_done ≡ old.write_done

-- the bytes that a direction holds
pub record Buffers : Type 0 where
  pub raw_input : List ℕ
  pub input : List ℕ
  pub output : List ℕ
  pub raw_output : List ℕ

abbrev pub no_buffers : Buffers
no_buffers = record { raw_input = []; input = []; output = []; raw_output = [] }

-- What the counts leave: a live side has the first two buffers, a live peer the other two, and those of a freed one are gone.
abbrev pub left : Filter → Filter → List ℕ → Bool → Bool → Flow → Buffers
left r w read from_live to_live f = record {
  raw_input = if from_live then raw_input read f else [];
  input = if from_live then input r read f else [];
  output = if to_live then output r read f else [];
  raw_output = if to_live then raw_output r w read f else [];
}

-- the read filter has made all that it will ever make, and all of it was moved
abbrev pub all_moved : Filter → List ℕ → Flow → Bool
all_moved r read f = f.read_done && nat_eq f.moved (length (middle r read f))

-- The buffers hold exactly what the counts leave. While the side lives, its read filter stands at the bytes that it used of
-- what was read; while the peer lives, its write filter stands at the bytes that it used of what was moved.
pub record Holds (read_name write_name : FilterKind) (r w : Filter) (read : List ℕ) (ended from_live to_live : Bool) (f : Flow) (b : Buffers) (reader writer : Running) : Type 0 where
  pub buffers : b ≡ left r w read from_live to_live f
  pub reads : from_live ≡ true → StandsAt read_name r read f.used ended f.read_done reader
  pub writes : to_live ≡ true → StandsAt write_name w (take f.moved (middle r read f)) f.turned (all_moved r read f) f.write_done writer
