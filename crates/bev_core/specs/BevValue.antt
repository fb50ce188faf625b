-- What contracts see of a bufferevent.
use Rattle.std.specs.Prelude.{ℕ, nat_le, Bool, true, false, List, [], length}
use Rattle.token_bucket.specs.declared.limit.Dir.{Dir}
use Rattle.token_bucket.specs.declared.limit.Dir.TheVariants.{Read, Write}
use Rattle.bev_core.specs.declared.state.BevState.{BevState}

-- one of its two buffers: the bytes, and how many more fit without taking memory
pub record Held : Type 0 where
  pub bytes : List ℕ
  pub spare : ℕ

-- Whether it is live, whether a buffer may lie in several chunks, what is enabled, what was met, the marks, the timeouts and the
-- moments of last activity in milliseconds, the references, and the two buffers.
pub record BevValue : Type 0 where
  pub live : Bool
  pub chunked : Bool
  pub reading : Bool
  pub writing : Bool
  pub ended : Bool
  pub failed : Bool
  pub read_low : ℕ
  pub read_high : ℕ
  pub write_low : ℕ
  pub write_high : ℕ
  pub read_ms : ℕ
  pub write_ms : ℕ
  pub last_read : ℕ
  pub last_write : ℕ
  pub refs : ℕ
  pub input : Held
  pub output : Held

-- no byte, and room for none
abbrev pub nothing : Held
nothing = record { bytes = []; spare = 0 }

-- a new one, each of whose buffers lies in one piece: live, writing enabled and reading not, with no marks and no timeouts
abbrev pub new_bev : BevValue
new_bev = record {
  live = true;
  chunked = false;
  reading = false;
  writing = true;
  ended = false;
  failed = false;
  read_low = 0;
  read_high = 0;
  write_low = 0;
  write_high = 0;
  read_ms = 0;
  write_ms = 0;
  last_read = 0;
  last_write = 0;
  refs = 0;
  input = nothing;
  output = nothing;
}

-- a new one whose buffers may lie in several chunks, or not
abbrev pub new_chunked : Bool → BevValue
new_chunked chunked = record new_bev { chunked = chunked }

-- the input is at least as long as the read low mark, or the output at most as long as the write low mark
abbrev pub reaches_low : BevValue → Dir → Bool
reaches_low bev Read = nat_le bev.read_low (length bev.input.bytes)
reaches_low bev Write = nat_le (length bev.output.bytes) bev.write_low

-- its plain values, with lengths in place of the bytes
abbrev pub state_of : BevValue → BevState
state_of bev = record {
  live = bev.live;
  reading = bev.reading;
  writing = bev.writing;
  ended = bev.ended;
  failed = bev.failed;
  input = length bev.input.bytes;
  output = length bev.output.bytes;
  read_low = bev.read_low;
  read_high = bev.read_high;
  write_low = bev.write_low;
  write_high = bev.write_high;
  read_ms = bev.read_ms;
  write_ms = bev.write_ms;
  last_read = bev.last_read;
  last_write = bev.last_write;
  refs = bev.refs;
}

-- whether a direction is enabled
abbrev pub is_enabled : BevValue → Dir → Bool
is_enabled bev Read = bev.reading
is_enabled bev Write = bev.writing

-- the high mark of a direction
abbrev pub high_mark : BevValue → Dir → ℕ
high_mark bev Read = bev.read_high
high_mark bev Write = bev.write_high

-- the timeout of a direction, in milliseconds
abbrev pub timeout : BevValue → Dir → ℕ
timeout bev Read = bev.read_ms
timeout bev Write = bev.write_ms

-- the moment of the last activity of a direction, in milliseconds
abbrev pub last_activity : BevValue → Dir → ℕ
last_activity bev Read = bev.last_read
last_activity bev Write = bev.last_write
