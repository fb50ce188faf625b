-- How a bufferevent keeps what it shows.
use Rattle.std.specs.Prelude.{◌≡◌}
use Rattle.bev_core.specs.BevValue.{BevValue}
use Rattle.bev_core.specs.declared.bev.Bev.TheInside.{Inside}

abbrev pub bev_value : Inside → BevValue
bev_value bev = record {
  live = bev.live;
  chunked = bev.input.chunked;
  reading = bev.reading;
  writing = bev.writing;
  ended = bev.ended;
  failed = bev.failed;
  read_low = bev.read_low;
  read_high = bev.read_high;
  write_low = bev.write_low;
  write_high = bev.write_high;
  read_ms = bev.read_ms;
  write_ms = bev.write_ms;
  last_read = bev.last_read;
  last_write = bev.last_write;
  refs = bev.refs;
  input = bev.input.held;
  output = bev.output.held;
}

-- both buffers lie in one piece, or both may lie in several chunks
abbrev pub IsBev : Inside → Type 0
IsBev bev = bev.output.chunked ≡ bev.input.chunked
