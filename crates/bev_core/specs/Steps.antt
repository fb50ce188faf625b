-- What each call leaves of a bufferevent.
use Rattle.std.specs.Prelude.{ℕ, ◌-◌, ◌==◌, if◌then◌else◌, Bool, true, false, List, ◌++◌, length, drop}
use Rattle.token_bucket.specs.declared.limit.Dir.{Dir}
use Rattle.token_bucket.specs.declared.limit.Dir.TheVariants.{Read, Write}
use Rattle.bev_core.specs.BevValue.{Held, BevValue, nothing}

-- a direction is enabled, or not, as said
abbrev pub with_enabled : BevValue → Dir → Bool → BevValue
with_enabled bev Read on = record bev { reading = on }
with_enabled bev Write on = record bev { writing = on }

-- both marks of a direction are set
abbrev pub with_marks : BevValue → Dir → ℕ → ℕ → BevValue
with_marks bev Read low high = record bev { read_low = low; read_high = high }
with_marks bev Write low high = record bev { write_low = low; write_high = high }

-- both timeouts are set, and the moment is the last activity of both directions
abbrev pub with_timeouts : BevValue → ℕ → ℕ → ℕ → BevValue
with_timeouts bev of_reading of_writing moment =
    record bev { read_ms = of_reading; write_ms = of_writing; last_read = moment; last_write = moment }

-- the moment is the last activity of a direction
abbrev pub touched : BevValue → Dir → ℕ → BevValue
touched bev Read moment = record bev { last_read = moment }
touched bev Write moment = record bev { last_write = moment }

-- it isn't live any more, and its bytes are dropped
abbrev pub freed : BevValue → BevValue
freed bev = record bev { live = false; input = nothing; output = nothing }

-- the buffer of a direction: what is read passes inputs, what is written passes outputs
abbrev pub held : BevValue → Dir → Held
held bev Read = bev.input
held bev Write = bev.output

-- the buffer of a direction is another, and all else as it was
abbrev pub with_held : BevValue → Dir → Held → BevValue
with_held bev Read buf = record bev { input = buf }
with_held bev Write buf = record bev { output = buf }

-- bytes come in behind; the last argument is what is spare afterwards
abbrev pub more : Held → List ℕ → ℕ → Held
more held bytes left = record { bytes = held.bytes ++ bytes; spare = left }

-- the first n bytes go, or all where there are fewer
abbrev pub less : Held → ℕ → ℕ → Held
less held n left = record { bytes = drop n held.bytes; spare = left }

-- the room of a buffer without a byte is freed
abbrev pub without_room : Held → Held
without_room held = if length held.bytes == 0 then nothing else held

-- the room of both buffers is freed, where they have no byte
abbrev pub given_up : BevValue → BevValue
given_up bev = record bev { input = without_room bev.input; output = without_room bev.output }

-- bytes come into the buffer of a direction in room that was made before
abbrev pub fed_reserved : BevValue → Dir → List ℕ → BevValue
fed_reserved bev dir bytes = with_held bev dir (more (held bev dir) bytes ((held bev dir).spare - length bytes))

-- end of file was met in a direction
abbrev pub ended_at : BevValue → Dir → BevValue
ended_at bev dir = record (with_enabled bev dir false) { ended = true }

-- an error was met in a direction
abbrev pub failed_at : BevValue → Dir → BevValue
failed_at bev dir = record (with_enabled bev dir false) { failed = true }
