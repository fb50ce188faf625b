-- How a tape keeps a trace.
use Rattle.std.specs.Prelude.{◌≡◌, ◌-◌, length, sum_by, vec_len, vec_capacity}
use Rattle.ev_types.specs.declared.tape.Tape.TheInside.{Inside}
use Rattle.ev_types.specs.Trace.{bytes_beside, paired}
use Rattle.ev_types.specs.Taped.{Taped}

abbrev pub taped : Inside → Taped
taped t = record {
  trace = paired t.entries.items t.bytes.items;
  spare_entries = vec_capacity t.entries - vec_len t.entries;
  spare_bytes = vec_capacity t.bytes - vec_len t.bytes;
}

-- the bytes are exactly those that stand beside the entries
abbrev pub IsTape : Inside → Type 0
IsTape t = sum_by bytes_beside t.entries.items ≡ length t.bytes.items
