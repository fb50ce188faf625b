-- Four numbers of a trace: how many turns it has, how many bytes were read and written in it, and a sum of those that were written.
use Rattle.std.specs.Prelude.{ℕ, ◌+◌, ◌*◌, ◌%◌, ◌^◌, List, [], fold, sum_by, count_by}
use Rattle.std.specs.List.{flat_map}
use Rattle.ev_types.specs.declared.answer.WriteAnswer.TheVariants as write
use Rattle.ev_types.specs.declared.entry.Entry.TheVariants as entry
use Rattle.ev_types.specs.Trace.{Event, Trace}
use Rattle.relay_model.specs.RatesKept.{is_turn}
use Rattle.relay_model.specs.ClosingTurns.{got_count}

-- how many turns begin in a trace
abbrev pub turns_in : Trace → ℕ
turns_in t = count_by is_turn t

-- how many bytes are read in a trace, at all ends together
abbrev pub read_in : Trace → ℕ
read_in t = sum_by got_count t

-- how many bytes an event writes, at whichever end
abbrev pub took_count : Event → ℕ
took_count (entry.Write side offered (write.Took n), bytes) = n
took_count _ = 0

-- how many bytes are written in a trace, at all ends together
abbrev pub written_in : Trace → ℕ
written_in t = sum_by took_count t

-- the bytes that an event writes, at whichever end
abbrev pub taken_by : Event → List ℕ
taken_by (entry.Write side offered (write.Took n), bytes) = bytes
taken_by _ = []

-- all bytes that are written in a trace, in its order, at all ends together
abbrev pub all_taken : Trace → List ℕ
all_taken t = flat_map taken_by t

-- the sum with a byte more: 31 times as much and the byte, modulo 2^32
abbrev pub next_sum : ℕ → ℕ → ℕ
next_sum sum byte = (sum * 31 + byte) % 2 ^ 32

-- the sum of all bytes that are written in a trace, from 0 on
abbrev pub sum_of : Trace → ℕ
sum_of t = fold next_sum 0 (all_taken t)
