-- In which directions groups are suspended, and to whom they leave something then.
use Rattle.std.specs.Prelude.{ℕ, Bool, true, false, not, slice_get, List, Option, Some, None}
use Rattle.std.specs.Option.{option_map_or}
use Rattle.token_bucket.specs.declared.limit.Dir.{Dir}
use Rattle.token_bucket.specs.declared.limit.Dir.TheVariants as dir
use Rattle.rate_group.specs.GroupValue.{GroupValue}
use Rattle.relay_core.specs.declared.halts.Halts.{Halts}

-- in which directions a group is suspended
abbrev pub halts_of : GroupValue → Halts
halts_of g = record { reads = g.read.suspended; writes = g.write.suspended }

abbrev pub halts_in : Halts → Dir → Bool
halts_in h dir.Read = h.reads
halts_in h dir.Write = h.writes

-- By what was noted of each group: a member of this one may move something in a direction, and so may who is in none.
abbrev pub is_free : List Halts → Dir → Option ℕ → Bool
is_free halts d None = true
is_free halts d (Some n) = option_map_or (λ h. not (halts_in h d)) (slice_get halts n) false
