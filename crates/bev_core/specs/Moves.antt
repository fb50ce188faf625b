-- Bytes that go from a buffer of one bufferevent to a buffer of another.
use Rattle.std.specs.Prelude.{◌≡◌, ◌≤◌, ℕ, ◌&&◌, ◌==◌, nat_le, min, false, length, take}
use Rattle.token_bucket.specs.declared.limit.Dir.{Dir}
use Rattle.token_bucket.specs.declared.limit.Dir.TheVariants.{Read, Write}
use Rattle.bev_core.specs.BevValue.{Held, BevValue}
use Rattle.bev_core.specs.Steps.{held, with_held, more, less}

-- The first n bytes of the one can go to the end of the other without taking memory: the other is empty and all go, or it has room
-- for them.
abbrev pub GoesInto : ℕ → Held → Held → Type 0
GoesInto n from to =
    (nat_le (length from.bytes) n && length to.bytes == 0) ≡ false → min n (length from.bytes) ≤ to.spare

-- where bytes come to that cross: those of an input to an output, and those of an output to an input
abbrev pub opposite : Dir → Dir
opposite Read = Write
opposite Write = Read

-- the first n bytes of the buffer of one direction went to the end of the other bufferevent's buffer of a direction
pub record BytesGo (n : ℕ) (dir to_dir : Dir) (from to from' to' : BevValue) : Type 0 where
  pub gone : from' ≡ with_held from dir (less (held from dir) n (held from' dir).spare)
  pub come : to' ≡ with_held to to_dir (more (held to to_dir) (take n (held from dir).bytes) (held to' to_dir).spare)
