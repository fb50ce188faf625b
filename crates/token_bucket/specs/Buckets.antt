-- Buckets: a level for each direction, and the tick up to which both have what came.
use Rattle.std.specs.Prelude.{ℕ, ◌+◌, ◌-◌, ◌*◌, ◌/◌, max}
use Rattle.token_bucket.specs.declared.limit.Dir.{Dir}
use Rattle.token_bucket.specs.declared.limit.Dir.TheVariants as dir
use Rattle.token_bucket.specs.declared.limit.LimitCfg.{LimitCfg}
use Rattle.token_bucket.specs.declared.level.Level.{Level}
use Rattle.token_bucket.specs.declared.bucket.Bucket.{Bucket}
use Rattle.token_bucket.specs.Levels.{less}

abbrev pub level_of : Bucket → Dir → Level
level_of b dir.Read = b.read
level_of b dir.Write = b.write

-- how many ticks of a limit have begun since the tick of a bucket
abbrev pub ticks_since : Bucket → LimitCfg → ℕ → ℕ
ticks_since b cfg now = now / cfg.tick_ms - b.tick

-- the level of one direction, once bytes were moved in another or the same
abbrev pub with_less : Dir → Dir → ℕ → Level → Level
with_less dir.Read dir.Read n x = less n x
with_less dir.Write dir.Write n x = less n x
with_less dir.Read dir.Write n x = x
with_less dir.Write dir.Read n x = x
