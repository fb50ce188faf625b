-- Levels of buckets. One is kept as the bytes that it is short of its burst, so that an overdrawn one needs no sign.
use Rattle.std.specs.Prelude.{ℕ, ℤ, pos, ◌-ℤ◌, ◌+◌, ◌-◌, ◌*◌, ◌==◌, if◌then◌else◌}
use Rattle.token_bucket.specs.declared.limit.Dir.{Dir}
use Rattle.token_bucket.specs.declared.limit.Dir.TheVariants as dir
use Rattle.token_bucket.specs.declared.limit.LimitCfg.{LimitCfg}
use Rattle.token_bucket.specs.declared.level.Level.{Level}

-- a limit in one direction: bytes per tick, the most bytes at once, and the length of a tick
pub record Limit : Type 0 where
  pub rate : ℕ
  pub burst : ℕ
  pub tick : ℕ

abbrev pub limit_of : LimitCfg → Dir → Limit
limit_of cfg dir.Read = record { rate = cfg.read_rate; burst = cfg.read_burst; tick = cfg.tick_ms }
limit_of cfg dir.Write = record { rate = cfg.write_rate; burst = cfg.write_burst; tick = cfg.tick_ms }

-- the level as a limit is set for the first time: the bytes of one tick
abbrev pub at_rate : Limit → Level
at_rate l = record { burst = l.burst; short = l.burst - l.rate }

-- the level once so many ticks have brought their bytes, up to the limit's burst
abbrev pub with_ticks : Limit → ℕ → Level → Level
with_ticks l n x = record { burst = l.burst; short = (l.burst + x.short) - (x.burst + l.rate * n) }

-- the level at a refill since which so many ticks began; nothing changes where none did
abbrev pub refilled : Limit → ℕ → Level → Level
refilled l n x = if n == 0 then x else with_ticks l n x

-- the level once bytes were moved
abbrev pub less : ℕ → Level → Level
less n x = record x { short = x.short + n }

-- what a level has, or 0 where it is overdrawn, and what it lacks then
abbrev pub held : Level → ℕ
held x = x.burst - x.short

abbrev pub owed : Level → ℕ
owed x = x.short - x.burst

-- the signed number of bytes
abbrev pub signed : Level → ℤ
signed x = pos x.burst -ℤ pos x.short
