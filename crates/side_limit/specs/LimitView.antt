-- How the code keeps a side's limit.
use Rattle.std.specs.Prelude.{◌≡◌, ◌≤◌, ◌/◌}
use Rattle.side_limit.specs.LimitValue.{LimitValue}
use Rattle.side_limit.specs.declared.limit.SideLimit.TheInside as limit

abbrev pub limit_value : limit.Inside → LimitValue
limit_value x = record {
  standing = record {
    cfg = x.cfg;
    turn = x.set_turn;
    time = x.set_time;
    read_level = x.set_read;
    write_level = x.set_write;
  };
  gauge = record { time = x.time; read = x.bucket.read.short; write = x.bucket.write.short };
}

-- The bucket is one under this limit, it has what came up to the time, and it is not overdrawn.
pub record KeepsBucket (x : limit.Inside) : Type 0 where
  pub tick : x.bucket.tick ≡ x.time / x.cfg.tick_ms
  pub read_burst : x.bucket.read.burst ≡ x.cfg.read_burst
  pub write_burst : x.bucket.write.burst ≡ x.cfg.write_burst
  pub read_short : x.bucket.read.short ≤ x.cfg.read_burst
  pub write_short : x.bucket.write.short ≤ x.cfg.write_burst
