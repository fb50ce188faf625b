-- What a contract sees of a side's limit, and how it goes on: in the words of the relay's model and of its state.
use Rattle.std.specs.Prelude.{ℕ, ◌==◌, min, List}
use Rattle.std.specs.List.{list_any}
use Rattle.token_bucket.specs.declared.limit.Dir.{Dir}
use Rattle.token_bucket.specs.declared.limit.Dir.TheVariants as dir
use Rattle.token_bucket.specs.declared.limit.LimitCfg.{LimitCfg}
use Rattle.relay_model.specs.Plain.{Standing, first_limit}
use Rattle.relay_model.specs.Rates.{next_tick}
use Rattle.relay_model.specs.Moments.{both_ways, moment_where}
use Rattle.relay_state.specs.Running.{Gauge, held_at, first_gauge, next_gauge, brought, spent_by}

-- The limit as it was set, and how short its two buckets are.
pub record LimitValue : Type 0 where
  pub standing : Standing
  pub gauge : Gauge

-- a limit that is the first one of its side, set in a turn at its time
abbrev pub first_value : LimitCfg → ℕ → ℕ → LimitValue
first_value cfg turn time = record { standing = first_limit time turn cfg; gauge = first_gauge cfg time }

-- what a bucket holds at a time
abbrev pub bucket_holds : LimitValue → Dir → ℕ → ℕ
bucket_holds v d time = held_at v.standing.cfg v.gauge d time

-- Another limit in its place. It takes what the buckets hold with it, cut to its bursts.
abbrev pub with_cfg : LimitCfg → ℕ → ℕ → LimitValue → LimitValue
with_cfg cfg turn time v = record {
  standing = record {
    cfg = cfg;
    turn = turn;
    time = time;
    read_level = min (bucket_holds v dir.Read time) cfg.read_burst;
    write_level = min (bucket_holds v dir.Write time) cfg.write_burst;
  };
  gauge = next_gauge v.standing.cfg cfg time v.gauge;
}

-- both buckets are brought up to date
abbrev pub brought_up : ℕ → LimitValue → LimitValue
brought_up time v = record v { gauge = brought v.standing.cfg time v.gauge }

-- bytes are moved in a direction at a time
abbrev pub with_spent : Dir → ℕ → ℕ → LimitValue → LimitValue
with_spent d n time v = record v { gauge = spent_by d n (brought v.standing.cfg time v.gauge) }

-- when a bucket that holds nothing at a time gains again: the next tick, or no moment where both hold something
abbrev pub next_gains : LimitValue → ℕ → List ℕ
next_gains v time =
    moment_where (list_any (λ d. bucket_holds v d time == 0) both_ways) (next_tick v.standing.cfg.tick_ms time)
