-- When five numbers make a limit. What a bucket does with a limit stands elsewhere.
use Rattle.std.specs.Prelude.{ℕ, ◌^◌, ◌==◌, ◌||◌, nat_lt, if◌then◌else◌, Option, Some, None, Result, Ok, Err}
use Rattle.token_bucket.specs.declared.limit.LimitFault.{LimitFault}
use Rattle.token_bucket.specs.declared.limit.LimitFault.TheVariants.{RateZero, RateAboveBurst, BurstTooLarge, TickZero, TickTooLong}

-- Why the numbers make no limit, or none. A rate is 0; else a rate is above its burst; else a burst is above
-- 2^40; else the tick is 0; else the tick is above 2^20.
abbrev pub limit_verdict : ℕ → ℕ → ℕ → ℕ → ℕ → Option LimitFault
limit_verdict read_rate read_burst write_rate write_burst tick_ms =
    if read_rate == 0 || write_rate == 0 then Some RateZero
    else (if nat_lt read_burst read_rate || nat_lt write_burst write_rate then Some RateAboveBurst
    else (if nat_lt (2 ^ 40) read_burst || nat_lt (2 ^ 40) write_burst then Some BurstTooLarge
    else (if tick_ms == 0 then Some TickZero
    else (if nat_lt (2 ^ 20) tick_ms then Some TickTooLong
    else None))))

-- the fault that a call answered, or none
abbrev pub fault_of : {T E : Type 0} → Result T E → Option E
fault_of (Ok x) = None
fault_of (Err e) = Some e
