-- The limit that five numbers make, and that five words spell.
use Rattle.std.specs.Prelude.{◌≡◌, ℕ, ◌^◌, ◌<◌, ◌≤◌, ◌&&◌, nat_lt, nat_le, Bool, true, false, List, [], ◌∷◌, Option, Some, None, refl}
use Rattle.std.proofs.Common.{ltb-true, leb-true}
use Rattle.std.proofs.lemmas.Bool.{and_parts}
use Rattle.token_bucket.specs.declared.limit.LimitCfg.{LimitCfg}
use Rattle.script_text.specs.Numbers.{any_number}
use Rattle.script_text.specs.ValueGrammar.{◌>>=◌}

-- Rates are above 0 and within their bursts, bursts within 2^40 bytes, and a tick is 1 to 2^20 ms long.
pub record IsLimit (rr rb wr wb tick : ℕ) : Type 0 where
  pub reads : 0 < rr
  pub read_within : rr ≤ rb
  pub writes : 0 < wr
  pub write_within : wr ≤ wb
  pub read_burst_within : rb ≤ 2 ^ 40
  pub write_burst_within : wb ≤ 2 ^ 40
  pub ticks : 0 < tick
  pub tick_within : tick ≤ 2 ^ 20

abbrev pub are_rates : ℕ → ℕ → ℕ → ℕ → Bool
are_rates rr rb wr wb = (nat_lt 0 rr && nat_le rr rb) && (nat_lt 0 wr && nat_le wr wb)

abbrev pub are_bounded : ℕ → ℕ → ℕ → Bool
are_bounded rb wb tick = (nat_le rb (2 ^ 40) && nat_le wb (2 ^ 40)) && (nat_lt 0 tick && nat_le tick (2 ^ 20))

-- do these numbers make a limit
abbrev pub is_limit : ℕ → ℕ → ℕ → ℕ → ℕ → Bool
is_limit rr rb wr wb tick = are_rates rr rb wr wb && are_bounded rb wb tick

-- they do where the test says so
pub limit_facts : (rr rb wr wb tick : ℕ) → is_limit rr rb wr wb tick ≡ true → IsLimit rr rb wr wb tick
limit_facts rr rb wr wb tick right =
    let all = and_parts (are_rates rr rb wr wb) (are_bounded rb wb tick) right in
    let rates = and_parts (nat_lt 0 rr && nat_le rr rb) (nat_lt 0 wr && nat_le wr wb) all.0 in
    let read = and_parts (nat_lt 0 rr) (nat_le rr rb) rates.0 in
    let write = and_parts (nat_lt 0 wr) (nat_le wr wb) rates.1 in
    let bounds = and_parts (nat_le rb (2 ^ 40) && nat_le wb (2 ^ 40)) (nat_lt 0 tick && nat_le tick (2 ^ 20)) all.1 in
    let bursts = and_parts (nat_le rb (2 ^ 40)) (nat_le wb (2 ^ 40)) bounds.0 in
    let ticks = and_parts (nat_lt 0 tick) (nat_le tick (2 ^ 20)) bounds.1 in
    record {
      reads = ltb-true 0 rr read.0;
      read_within = leb-true rr rb read.1;
      writes = ltb-true 0 wr write.0;
      write_within = leb-true wr wb write.1;
      read_burst_within = leb-true rb (2 ^ 40) bursts.0;
      write_burst_within = leb-true wb (2 ^ 40) bursts.1;
      ticks = ltb-true 0 tick ticks.0;
      tick_within = leb-true tick (2 ^ 20) ticks.1;
    }

-- the limit with these numbers
abbrev pub limit_with : (rr rb wr wb tick : ℕ) → IsLimit rr rb wr wb tick → LimitCfg
limit_with rr rb wr wb tick facts = record {
  read_rate = rr;
  read_burst = rb;
  write_rate = wr;
  write_burst = wb;
  tick_ms = tick;
  reads = facts.reads;
  read_within = facts.read_within;
  writes = facts.writes;
  write_within = facts.write_within;
  read_burst_within = facts.read_burst_within;
  write_burst_within = facts.write_burst_within;
  ticks = facts.ticks;
  tick_within = facts.tick_within;
}

-- what a true test allows
abbrev pub when : {A : Type 0} → (test : Bool) → (test ≡ true → A) → Option A
when true allowed = Some (allowed refl)
when false allowed = None

-- the limit of read rate, read burst, write rate, write burst and tick, where they make one
abbrev pub limit_of : ℕ → ℕ → ℕ → ℕ → ℕ → Option LimitCfg
limit_of rr rb wr wb tick =
    when (is_limit rr rb wr wb tick) (λ right. limit_with rr rb wr wb tick (limit_facts rr rb wr wb tick right))

-- the limit that words spell, in the same order
abbrev pub limit_said : List (List ℕ) → Option LimitCfg
limit_said (rr ∷ rb ∷ wr ∷ wb ∷ tick ∷ []) = do
  read_rate ← any_number rr
  read_burst ← any_number rb
  write_rate ← any_number wr
  write_burst ← any_number wb
  tick_ms ← any_number tick
  limit_of read_rate read_burst write_rate write_burst tick_ms
limit_said _ = None
