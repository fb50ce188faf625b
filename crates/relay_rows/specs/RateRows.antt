-- Worked runs with limits. Each line was worked out by hand from the rules.
use Rattle.std.specs.Prelude.{ℕ, List, [], ◌∷◌, Some, replicate}
use Rattle.std.proofs.Common.{lit<, lit≤}
use Rattle.token_bucket.specs.declared.limit.LimitCfg.{LimitCfg}
use Rattle.ev_types.specs.Trace.{Trace}
use Rattle.relay_model.specs.Settings.{Settings, usual}
use Rattle.relay_rows.specs.RowWords.{in_of, out_of, turn, poll, poll_for, wants_read, wants_both, can_read, can_write, opens, gets, takes}

-- so many bytes `a`
abbrev pub letters : ℕ → List ℕ
letters n = replicate n 97

-- 10 bytes a tick, 25 at once, and ticks of a second
abbrev pub ten_a_second : LimitCfg
ten_a_second = record {
  read_rate = 10;
  read_burst = 25;
  write_rate = 10;
  write_burst = 25;
  tick_ms = 1000;
  reads = lit< tt;
  read_within = lit≤ tt;
  writes = lit< tt;
  write_within = lit≤ tt;
  read_burst_within = lit≤ tt;
  write_burst_within = lit≤ tt;
  ticks = lit< tt;
  tick_within = lit≤ tt;
}

abbrev pub limited_in : Settings
limited_in = record usual { in_rate = Some ten_a_second }

-- In isn't wanted while its bucket holds nothing. The bucket gains at each tick, up to its burst.
abbrev pub read_in_ticks : Trace
read_in_ticks =
    turn 0 ∷ poll ∷ opens 0
    ∷ turn 0 ∷ poll ∷ wants_read (in_of 0) ∷ wants_read (out_of 0) ∷ can_read (in_of 0) ∷ gets (in_of 0) 10 (letters 10)
    ∷ turn 500 ∷ poll_for 500 ∷ wants_both (out_of 0)
    ∷ turn 1000 ∷ poll ∷ wants_read (in_of 0) ∷ wants_both (out_of 0) ∷ can_read (in_of 0) ∷ gets (in_of 0) 10 (letters 10)
    ∷ turn 5000 ∷ poll ∷ wants_read (in_of 0) ∷ wants_both (out_of 0) ∷ can_read (in_of 0) ∷ gets (in_of 0) 25 (letters 25)
    ∷ []

abbrev pub limited_out : Settings
limited_out = record usual { out_rate = Some ten_a_second }

-- Out is written within its limit too. Its reading has a bucket of its own.
abbrev pub written_in_ticks : Trace
written_in_ticks =
    turn 0 ∷ poll ∷ opens 0
    ∷ turn 0 ∷ poll ∷ wants_read (in_of 0) ∷ wants_read (out_of 0) ∷ can_read (in_of 0) ∷ gets (in_of 0) 16384 (letters 25)
    ∷ turn 1 ∷ poll ∷ wants_read (in_of 0) ∷ wants_both (out_of 0) ∷ can_write (out_of 0) ∷ takes (out_of 0) 10 (letters 10)
    ∷ turn 2 ∷ poll_for 998 ∷ wants_read (in_of 0) ∷ wants_read (out_of 0)
    ∷ turn 1000 ∷ poll ∷ wants_read (in_of 0) ∷ wants_both (out_of 0) ∷ can_write (out_of 0) ∷ takes (out_of 0) 10 (letters 10)
    ∷ turn 5000 ∷ poll ∷ wants_read (in_of 0) ∷ wants_both (out_of 0) ∷ can_write (out_of 0) ∷ takes (out_of 0) 5 (letters 5)
    ∷ []

-- 100 bytes a tick and at once, and ticks of a second
abbrev pub hundred_a_second : LimitCfg
hundred_a_second = record {
  read_rate = 100;
  read_burst = 100;
  write_rate = 100;
  write_burst = 100;
  tick_ms = 1000;
  reads = lit< tt;
  read_within = lit≤ tt;
  writes = lit< tt;
  write_within = lit≤ tt;
  read_burst_within = lit≤ tt;
  write_burst_within = lit≤ tt;
  ticks = lit< tt;
  tick_within = lit≤ tt;
}

abbrev pub one_group : Settings
one_group = record usual { groups = record { cfg = hundred_a_second; share = 64 } ∷ []; in_group = Some 0 }

-- Three members share a hundred bytes a tick, each at least 64. The second one overdraws the bucket, and the third waits
-- until the others have read all.
abbrev pub shared_by_three : Trace
shared_by_three =
    turn 0 ∷ poll ∷ opens 0 ∷ opens 1 ∷ opens 2
    ∷ turn 0 ∷ poll ∷ wants_read (in_of 0) ∷ wants_read (out_of 0) ∷ wants_read (in_of 1) ∷ wants_read (out_of 1) ∷ wants_read (in_of 2)
    ∷ wants_read (out_of 2)
    ∷ can_read (in_of 0) ∷ can_read (in_of 1) ∷ can_read (in_of 2) ∷ gets (in_of 0) 64 (letters 64) ∷ gets (in_of 1) 64 (letters 64)
    ∷ turn 1000 ∷ poll ∷ wants_read (in_of 0) ∷ wants_both (out_of 0) ∷ wants_read (in_of 1) ∷ wants_both (out_of 1)
    ∷ wants_read (in_of 2) ∷ wants_read (out_of 2)
    ∷ can_read (in_of 0) ∷ can_read (in_of 1) ∷ can_read (in_of 2) ∷ gets (in_of 0) 64 (letters 36) ∷ gets (in_of 1) 64 (letters 36)
    ∷ turn 2000 ∷ poll ∷ wants_read (in_of 0) ∷ wants_both (out_of 0) ∷ wants_read (in_of 1) ∷ wants_both (out_of 1)
    ∷ wants_read (in_of 2) ∷ wants_read (out_of 2)
    ∷ can_read (in_of 2) ∷ gets (in_of 2) 64 (letters 64)
    ∷ []

-- 70 bytes a tick and 100 at once
abbrev pub seventy_a_second : LimitCfg
seventy_a_second = record hundred_a_second {
  read_rate = 70;
  write_rate = 70;
  reads = lit< tt;
  read_within = lit≤ tt;
  writes =
      lit< tt;
  write_within = lit≤ tt;
}

abbrev pub small_group : Settings
small_group = record usual { groups = record { cfg = seventy_a_second; share = 64 } ∷ []; in_group = Some 0 }

-- Two members overdraw the bucket by 58. A tick later it holds 12, less than a share, and nobody reads; another tick later
-- it holds 82.
abbrev pub suspended_for_two_ticks : Trace
suspended_for_two_ticks =
    turn 0 ∷ poll ∷ opens 0 ∷ opens 1
    ∷ turn 0 ∷ poll ∷ wants_read (in_of 0) ∷ wants_read (out_of 0) ∷ wants_read (in_of 1) ∷ wants_read (out_of 1)
    ∷ can_read (in_of 0) ∷ can_read (in_of 1) ∷ gets (in_of 0) 64 (letters 64) ∷ gets (in_of 1) 64 (letters 64)
    ∷ turn 1000 ∷ poll_for 1000 ∷ wants_both (out_of 0) ∷ wants_both (out_of 1)
    ∷ turn 2000 ∷ poll ∷ wants_read (in_of 0) ∷ wants_both (out_of 0) ∷ wants_read (in_of 1) ∷ wants_both (out_of 1)
    ∷ can_read (in_of 0) ∷ gets (in_of 0) 64 (letters 3)
    ∷ []

abbrev pub group_of_ten : Settings
group_of_ten = record usual { groups = record { cfg = ten_a_second; share = 64 } ∷ []; in_group = Some 0 }

-- The least share of 64 is lowered to the rate of 10. One of two members uses up the bucket, and the other reads a tick later.
abbrev pub share_lowered_to_the_rate : Trace
share_lowered_to_the_rate =
    turn 0 ∷ poll ∷ opens 0 ∷ opens 1
    ∷ turn 0 ∷ poll ∷ wants_read (in_of 0) ∷ wants_read (out_of 0) ∷ wants_read (in_of 1) ∷ wants_read (out_of 1)
    ∷ can_read (in_of 0) ∷ can_read (in_of 1) ∷ gets (in_of 0) 10 (letters 10)
    ∷ turn 1000 ∷ poll ∷ wants_read (in_of 0) ∷ wants_both (out_of 0) ∷ wants_read (in_of 1) ∷ wants_read (out_of 1)
    ∷ can_read (in_of 1) ∷ gets (in_of 1) 10 (letters 10)
    ∷ []
