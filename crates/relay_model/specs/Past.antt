-- What rooms, wants and asks look at of the trace so far. An entry by which nothing was read or moved and no turn was
-- begun leaves the past as it was.
use Rattle.std.specs.Prelude.{ℕ, List}
use Rattle.token_bucket.specs.declared.limit.Dir.{Dir}
use Rattle.ev_types.specs.declared.side.SideId.{SideId}
use Rattle.ev_types.specs.Trace.{Trace}
use Rattle.relay_model.specs.Trace.{bytes_read}
use Rattle.relay_model.specs.Settings.{Settings}
use Rattle.relay_model.specs.Rates.{side_spells}
use Rattle.token_bucket.specs.Spells.{Spell}
use Rattle.relay_model.specs.Groups.{group_spells}

pub record Past : Type 0 where
  pub read : SideId → List ℕ  -- all bytes that were read from an end
  pub turns : SideId → Dir → List Spell  -- all turns as a side's buckets see them
  pub group_turns : ℕ → Dir → List Spell  -- all turns as a group's buckets see them

abbrev pub past : Settings → Trace → Past
past g t = record {
  read = λ e. bytes_read e t;
  turns = λ e d. side_spells e d t;
  group_turns = λ n d. group_spells g n d t;
}
