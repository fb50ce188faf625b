-- Links that are open: how many they are, and that each of them wants something of the poll, were neither limits nor groups set.
use Rattle.std.specs.Prelude.{◌≡◌, ℕ, zero, suc, ◌+◌, ◌-◌, ◌<◌, min, Bool, true, ◌&&◌, ◌||◌, not, nat_le, if◌then◌else◌, List, ◌∷◌, ◌++◌}
use Rattle.std.specs.Prelude.{length}
use Rattle.token_bucket.specs.declared.limit.Dir.{Dir}
use Rattle.token_bucket.specs.declared.limit.Dir.TheVariants as dir
use Rattle.ev_types.specs.declared.side.Side.TheVariants.{In, Out}
use Rattle.ev_types.specs.declared.side.SideId.{SideId}
use Rattle.ev_types.specs.declared.why.Cause.{Cause}
use Rattle.ev_types.specs.declared.why.Cause.TheVariants as cause
use Rattle.ev_types.specs.declared.entry.Entry.TheVariants as entry
use Rattle.ev_types.specs.Trace.{Trace}
use Rattle.relay_model.specs.Settings.{Settings, HoldsSome, HasNoHooks}
use Rattle.relay_model.specs.Plain.{Plain, side_at, is_live}
use Rattle.relay_model.specs.Past.{Past, past}
use Rattle.relay_model.specs.Rooms.{most_at_once, read_mark, input_length, raw_output_at, may_read, may_write, is_connecting}
use Rattle.relay_model.specs.Stages.{Stage, at}
use Rattle.relay_model.specs.Turn.{Reaches}
use Rattle.relay_model.specs.Stands.{AllAccounted}

-- a link is open while a side of it lives
abbrev pub is_link_open : Plain → ℕ → Bool
is_link_open s link = is_live s (record { link = link; side = In }) || is_live s (record { link = link; side = Out })

-- how many of the first links are open
abbrev pub open_links_below : Plain → ℕ → ℕ
open_links_below s zero = 0
open_links_below s (suc n) = open_links_below s n + (if is_link_open s n then 1 else 0)

-- how many links are open
abbrev pub open_link_count : Plain → ℕ
open_link_count s = open_links_below s s.opened

-- how many bytes a side may read now, but for its limit and its group
abbrev pub unlimited_read_room : Settings → Past → Plain → SideId → ℕ
unlimited_read_room g p s e = if may_read s e then min most_at_once (read_mark s e - input_length g p s e) else 0

-- how many bytes it may write now, but for these
abbrev pub unlimited_write_room : Settings → Past → Plain → SideId → ℕ
unlimited_write_room g p s e = if may_write s e then min most_at_once (length (raw_output_at g p s e)) else 0

-- But for these it wants to read where it may read a byte; and to write where it may write one, or is connecting and not failed.
abbrev pub wants_unlimited : Settings → Past → Plain → SideId → Dir → Bool
wants_unlimited g p s e dir.Read = nat_le 1 (unlimited_read_room g p s e)
wants_unlimited g p s e dir.Write = nat_le 1 (unlimited_write_room g p s e) || (is_connecting s e && not (side_at s e).failed)

-- A live side of a link wants to read or to write, but for limits and groups.
pub record WantsSomething (g : Settings) (t : Trace) (s : Plain) (link : ℕ) : Type 0 where
  pub side : SideId
  pub of_link : side.link ≡ link
  pub dir : Dir
  pub live : is_live s side ≡ true
  pub wants : wants_unlimited g (past g t) s side dir ≡ true

-- Each free in a trace is of a side that is done.
abbrev pub FreesAreDone : Trace → Type 0
FreesAreDone t = (before after : Trace) (e : SideId) (why : Cause) (moved given : ℕ) (bytes : List ℕ) →
    t ≡ before ++ (entry.Freed e why moved given, bytes) ∷ after → why ≡ cause.Done

-- Between two turns an open link wants something, but for limits and groups: where no side has a hook, the hold mark isn't 0, every
-- direction is accounted for, and each free so far was of a side that was done.
abbrev pub OpenLinkWants : Type 0
OpenLinkWants = (g : Settings) (t : Trace) (s : Plain) (link : ℕ) → HoldsSome g → HasNoHooks g → Reaches g t (at Stage.Between s) →
    AllAccounted g t s → FreesAreDone t → link < s.opened → is_link_open s link ≡ true → WantsSomething g t s link
