-- What is asked of settings and of a script, so that closing turns bring every link to its end.
use Rattle.std.specs.Prelude.{◌≡◌, ℕ, ◌+◌, ◌*◌, ◌^◌, ◌≤◌, true, false, List, [], ◌++◌, length, map, sum_by, All}
use Rattle.std.specs.Prelude.{None, Some, unwrap_or, slice_get}
use Rattle.std.specs.List.{flat_map, list_any, last_or}
use Rattle.ev_types.specs.declared.side.SideId.{SideId}
use Rattle.ev_types.specs.declared.turn_line.TurnLine.{TurnLine}
use Rattle.ev_types.specs.ScriptTurn.{ScriptTurn, lines_of}
use Rattle.ev_types.specs.Sides.{peer}
use Rattle.filter_model.specs.Filter.{filter_of}
use Rattle.ev_types.specs.Usual.{no_timeouts}
use Rattle.relay_model.specs.Settings.{Settings, GroupSet, HasNoHooks, HoldsSome}
use Rattle.relay_model.specs.Rooms.{read_kind, write_kind}
use Rattle.relay_model.specs.Lines.{brings, ends, fails_writes, fails_poll}
use Rattle.relay_model.specs.Called.{NamesOpened}
use Rattle.relay_model.specs.Script.{closing_step}
use Rattle.relay_model.specs.ClosingTurns.{scripted_links, brought_count, IsDrainable}

-- all that a script brings in at an end, and how many bytes it brings in at all ends
abbrev pub brought_at : List ScriptTurn → SideId → List ℕ
brought_at turns e = flat_map (brings e) (lines_of turns)

abbrev pub total_brought : List ScriptTurn → ℕ
total_brought turns = sum_by brought_count (lines_of turns)

-- the moment of the last turn, or 0 where there is none
abbrev pub last_moment : List ScriptTurn → ℕ
last_moment turns = unwrap_or (last_or None (map (λ turn. turn.0) turns)) 0

-- Neither filter of the direction that begins at a side is bad on what the script brings in there: its read filter on that and its end,
-- the write filter of its peer on what the read filter makes of it.
pub record HasGoodBytes (g : Settings) (turns : List ScriptTurn) (e : SideId) : Type 0 where
  pub read : (filter_of (read_kind g e.side)).bad_at_end (brought_at turns e) ≡ None
  pub write : (filter_of (write_kind g (peer e).side)).bad_at_end ((filter_of (read_kind g e.side)).at_end (brought_at turns e)) ≡ None

-- No side has a hook or a timeout. Each end of a link ends; no read, no write, no poll and no connection fails; no filter is bad on its
-- bytes; and no turn comes later than the last one.
pub record CanDrain (g : Settings) (turns : List ScriptTurn) : Type 0 where
  pub hooks : HasNoHooks g
  pub in_timeouts : g.in_timeouts ≡ no_timeouts
  pub out_timeouts : g.out_timeouts ≡ no_timeouts
  pub drainable : IsDrainable turns
  pub no_write_fails : (e : SideId) → list_any (fails_writes e) (lines_of turns) ≡ false
  pub no_poll_fails : list_any fails_poll (lines_of turns) ≡ false
  pub good : (e : SideId) → HasGoodBytes g turns e
  pub last_is_greatest : All (λ turn. turn.0 ≤ last_moment turns) turns

-- A bound on the most closing turns that there can be, by the script alone: 4, and 32 for each byte that it brings in, and 72 for each
-- of its links.
abbrev pub closing_turn_bound : List ScriptTurn → ℕ
closing_turn_bound turns = 4 + 32 * total_brought turns + 72 * length (scripted_links turns)

-- no bytes are brought in at an end behind its end
abbrev pub NoneBehind : List TurnLine → Type 0
NoneBehind lines = (before after : List TurnLine) (e : SideId) → lines ≡ before ++ after → list_any (ends e) before ≡ true →
    flat_map (brings e) after ≡ []

-- The settings of every script leave room for bytes: the hold mark isn't 0, and each group leaves its members one.
pub record LeavesRoom (g : Settings) : Type 0 where
  pub holds : HoldsSome g
  pub shares : (n : ℕ) (x : GroupSet) → slice_get g.groups n ≡ Some x → 1 ≤ x.share

-- What every script is: its lines name links that it opened before, and bring in nothing behind an end; as many links may be opened as it
-- has; and the clock can count so many closing turns.
pub record IsCountable (g : Settings) (turns : List ScriptTurn) : Type 0 where
  pub names : NamesOpened 0 (lines_of turns)
  pub none_behind : NoneBehind (lines_of turns)
  pub links : length (scripted_links turns) ≤ g.links
  pub clock : last_moment turns + closing_step g * closing_turn_bound turns ≤ 2 ^ 62
