-- What holds of a generated script: how long it is, what it opens and names, and what it brings in.
use Rattle.std.specs.Prelude.{◌≡◌, ℕ, ◌*◌, ◌<◌, ◌≤◌, ◌^◌, List, All, length}
use Rattle.std.specs.List.{flat_map}
use Rattle.ev_types.specs.declared.side.SideId.{SideId}
use Rattle.ev_types.specs.ScriptTurn.{ScriptTurn, lines_of}
use Rattle.script_text.specs.Brought.{all_brought}
use Rattle.script_text.specs.GroupsAreSet.{GroupsAreSet}
use Rattle.relay_model.specs.Called.{NamesOpened}
use Rattle.relay_model.specs.ClosingTurns.{scripted_links, IsDrainable}
use Rattle.relay_model.specs.Lines.{brings}
use Rattle.big_script.specs.BigScript.{big_script_of}

-- these numbers are bytes, at most so many
pub record AreFewBytes (most : ℕ) (xs : List ℕ) : Type 0 where
  pub bytes : All (λ b. b < 256) xs
  pub few : length xs ≤ most

-- The script of so many links has 12 turns, at moments of at most 2^40. They open that many links and name no other. In all 3,000 bytes
-- come in for each link, no more of them at any one end, and each is below 256.
pub record IsBig (n : ℕ) (script : List ScriptTurn) : Type 0 where
  pub turns : length script ≡ 12
  pub moments : All (λ (turn : ScriptTurn). turn.0 ≤ 2 ^ 40) script
  pub links : length (scripted_links script) ≡ n
  pub names : NamesOpened 0 (lines_of script)
  pub brought : all_brought (lines_of script) ≡ 3000 * n
  pub each : (e : SideId) → AreFewBytes (3000 * n) (flat_map (brings e) (lines_of script))

abbrev pub BigScriptsAreBig : Type 0
BigScriptsAreBig = (links : ℕ) → IsBig links (big_script_of links).turns

-- Each end of its links has its end in it, no reads fail, and no link is refused.
abbrev pub BigScriptsAreDrainable : Type 0
BigScriptsAreDrainable = (links : ℕ) → IsDrainable (big_script_of links).turns

-- It has no groups, and no side is in one.
abbrev pub BigGroupsAreSet : Type 0
BigGroupsAreSet = (links : ℕ) → GroupsAreSet (big_script_of links).groups (big_script_of links).members
