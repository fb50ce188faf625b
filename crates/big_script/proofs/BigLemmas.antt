-- What holds of a generated script.
use Rattle.std.proofs.Common.{◌<◌, ◌≡◌, ◌≤◌, ◌+◌, ◌*◌, ◌^◌, ℕ, zero, suc, [], ◌∷◌, length, refl, arith}
use Rattle.std.specs.Prelude.{All, replicate, false}
use Rattle.std.proofs.lemmas.List.Elements.{All-cons, All-nil}
use Rattle.ev_types.specs.ScriptTurn.{ScriptTurn}
use Rattle.ev_types.specs.declared.turn_line.TurnLine.TheVariants as line
use Rattle.big_script.specs.BigScript.{idle_turns, turns_with_each, lines_from}
use Rattle.rate_group.specs.declared.group_set.GroupSet.{GroupSet}
use Rattle.big_script.specs.BigLaws.{BigScriptsAreBig, BigGroupsAreSet}
use Rattle.big_script.proofs.LineLemmas.{length-opened, names-turns, all_brought-turns, brings-turns}

-- so many turns a second apart stand at moments of at most 2^40
idle-soon : (n ms : ℕ) → ms + 1000 * n ≤ 2 ^ 40 → All (λ (turn : ScriptTurn). turn.0 ≤ 2 ^ 40) (idle_turns n ms)
idle-soon zero ms h = All-nil (λ (turn : ScriptTurn). turn.0 ≤ 2 ^ 40)
idle-soon (suc n) ms h =
    let here : ms ≤ 2 ^ 40 = omega (arith, h) in
    let rest : ms + 1000 + 1000 * n ≤ 2 ^ 40 = omega (arith, h) in
    All-cons (λ (turn : ScriptTurn). turn.0 ≤ 2 ^ 40) (ms, []) (idle_turns n (ms + 1000)) here (idle-soon n (ms + 1000) rest)

pub moments-turns : (each links : ℕ) → All (λ (turn : ScriptTurn). turn.0 ≤ 2 ^ 40) (turns_with_each each links)
moments-turns each links =
    let first : 0 ≤ 2 ^ 40 = omega arith in
    let second : 1000 ≤ 2 ^ 40 = omega arith in
    let rest : 2000 + 1000 * 10 ≤ 2 ^ 40 = omega arith in
    let opening : ScriptTurn = (0, replicate links (line.NewLink false)) in
    let sending : ScriptTurn = (1000, lines_from each links 0 links) in
    All-cons (λ (turn : ScriptTurn). turn.0 ≤ 2 ^ 40) opening (sending ∷ idle_turns 10 2000) first
    (All-cons (λ (turn : ScriptTurn). turn.0 ≤ 2 ^ 40) sending (idle_turns 10 2000) second (idle-soon 10 2000 rest))

pub length-turns : (each links : ℕ) → length (turns_with_each each links) ≡ 12
length-turns each links = refl

-- a generated script is as long as it says, and brings in as much
pub big_scripts_are_big : BigScriptsAreBig
big_scripts_are_big links = record {
  turns = length-turns 3000 links;
  moments = moments-turns 3000 links;
  links = length-opened 3000 links;
  names = names-turns 3000 links;
  brought = all_brought-turns 3000 links;
  each = λ e. brings-turns e 3000 links;
}

-- no groups are in order
pub big_groups_are_set : BigGroupsAreSet
big_groups_are_set links = record {
  few = omega arith;
  shares = All-nil (λ (x : GroupSet). 0 < x.share);
  in_group = tt;
  out_group = tt;
}
