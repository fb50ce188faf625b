-- The turns and the lines of a script as one more is put.
use Rattle.std.proofs.Common.{◌≡◌, ◌<◌, ◌+◌, ◌-◌, ◌*◌, ℕ, suc, List, [], ◌∷◌, ◌++◌, Some, ap, sym, ◌∙◌, arith, append_assoc}
use Rattle.std.proofs.lemmas.List.{map-append}
use Rattle.token_bucket.specs.declared.limit.LimitCfg.{LimitCfg}
use Rattle.ev_types.specs.declared.turn_line.TurnLine.{TurnLine}
use Rattle.ev_types.specs.ScriptTurn.{ScriptTurn}
use Rattle.script_text.specs.Limits.{limit_of}
use Rattle.script_text.specs.ScriptView.{turn_values}
use Rattle.script_text.proofs.LimitLemmas.{limit_of-numbers}
use Rattle.script_text.proofs.TurnLemmas.{Turn, turn_value}
use Rattle.big_script.specs.Generated.{generated, number_after}
use Rattle.big_script.specs.BigScript.{idle_turns, lines_with, lines_from}

-- a limit with these numbers is the one that they make
pub rate-is : (l : LimitCfg) (rr rb wr wb tick : ℕ) → l.read_rate ≡ rr → l.read_burst ≡ rb → l.write_rate ≡ wr → l.write_burst ≡ wb →
    l.tick_ms ≡ tick → Some l ≡ limit_of rr rb wr wb tick
rate-is l rr rb wr wb tick a b c d e =
    sym (limit_of-numbers l)
    ∙ ap (λ (n : ℕ). limit_of n l.read_burst l.write_rate l.write_burst l.tick_ms) a
    ∙ ap (λ (n : ℕ). limit_of rr n l.write_rate l.write_burst l.tick_ms) b
    ∙ ap (λ (n : ℕ). limit_of rr rb n l.write_burst l.tick_ms) c
    ∙ ap (λ (n : ℕ). limit_of rr rb wr n l.tick_ms) d
    ∙ ap (λ (n : ℕ). limit_of rr rb wr wb n) e

-- the turns without lines that are left begin with the next
idle-next : (left more ms next : ℕ) → left ≡ suc more → next ≡ ms + 1000 → idle_turns left ms ≡ (ms, []) ∷ idle_turns more next
idle-next left more ms next e f =
    ap (λ (k : ℕ). idle_turns k ms) e ∙ ap (λ (k : ℕ). (ms, []) ∷ idle_turns more k) (sym f)

-- a turn without lines that is put takes the place of the next that is left
pub idle-put : (turns : List Turn) (turn : Turn) (i : ℕ) → i < 10 → turn.0 ≡ (i + 2) * 1000 → turn.1.items ≡ [] →
    turn_values (turns ++ turn ∷ []) ++ idle_turns (10 - (i + 1)) (2000 + 1000 * (i + 1))
    ≡ turn_values turns ++ idle_turns (10 - i) (2000 + 1000 * i)
idle-put turns turn i h at none =
    let now : turn.0 ≡ 2000 + 1000 * i = omega (arith, at) in
    let left : 10 - i ≡ suc (10 - (i + 1)) = omega (arith, h) in
    let after : 2000 + 1000 * (i + 1) ≡ 2000 + 1000 * i + 1000 = omega arith in
    let rest = idle_turns (10 - (i + 1)) (2000 + 1000 * (i + 1)) in
    ap (λ (all : List ScriptTurn). all ++ rest) (map-append turn_value turns (turn ∷ []))
    ∙ append_assoc (turn_values turns) ((turn.0, turn.1.items) ∷ []) rest
    ∙ ap (λ (ms : ℕ). turn_values turns ++ (ms, turn.1.items) ∷ rest) now
    ∙ ap (λ (lines : List TurnLine). turn_values turns ++ (2000 + 1000 * i, lines) ∷ rest) none
    ∙ ap (λ (more : List ScriptTurn). turn_values turns ++ more)
    (sym (idle-next (10 - i) (10 - (i + 1)) (2000 + 1000 * i) (2000 + 1000 * (i + 1)) left after))

-- the lines of a link that are put take the place of the next that are left
pub lines-put : (lines : List TurnLine) (each links link x : ℕ) → link < links →
    (lines ++ lines_with (generated each x) link) ++ lines_from each (links - (link + 1)) (link + 1) (number_after each x)
    ≡ lines ++ lines_from each (links - link) link x
lines-put lines each links link x h =
    let left : links - link ≡ suc (links - (link + 1)) = omega (arith, h) in
    append_assoc lines (lines_with (generated each x) link) (lines_from each (links - (link + 1)) (link + 1) (number_after each x))
    ∙ ap (λ (k : ℕ). lines ++ lines_from each k link x) (sym left)
