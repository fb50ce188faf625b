-- The turns of a script as a line is put behind them.
use Rattle.std.proofs.Common.{◌≡◌, ◌<◌, ◌+◌, ℕ, zero, suc, List, [], ◌∷◌, ◌++◌, length, get_or, set, refl, ap, sym, ◌∙◌, arith, append-nil}
use Rattle.std.proofs.Common.{append_assoc, Global}
use Rattle.std.specs.Prelude.{Vec}
use Rattle.std.proofs.lemmas.List.{map-set, map-append, get_or-map, length-map}
use Rattle.std.proofs.Math.Seq.{map-set_same}
use Rattle.ev_types.specs.declared.turn_line.TurnLine.{TurnLine}
use Rattle.ev_types.specs.ScriptTurn.{ScriptTurn, lines_of}
use Rattle.script_text.specs.ScriptView.{turn_values}
use Rattle.script_text.specs.Order.{with_line}

-- a turn that begins has no lines
pub lines_of-begun : (ts : List ScriptTurn) (ms : ℕ) → lines_of (ts ++ (ms, []) ∷ []) ≡ lines_of ts
lines_of-begun [] ms = refl
lines_of-begun (t ∷ ts) ms = ap (λ (lines : List TurnLine). t.1 ++ lines) (lines_of-begun ts ms)

-- a line of the last turn stands behind all others
pub lines_of-with_line : (ts : List ScriptTurn) (line : TurnLine) → 0 < length ts → lines_of (with_line ts line) ≡ lines_of ts ++ line ∷ []
lines_of-with_line [] line some = absurd (omega arith)
lines_of-with_line (t ∷ []) line some =
    append-nil (t.1 ++ line ∷ []) ∙ ap (λ (lines : List TurnLine). lines ++ line ∷ []) (sym (append-nil t.1))
lines_of-with_line (t ∷ u ∷ ts) line some =
    ap (λ (lines : List TurnLine). t.1 ++ lines) (lines_of-with_line (u ∷ ts) line (omega arith))
    ∙ sym (append_assoc t.1 (lines_of (u ∷ ts)) (line ∷ []))

-- what a write in the last turn does
pub with_line-set : (ts : List ScriptTurn) (line : TurnLine) (last : ℕ) (d : ScriptTurn) → last + 1 ≡ length ts →
    set ts last ((get_or ts last d).0, (get_or ts last d).1 ++ line ∷ []) ≡ with_line ts line
with_line-set [] line last d e = absurd (omega arith)
with_line-set (t ∷ []) line zero d e = refl
with_line-set (t ∷ []) line (suc last) d e = absurd (omega arith)
with_line-set (t ∷ u ∷ ts) line zero d e = absurd (omega arith)
with_line-set (t ∷ u ∷ ts) line (suc last) d e =
    ap (λ (more : List ScriptTurn). t ∷ more) (with_line-set (u ∷ ts) line last d (omega arith))

abbrev pub Turn : Type 0
Turn = ℕ × Vec TurnLine Global

abbrev pub turn_value : Turn → ScriptTurn
turn_value turn = (turn.0, turn.1.items)

-- a turn that begins, as it is kept
pub lines_of-pushed : (ts : List Turn) (turn : Turn) → turn.1.items ≡ [] →
    lines_of (turn_values (ts ++ turn ∷ [])) ≡ lines_of (turn_values ts)
lines_of-pushed ts turn empty =
    ap lines_of (map-append turn_value ts (turn ∷ []))
    ∙ ap (λ (ls : List TurnLine). lines_of (turn_values ts ++ (turn.0, ls) ∷ [])) empty
    ∙ lines_of-begun (turn_values ts) turn.0

-- one line more in the last turn, as it is kept
pub turn_values-put : (ts : List Turn) (last : ℕ) (turn : Turn) (lines : Vec TurnLine Global) (line : TurnLine) → last + 1 ≡ length ts →
    turn ≡ get_or ts last turn → lines.items ≡ turn.1.items ++ line ∷ [] →
    turn_values (set ts last (turn.0, lines)) ≡ with_line (turn_values ts) line
turn_values-put ts last turn lines line e here grown =
    let within : last < length ts = omega arith in
    let value : turn_value turn ≡ get_or (turn_values ts) last (turn_value turn) =
    ap turn_value here ∙ sym (get_or-map turn_value ts last turn (turn_value turn) within) in
    map-set turn_value ts last (turn.0, lines)
    ∙ ap (λ (ls : List TurnLine). set (turn_values ts) last (turn.0, ls)) grown
    ∙ ap (λ (t : ScriptTurn). set (turn_values ts) last (t.0, t.1 ++ line ∷ [])) value
    ∙ with_line-set (turn_values ts) line last (turn_value turn) (e ∙ sym (length-map ts turn_value))

-- a turn whose list has more room, and no line more
pub turn_values-same : (ts : List Turn) (last : ℕ) (turn : Turn) (lines : Vec TurnLine Global) →
    turn ≡ get_or ts last turn → lines.items ≡ turn.1.items → turn_values (set ts last (turn.0, lines)) ≡ turn_values ts
turn_values-same ts last turn lines here same =
    map-set_same turn_value ts last (turn.0, lines) turn (ap (λ (ls : List TurnLine). (turn.0, ls)) same ∙ ap turn_value here)
