-- Which turn of a script stands at a place, what is kept of it, and what it brings.
use Rattle.std.proofs.Common.{◌≡◌, ℕ, zero, suc, ◌+◌, ◌<◌, ◌≤◌, List, [], ◌∷◌, length, get_or, drop, map, Vec, Some, None, refl, sym, ap}
use Rattle.std.proofs.Common.{◌∙◌, arith}
use Rattle.std.specs.Prelude.{slice_get}
use Rattle.std.specs.Global.{Global}
use Rattle.std.proofs.lemmas.List.{length-map}
use Rattle.ev_types.specs.declared.turn_line.TurnLine.{TurnLine}
use Rattle.ev_types.specs.ScriptTurn.{ScriptTurn, lines_of}
use Rattle.script_port.specs.declared.kept_line.KeptLine.{KeptLine}
use Rattle.script_port.specs.ScriptState.{LinksKept}
use Rattle.script_port.specs.ScriptLinks.{after_lines, entered}
use Rattle.script_port.specs.KeptLines.{kept_line, kept_turn, turn_at}
use Rattle.script_port.specs.ScriptKept.{Brings, links_after_lines}
use Rattle.script_port.specs.ScriptTurnsView.{shown_kept}
use Rattle.script_port.proofs.ListLemmas.{part_at}
use Rattle.script_port.proofs.ScriptLemmas.{lines_bring, turn_begins}

-- a turn of the script, its lines as a list
abbrev pub shown_turn : ℕ × Vec TurnLine Global → ScriptTurn
shown_turn turn = (turn.0, turn.1.items)

-- there is a turn at a place within the script
pub turn_there : (turns : List ScriptTurn) (i : ℕ) → i < length turns → slice_get turns i ≡ Some (turn_at turns i)
turn_there [] i h = absurd (omega arith)
turn_there (t ∷ turns) zero h = refl
turn_there (t ∷ turns) (suc i) h = turn_there turns i (omega arith)

pub no_turn_past : (turns : List ScriptTurn) (i : ℕ) → length turns ≤ i → slice_get turns i ≡ None
no_turn_past [] i h = refl
no_turn_past (t ∷ turns) zero h = absurd (omega arith)
no_turn_past (t ∷ turns) (suc i) h = no_turn_past turns i (omega arith)

-- the turn at a place, whatever stands for none
pub turn_found : (turns : List ScriptTurn) (i : ℕ) (d : ScriptTurn) → i < length turns → get_or turns i d ≡ turn_at turns i
turn_found [] i d h = absurd (omega arith)
turn_found (t ∷ turns) zero d h = refl
turn_found (t ∷ turns) (suc i) d h = turn_found turns i d (omega arith)

kept_found : (turns : List ScriptTurn) (i : ℕ) (d : ℕ × List KeptLine) → i < length turns →
    get_or (map kept_turn turns) i d ≡ kept_turn (turn_at turns i)
kept_found [] i d h = absurd (omega arith)
kept_found (t ∷ turns) zero d h = refl
kept_found (t ∷ turns) (suc i) d h = kept_found turns i d (omega arith)

-- as many turns are kept as there are
pub as_many_kept : (kept : List (ℕ × Vec KeptLine Global)) (turns : List ScriptTurn) → map shown_kept kept ≡ map kept_turn turns →
    length kept ≡ length turns
as_many_kept kept turns e = sym (length-map kept shown_kept) ∙ ap length e ∙ length-map turns kept_turn

-- what is kept at a place is kept of the turn there
pub kept_there : (kept : List (ℕ × Vec KeptLine Global)) (turns : List ScriptTurn) (i : ℕ) (x : ℕ × Vec KeptLine Global) →
    map shown_kept kept ≡ map kept_turn turns → i < length turns → x ≡ get_or kept i x →
    shown_kept x ≡ kept_turn (turn_at turns i)
kept_there kept turns i x e h read =
    sym (part_at shown_kept kept i x (shown_kept x) (omega (arith, as_many_kept kept turns e)) read) ∙
    ap (λ ts. get_or ts i (shown_kept x)) e ∙ kept_found turns i (shown_kept x) h

-- the lines of the turn that begins bring in what was to come
pub turn_brings : (turns : List ScriptTurn) (i : ℕ) (links : LinksKept) → i < length turns → Brings (lines_of (drop i turns)) links →
    let turn = turn_at turns i in
    let l : LinksKept = record links { state = entered (Some i) links.state } in
    ((links_after_lines (map kept_line turn.1) l).state ≡ after_lines turn.1 l.state) ×
    Brings (lines_of (drop (i + 1) turns)) (links_after_lines (map kept_line turn.1) l)
turn_brings turns i links h brings =
    let turn = turn_at turns i in
    let l : LinksKept = record links { state = entered (Some i) links.state } in
    let b = rw (turn_begins turns i turn h (turn_found turns i turn h)) at brings in
    lines_bring turn.1 (lines_of (drop (i + 1) turns)) l (record { links = b.links; bytes = b.bytes; ends = b.ends })
