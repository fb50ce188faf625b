-- The lines of a script that a text spells name links that were opened before.
use Rattle.std.proofs.Common.{◌≡◌, ℕ, zero, suc, ◌+◌, ◌<◌, Bool, true, false, ◌&&◌, ◌||◌, not, nat_lt, if◌then◌else◌, List, []}
use Rattle.std.proofs.Common.{◌∷◌, ◌++◌, length, get_or, Option, Some, None, Result, Ok, Err, refl, sym, ap, subst, ◌∙◌, arith}
use Rattle.std.proofs.Common.{append_assoc, append-nil, inl, inr}
use Rattle.std.specs.Prelude.{option_and_then, option_map}
use Rattle.std.specs.List.{list_all}
use Rattle.std.proofs.lemmas.Bool.{and_parts}
use Rattle.std.proofs.lemmas.Bool.Decides.{leb_tells}
use Rattle.std.proofs.lemmas.Grind.{flat_map-append}
use Rattle.ev_types.specs.Sides.{number}
use Rattle.ev_types.specs.declared.turn_line.TurnLine.{TurnLine}
use Rattle.ev_types.specs.declared.turn_line.TurnLine.TheVariants as line
use Rattle.script_text.specs.declared.line.Line.{Line}
use Rattle.script_text.specs.declared.line.Line.TheVariants as text_line
use Rattle.ev_types.specs.ScriptTurn.{ScriptTurn, lines_of}
use Rattle.script_text.specs.Given.{with_setting}
use Rattle.script_text.specs.declared.setting.Given.{Given}
use Rattle.script_text.specs.declared.setting.Setting.{Setting}
use Rattle.script_text.specs.Script.{SoFar}
use Rattle.script_text.specs.Pieces.{lines, words}
use Rattle.script_text.specs.Grammar.{said}
use Rattle.script_text.specs.Order.{opened_links, opened, is_ended, is_known, may_follow, with_line, may_be_set, group_set, extended}
use Rattle.script_text.specs.Spelled.{is_plain, line_read, going_on, lines_read, no_line}
use Rattle.script_text.proofs.LawLemmas.{script_of-read}
use Rattle.script_port.specs.ScriptLinks.{links_of}
use Rattle.relay_model.specs.Called.{NamesOpened}
use Rattle.script_port.specs.ScriptPlays.{SpelledNamesOpened}
use Rattle.script_port.proofs.ScriptStandLemmas.{from_some}

from_ok : (x y : SoFar) → ◌≡◌ {A = Result SoFar ℕ} (Ok x) (Ok y) → x ≡ y
from_ok x y h = ap (λ (r : Result SoFar ℕ). ok_or r) h
  where
    ok_or : Result SoFar ℕ → SoFar
    ok_or (Ok z) = z
    ok_or (Err n) = x

-- what a test lets through
if_some : (b : Bool) (x y : SoFar) → ◌≡◌ {A = Option SoFar} (if b then Some x else None) (Some y) → (b ≡ true) × (x ≡ y)
if_some true x y h = (refl, from_some x y h)
if_some false x y h = absurd (cc)

lines_same : (turns : List ScriptTurn) → lines_of turns ≡ lines_of turns
lines_same [] = refl
lines_same (turn ∷ turns) = ap (λ z. turn.1 ++ z) (lines_same turns)

links_same : (xs : List TurnLine) → opened_links xs ≡ links_of xs
links_same [] = refl
links_same (line.NewLink wait ∷ xs) = ap (λ z. wait ∷ z) (links_same xs)
links_same (_ ∷ xs) = links_same xs

opened_is : (xs : List TurnLine) → opened xs ≡ length (links_of xs)
opened_is xs = ap length (links_same xs)

-- one line more
named_push : (n : ℕ) (xs : List TurnLine) (x : TurnLine) → NamesOpened n xs → NamesOpened (n + length (links_of xs)) (x ∷ []) →
    NamesOpened n (xs ++ x ∷ [])
named_push n [] x h k = subst (λ m. NamesOpened m (x ∷ [])) (omega arith) k
named_push n (line.NewLink wait ∷ xs) x h k = named_push (n + 1) xs x h (subst (λ m. NamesOpened m (x ∷ [])) (omega arith) k)
named_push n (line.Pending side bytes ∷ xs) x h k = (h.0, named_push n xs x h.1 k)
named_push n (line.Conn link connected ∷ xs) x h k = (h.0, named_push n xs x h.1 k)
named_push n (line.Eof side ∷ xs) x h k = (h.0, named_push n xs x h.1 k)
named_push n (line.ReadFail side ∷ xs) x h k = (h.0, named_push n xs x h.1 k)
named_push n (line.Take side more ∷ xs) x h k = (h.0, named_push n xs x h.1 k)
named_push n (line.WriteFail side ∷ xs) x h k = (h.0, named_push n xs x h.1 k)
named_push n (line.Spur side ∷ xs) x h k = (h.0, named_push n xs x h.1 k)
named_push n (line.PollFail ∷ xs) x h k = named_push n xs x h k

tested : (a b : ℕ) → nat_lt a b ≡ true → a < b
tested a b h = elim (leb_tells (suc a) b) [ inl t ↦ let lt = t.1 in omega (arith, lt) | inr t ↦ absurd (let no = t.0 in cc) ]

-- what stands at a place stands within the list
true_within : (xs : List Bool) (k : ℕ) → get_or xs k false ≡ true → k < length xs
true_within [] k h = absurd (cc)
true_within (x ∷ xs) zero h = omega arith
true_within (x ∷ xs) (suc k) h = let rest = true_within xs k h in omega (arith, rest)

-- a line that may follow names an opened link
follows : (xs : List TurnLine) (x : TurnLine) → may_follow xs x ≡ true → NamesOpened (opened xs) (x ∷ [])
follows xs (line.NewLink wait) h = tt
follows xs (line.Conn link connected) h = (true_within (opened_links xs) link h, tt)
follows xs (line.Pending side bytes) h =
    (tested side.link (opened xs) (and_parts (is_known side xs) (not (is_ended (number side) xs)) h).0, tt)
follows xs (line.Eof side) h = (tested side.link (opened xs) h, tt)
follows xs (line.ReadFail side) h = (tested side.link (opened xs) h, tt)
follows xs (line.Take side more) h = (tested side.link (opened xs) h, tt)
follows xs (line.WriteFail side) h = (tested side.link (opened xs) h, tt)
follows xs (line.Spur side) h = (tested side.link (opened xs) h, tt)
follows xs line.PollFail h = tt

lines_with : (turns : List ScriptTurn) (x : TurnLine) → 0 < length turns → lines_of (with_line turns x) ≡ lines_of turns ++ x ∷ []
lines_with [] x h = absurd (omega (arith, h))
lines_with (turn ∷ []) x h = append-nil (turn.1 ++ x ∷ []) ∙ ap (λ z. z ++ x ∷ []) (sym (append-nil turn.1))
lines_with (turn ∷ next ∷ turns) x h = ap (λ z. turn.1 ++ z) (lines_with (next ∷ turns) x (omega arith)) ∙ sym
    (append_assoc turn.1 (lines_of (next ∷ turns)) (x ∷ []))

abbrev IsNamed : SoFar → Type 0
IsNamed script = NamesOpened 0 (lines_of script.turns)

-- a setting says nothing of a link
set_named : (script new : SoFar) (s : Setting) (late : Bool) (o : Option Given) →
    ◌≡◌ {A = Option SoFar} (if late then None else option_map (λ g. record script { given = g; groups = script.groups ++ group_set s }) o)
    (Some new) → IsNamed script → IsNamed new
set_named script new s true o h named = absurd (cc)
set_named script new s false None h named = absurd (cc)
set_named script new s false (Some g) h named =
    subst IsNamed (from_some (record script { given = g; groups = script.groups ++ group_set s }) new h) named

-- nor does a plan
plan_named : (script new longer : SoFar) (late : Bool) → lines_of longer.turns ≡ lines_of script.turns →
    ◌≡◌ {A = Option SoFar} (if late then None else Some longer) (Some new) → IsNamed script → IsNamed new
plan_named script new longer true same h named = absurd (cc)
plan_named script new longer false same h named =
    subst IsNamed (from_some longer new h) (subst (NamesOpened 0) (sym same) named)

extended_named : (script new : SoFar) (what : Line) → extended script what ≡ Some new → IsNamed script → IsNamed new
extended_named script new (text_line.Set setting) h named =
    set_named script new setting (nat_lt 0 (length script.turns) || not (may_be_set script.groups setting))
    (with_setting script.given setting) h named
extended_named script new (text_line.Plan side item) h named =
    plan_named script new (record script { plans = script.plans ++ (side, item) ∷ [] }) (nat_lt 0 (length script.turns)) refl h named
extended_named script new (text_line.At ms) h named =
    let more : SoFar = record script { turns = script.turns ++ (ms, []) ∷ [] } in
    let is : more ≡ new = (if_some (nat_lt (length script.turns) 20000) more new h).1 in
    let same : lines_of (script.turns ++ (ms, []) ∷ []) ≡ lines_of script.turns = flat_map-append (λ (turn : ScriptTurn). turn.1)
    script.turns ((ms, []) ∷ []) ∙ append-nil (lines_of script.turns) in
    subst IsNamed is (subst (NamesOpened 0) (sym same) named)
extended_named script new (text_line.Within x) h named =
    let more : SoFar = record script { turns = with_line script.turns x } in
    let parts = if_some (nat_lt 0 (length script.turns) && may_follow (lines_of script.turns) x) more new h in
    let tests = and_parts (nat_lt 0 (length script.turns)) (may_follow (lines_of script.turns) x) parts.0 in
    let some : 0 < length script.turns = tested 0 (length script.turns) tests.0 in
    let follow : NamesOpened (opened (lines_of script.turns)) (x ∷ []) = follows (lines_of script.turns) x
    (subst (λ z. may_follow z x ≡ true) (lines_same script.turns) tests.1) in
    let count = opened_is (lines_of script.turns) in
    let here : NamesOpened (0 + length (links_of (lines_of script.turns))) (x ∷ []) = subst (λ m. NamesOpened m (x ∷ []))
    (omega (arith, count)) follow in
    subst IsNamed parts.1 (subst (NamesOpened 0) (sym (lines_with script.turns x some)) (named_push 0 (lines_of script.turns) x named here))
extended_named script new text_line.Skipped h named = subst IsNamed (from_some script new h) named

line_named : (script new : SoFar) (plain : Bool) (what : Option Line) → ◌≡◌ {A = Option SoFar}
    (if plain then option_and_then (λ x. extended script x) what else None) (Some new) → IsNamed script → IsNamed new
line_named script new true None h named = absurd (cc)
line_named script new true (Some what) h named = extended_named script new what h named
line_named script new false what h named = absurd (cc)

lines_named : (ls : List (List ℕ)) (script new : SoFar) (before : ℕ) → lines_read script before ls ≡ Ok new → IsNamed script → IsNamed new
lines_named [] script new before h named = subst IsNamed (from_ok script new h) named
lines_named (l ∷ ls) script new before h named = by_line (λ longer k. lines_named ls longer new (before + 1) k) (line_read script l) refl h
  where
    by_line : ((longer : SoFar) → lines_read longer (before + 1) ls ≡ Ok new → IsNamed longer → IsNamed new) → (o : Option SoFar) →
        line_read script l ≡ o →
        going_on o (before + 1) (λ longer. lines_read longer (before + 1) ls) ≡ Ok new → IsNamed new
    by_line rest None is k = absurd (cc)
    by_line rest (Some longer) is k = rest longer k (line_named script longer (list_all is_plain l) (said (words l)) is named)

pub spelled_names_opened : SpelledNamesOpened
spelled_names_opened text script h =
    let r = script_of-read text script h in
    let named : IsNamed r.so_far = lines_named (lines text) no_line r.so_far 0 r.read tt in
    rw (← r.is) named
