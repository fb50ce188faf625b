-- What each line that is said leaves holds of a whole script, as that it has at most 20,000 turns.
use Rattle.std.proofs.Common.{◌≡◌, ◌≤◌, ◌+◌, ℕ, Bool, true, false, List, [], ◌∷◌, ◌++◌, length, Option, Some, None, Ok, refl, arith, subst}
use Rattle.std.proofs.Common.{length-append, if◌then◌else◌, ◌&&◌, ◌||◌, not}
use Rattle.std.specs.Prelude.{nat_lt, option_map, option_and_then}
use Rattle.std.specs.List.{list_all}
use Rattle.std.proofs.lemmas.Bool.{ltb-true}
use Rattle.ev_types.specs.ScriptTurn.{ScriptTurn, lines_of}
use Rattle.script_text.specs.Script.{ScriptValue, SoFar}
use Rattle.script_text.specs.Given.{with_setting}
use Rattle.script_text.specs.declared.setting.Given.{Given}
use Rattle.script_text.proofs.LawLemmas.{script_of-read}
use Rattle.ev_types.specs.declared.turn_line.TurnLine.{TurnLine}
use Rattle.script_text.specs.declared.line.Line.{Line}
use Rattle.script_text.specs.declared.line.Line.TheVariants.{Set, Plan, At, Within, Skipped}
use Rattle.script_text.specs.Pieces.{lines, words}
use Rattle.script_text.specs.Grammar.{said}
use Rattle.script_text.specs.Order.{may_be_set, group_set, with_line, extended, may_follow}
use Rattle.script_text.specs.Spelled.{is_plain, line_read, lines_read, going_on, no_line, script_of}

-- a line more leaves as many turns
length-with_line : (turns : List ScriptTurn) (x : TurnLine) → length (with_line turns x) ≡ length turns
length-with_line [] x = refl
length-with_line (t ∷ []) x = refl
length-with_line (t ∷ u ∷ more) x = grind (arith, length-with_line (u ∷ more) x)

pub some-is : {A : Type 0} (a b : A) → Some a ≡ Some b → a ≡ b
some-is a b h = cc h

pub none-some : {A B : Type 0} (a : A) → None ≡ Some a → B
none-some a h = absurd (cc h)

-- where a line stands, there are few turns still
few-extended : (s new : SoFar) (x : Line) → length s.turns ≤ 20000 → extended s x ≡ Some new → length new.turns ≤ 20000
few-extended s new (Set setting) few h =
    set_case (nat_lt 0 (length s.turns) || not (may_be_set s.groups setting)) (with_setting s.given setting) h
  where
    set_case : (b : Bool) (o : Option Given) →
        (if b then None else option_map (λ g. let z : SoFar = record s { given = g; groups = s.groups ++ group_set setting } in z)
        o) ≡ Some new →
        length new.turns ≤ 20000
    set_case true o e = none-some new e
    set_case false None e = none-some new e
    set_case false (Some g) e = rw (← some-is _ new e) few
few-extended s new (Plan side item) few h = plan_case (nat_lt 0 (length s.turns)) h
  where
    plan_case : (b : Bool) → (if b then None else Some (record s { plans = s.plans ++ (side, item) ∷ [] })) ≡ Some new →
        length new.turns ≤ 20000
    plan_case true e = none-some new e
    plan_case false e = rw (← some-is _ new e) few
few-extended s new (At ms) few h = at_case (nat_lt (length s.turns) 20000) refl h
  where
    at_case : (b : Bool) → nat_lt (length s.turns) 20000 ≡ b →
        (if b then Some (record s { turns = s.turns ++ (ms, []) ∷ [] }) else None) ≡ Some new → length new.turns ≤ 20000
    at_case true below e =
        rw (← some-is _ new e) (omega (arith, ltb-true (length s.turns) 20000 below, length-append s.turns ((ms, []) ∷ [])))
    at_case false below e = none-some new e
few-extended s new Skipped few h = rw (← some-is s new h) few
few-extended s new (Within x) few h = within_case (nat_lt 0 (length s.turns) && may_follow (lines_of s.turns) x) h
  where
    within_case : (b : Bool) → (if b then Some (record s { turns = with_line s.turns x }) else None) ≡ Some new →
        length new.turns ≤ 20000
    within_case true e = rw (← some-is _ new e) (omega (arith, length-with_line s.turns x))
    within_case false e = none-some new e

-- A line leaves what each line that is said leaves.
keeps-read : (P : SoFar → Type 0) →
    ((s new : SoFar) (ws : List (List ℕ)) (x : Line) → said ws ≡ Some x → P s → extended s x ≡ Some new → P new) →
    (s new : SoFar) (line : List ℕ) → P s → line_read s line ≡ Some new → P new
keeps-read P step s new line p h = plain_case (list_all is_plain line) h
  where
    said_case : (o : Option Line) → said (words line) ≡ o → option_and_then (λ what. extended s what) o ≡ Some new → P new
    said_case None is e = none-some new e
    said_case (Some x) is e = step s new (words line) x is p e

    plain_case : (b : Bool) → (if b then option_and_then (λ what. extended s what) (said (words line)) else None) ≡ Some new → P new
    plain_case true e = said_case (said (words line)) refl e
    plain_case false e = none-some new e

-- so do all lines
pub keeps-lines : (P : SoFar → Type 0) →
    ((s new : SoFar) (ws : List (List ℕ)) (x : Line) → said ws ≡ Some x → P s → extended s x ≡ Some new → P new) →
    (s new : SoFar) (before : ℕ) (all : List (List ℕ)) → P s → lines_read s before all ≡ Ok new → P new
keeps-lines P step s new before [] p h = let same : s ≡ new = cc h in subst P same p
keeps-lines P step s new before (line ∷ more) p h =
    next_case (line_read s line) refl (λ longer q e. keeps-lines P step longer new (before + 1) more q e) h
  where
    next_case : (o : Option SoFar) → line_read s line ≡ o →
        ((longer : SoFar) → P longer → lines_read longer (before + 1) more ≡ Ok new → P new) →
        going_on o (before + 1) (λ longer. lines_read longer (before + 1) more) ≡ Ok new → P new
    next_case None is later e = absurd (cc e)
    next_case (Some longer) is later e = later longer (keeps-read P step s longer line p is) e

-- what a text spells has at most 20,000 turns
pub few-turns : (text : List ℕ) (script : ScriptValue) → script_of text ≡ Ok script → length script.turns ≤ 20000
few-turns text script h =
    let read = script_of-read text script h in
    subst (λ (z : ScriptValue). length z.turns ≤ 20000) read.is
    (keeps-lines (λ s. length s.turns ≤ 20000) (λ s new ws x is few e. few-extended s new x few e) no_line read.so_far 0 (lines text)
    (omega arith) read.read)

-- it sets no number of links
pub links-usual : (text : List ℕ) (script : ScriptValue) → script_of text ≡ Ok script → script.settings.links ≡ 256
links-usual text script h = let read = script_of-read text script h in
    subst (λ (z : ScriptValue). z.settings.links ≡ 256) read.is refl
