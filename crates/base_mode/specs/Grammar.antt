-- What a line says, by cases on its words. Which lines may stand behind which stands elsewhere.
use Rattle.std.specs.Prelude.{ℕ, ◌^◌, List, [], ◌∷◌, codes, Bool, true, false, if◌then◌else◌, nat_le, Option, Some, None, option_map}
use Rattle.std.specs.Prelude.{option_and_then}
use Rattle.std.specs.Str.{bytes_eq}
use Rattle.script_text.specs.Grammar.{is_comment}
use Rattle.script_text.specs.Numbers.{number_within}
use Rattle.base_mode.specs.declared.command.Reaction.{Reaction}
use Rattle.base_mode.specs.declared.command.Reaction.TheVariants as act
use Rattle.base_mode.specs.declared.command.Command.TheVariants as command
use Rattle.base_mode.specs.declared.line.Keyword.{Keyword}
use Rattle.base_mode.specs.declared.line.Keyword.TheVariants as key
use Rattle.base_mode.specs.declared.line.Line.{Line}
use Rattle.base_mode.specs.declared.line.Line.TheVariants as line

-- the kind of a line, by its first word
abbrev pub keyword_of : List ℕ → Option Keyword
keyword_of word =
    if bytes_eq word (codes "base") then Some key.Base
    else (if bytes_eq word (codes "new") then Some key.New
    else (if bytes_eq word (codes "prio") then Some key.Priority
    else (if bytes_eq word (codes "add") then Some key.Add
    else (if bytes_eq word (codes "del") then Some key.Delete
    else (if bytes_eq word (codes "active") then Some key.Activate
    else (if bytes_eq word (codes "signal") then Some key.Signal
    else (if bytes_eq word (codes "on") then Some key.On
    else (if bytes_eq word (codes "turn") then Some key.Turn
    else (if bytes_eq word (codes "common") then Some key.Common
    else None)))))))))

-- the number that a word spells, at least the one and at most the other
abbrev pub ranged : ℕ → ℕ → List ℕ → Option ℕ
ranged least most word = option_and_then (λ n. if nat_le least n then Some n else None) (number_within most word)

-- the name of an event
abbrev pub event_of : List ℕ → Option ℕ
event_of word = ranged 0 255 word

-- a delay: at most 2^40 ms
abbrev pub delay_of : List ℕ → Option ℕ
delay_of word = number_within (2 ^ 40) word

-- does the event of a line with this word stay pending as it fires
abbrev pub persists : List ℕ → Option Bool
persists word = if bytes_eq word (codes "persist") then Some true else (if bytes_eq word (codes "once") then Some false else None)

-- what a callback does, by its words
abbrev pub act_of : List (List ℕ) → Option Reaction
act_of (what ∷ []) = if bytes_eq what (codes "break") then Some act.Break else (if bytes_eq what (codes "exit") then Some act.Exit else None)
act_of (what ∷ event ∷ []) =
    option_and_then (λ e. if bytes_eq what (codes "del") then Some (act.Delete e) else (if bytes_eq what (codes "active") then Some (act.Activate e) else None)) (event_of event)
act_of (what ∷ event ∷ ms ∷ []) =
    if bytes_eq what (codes "add") then option_and_then (λ e. option_map (λ d. act.Add e d) (delay_of ms)) (event_of event) else None
act_of _ = None

-- What a line of a kind says by its further words.
abbrev pub said_by : Keyword → List (List ℕ) → Option Line
said_by key.Base (priorities ∷ []) = option_map (λ p. line.Base p) (ranged 1 256 priorities)
said_by key.New (event ∷ life ∷ []) =
    option_and_then (λ e. option_map (λ p. line.Put (command.New e p None)) (persists life)) (event_of event)
said_by key.New (event ∷ life ∷ word ∷ signal ∷ []) =
    if bytes_eq word (codes "signal")
    then option_and_then (λ e. option_and_then (λ p. option_map (λ s. line.Put (command.New e p (Some s))) (ranged 0 64 signal)) (persists life)) (event_of event)
    else None
said_by key.Priority (event ∷ priority ∷ []) =
    option_and_then (λ e. option_map (λ p. line.Put (command.Priority e p)) (ranged 0 1000 priority)) (event_of event)
said_by key.Add (event ∷ []) = option_map (λ e. line.Put (command.Add e None)) (event_of event)
said_by key.Add (event ∷ ms ∷ []) =
    option_and_then (λ e. option_map (λ d. line.Put (command.Add e (Some d))) (delay_of ms)) (event_of event)
said_by key.Delete (event ∷ []) = option_map (λ e. line.Put (command.Delete e)) (event_of event)
said_by key.Activate (event ∷ []) = option_map (λ e. line.Put (command.Activate e)) (event_of event)
said_by key.Signal (signal ∷ count ∷ []) =
    option_and_then (λ s. option_map (λ n. line.Put (command.Signal s n)) (ranged 1 1000 count)) (ranged 0 64 signal)
said_by key.On (event ∷ nth ∷ words) =
    option_and_then (λ e. option_and_then (λ k. option_map (λ a. line.Put (command.On e k a)) (act_of words)) (number_within (2 ^ 62) nth)) (event_of event)
said_by key.Turn (ms ∷ []) = option_map (λ n. line.Put (command.Turn n)) (number_within (2 ^ 40) ms)
said_by key.Common (ms ∷ []) = option_map (λ n. line.Put (command.Common n)) (ranged 1 (2 ^ 40) ms)
said_by _ _ = None

-- what a line says, by all its words
abbrev pub said : List (List ℕ) → Option Line
said [] = Some line.Skipped
said (first ∷ more) = if is_comment first then Some line.Skipped else option_and_then (λ keyword. said_by keyword more) (keyword_of first)
