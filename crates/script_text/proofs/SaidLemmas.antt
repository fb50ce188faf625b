-- What a line that is said has by its kind, and what each line that is read leaves.
use Rattle.std.proofs.Common.{◌≡◌, ◌+◌, ◌^◌, ℕ, true, false, List, [], ◌∷◌, codes, Option, Some, None, Ok, refl, subst}
use Rattle.std.specs.Prelude.{IfSome, option_map, option_and_then}
use Rattle.std.specs.List.{list_all}
use Rattle.std.specs.Str.{bytes_eq}
use Rattle.ev_types.specs.declared.plan_line.PlanLine.{PlanLine}
use Rattle.ev_types.specs.declared.side.SideId.{SideId}
use Rattle.ev_types.specs.declared.turn_line.TurnLine.{TurnLine}
use Rattle.ev_types.specs.declared.turn_line.TurnLine.TheVariants as turn
use Rattle.script_text.specs.declared.line.Keyword.{Keyword}
use Rattle.script_text.specs.declared.line.Keyword.TheVariants as keyword
use Rattle.script_text.specs.declared.line.Line.{Line}
use Rattle.script_text.specs.declared.line.Line.TheVariants as line
use Rattle.script_text.specs.declared.setting.SettingName.{SettingName}
use Rattle.script_text.specs.Script.{ScriptValue, SoFar, whole}
use Rattle.script_text.specs.Pieces.{lines, words}
use Rattle.script_text.specs.Numbers.{number_within, bytes_of}
use Rattle.script_text.specs.Ends.{link_of, end_of}
use Rattle.script_text.specs.ValueGrammar.{why_kind_of}
use Rattle.script_text.specs.ActGrammar.{planned_ask}
use Rattle.script_text.specs.GroupsAndPlans.{hooked_of, nth_of}
use Rattle.script_text.specs.Grammar.{keyword_of, made_of, more_of, of_end, setting_name_of, set_by, said_by, is_comment, said}
use Rattle.script_text.specs.Order.{extended}
use Rattle.script_text.specs.Spelled.{is_plain, line_read, going_on, lines_read, no_line, script_of}
use Rattle.script_text.proofs.LawLemmas.{script_of-read}
use Rattle.script_text.proofs.SpelledLengthLemmas.{some-map, some-then, some-if}

-- What holds of each setting that words make, and of all lines that set nothing, holds of each line that words say.
module _ (P : Line → Type 0) (sets : (named : SettingName) (ws : List (List ℕ)) → IfSome (set_by named ws) (λ s. P (line.Set s)))
    (plans : (end : SideId) (item : PlanLine) → P (line.Plan end item)) (begins : (ms : ℕ) → P (line.At ms))
    (within : (x : TurnLine) → P (line.Within x)) (skips : P line.Skipped) where
  of_end-each : (what : SideId → TurnLine) (link side : List ℕ) → IfSome (of_end what link side) P
  of_end-each what link side = some-map P (λ e. line.Within (what e)) (λ e. within (what e)) (end_of link side)

  said_by-each : (k : Keyword) (ws : List (List ℕ)) → IfSome (said_by k ws) P
  said_by-each keyword.Set (what ∷ more) =
      some-then P (λ named. option_map (λ s. line.Set s) (set_by named more)) (λ named. of_set (set_by named more) (sets named more))
      (setting_name_of what)
    where
      of_set : (o : Option _) → IfSome o (λ s. P (line.Set s)) → IfSome (option_map (λ s. line.Set s) o) P
      of_set None h = tt
      of_set (Some s) h = h
  said_by-each keyword.At (ms ∷ []) = some-map P (λ n. line.At n) begins (number_within (2 ^ 40) ms)
  said_by-each keyword.Open [] = within (turn.NewLink false)
  said_by-each keyword.Open (word ∷ []) =
      some-if P (bytes_eq word (codes "wait")) (Some (line.Within (turn.NewLink true))) None (within (turn.NewLink true)) tt
  said_by-each keyword.Conn (link ∷ word ∷ []) =
      some-then P (λ made. option_map (λ l. line.Within (turn.Conn l made)) (link_of link))
      (λ made. some-map P (λ l. line.Within (turn.Conn l made)) (λ l. within (turn.Conn l made)) (link_of link)) (made_of word)
  said_by-each keyword.Pending (link ∷ side ∷ digits ∷ []) =
      some-then P (λ e. option_map (λ bytes. line.Within (turn.Pending e bytes)) (bytes_of digits))
      (λ e. some-map P (λ bytes. line.Within (turn.Pending e bytes)) (λ bytes. within (turn.Pending e bytes)) (bytes_of digits))
      (end_of link side)
  said_by-each keyword.Eof (link ∷ side ∷ []) = of_end-each (λ e. turn.Eof e) link side
  said_by-each keyword.ReadFail (link ∷ side ∷ []) = of_end-each (λ e. turn.ReadFail e) link side
  said_by-each keyword.Take (link ∷ side ∷ count ∷ []) =
      some-then P (λ more. of_end (λ e. turn.Take e more) link side) (λ more. of_end-each (λ e. turn.Take e more) link side)
      (more_of count)
  said_by-each keyword.WriteFail (link ∷ side ∷ []) = of_end-each (λ e. turn.WriteFail e) link side
  said_by-each keyword.Spur (link ∷ side ∷ []) = of_end-each (λ e. turn.Spur e) link side
  said_by-each keyword.PollFail [] = within turn.PollFail
  said_by-each keyword.On (link ∷ side ∷ why ∷ nth ∷ act) =
      some-then P _ (λ end.
      some-then P _ (λ kind.
      some-then P _ (λ n.
      some-then P (λ ask. Some (line.Plan end (let item : PlanLine = record { why = kind; nth = n; act = ask } in item)))
      (λ ask. plans end (record { why = kind; nth = n; act = ask })) (planned_ask act)) (nth_of nth)) (why_kind_of why))
      (hooked_of link side)
  said_by-each _ _ = tt

  pub said-each : (ws : List (List ℕ)) → IfSome (said ws) P
  said-each [] = skips
  said-each (first ∷ more) =
      some-if P (is_comment first) (Some line.Skipped) (option_and_then (λ k. said_by k more) (keyword_of first)) skips
      (some-then P (λ k. said_by k more) (λ k. said_by-each k more) (keyword_of first))

-- What each line that is said keeps, a text keeps from its first line to its last.
module _ (P : SoFar → Type 0)
    (keeps : (s : SoFar) (ws : List (List ℕ)) (x : Line) → said ws ≡ Some x → P s → IfSome (extended s x) P) where
  line_read-keeps : (s : SoFar) (text : List ℕ) → P s → IfSome (line_read s text) P
  line_read-keeps s text k =
      some-if P (list_all is_plain text) (option_and_then (λ what. extended s what) (said (words text))) None
      (go (said (words text)) refl) tt
    where
      go : (o : Option Line) → said (words text) ≡ o → IfSome (option_and_then (λ what. extended s what) o) P
      go None is = tt
      go (Some x) is = keeps s (words text) x is k

  lines_read-keeps : (ls : List (List ℕ)) (s new : SoFar) (before : ℕ) → P s → lines_read s before ls ≡ Ok new → P new
  lines_read-keeps [] s new before k read = let same : s ≡ new = cc read in subst P same k
  lines_read-keeps (l ∷ ls) s new before k read =
      go (λ longer kept on. lines_read-keeps ls longer new (before + 1) kept on) (line_read s l) (line_read-keeps s l k) read
    where
      go : ((longer : SoFar) → P longer → lines_read longer (before + 1) ls ≡ Ok new → P new) → (o : Option SoFar) → IfSome o P →
          going_on o (before + 1) (λ longer. lines_read longer (before + 1) ls) ≡ Ok new → P new
      go rest None kept on = absurd (cc on)
      go rest (Some longer) kept on = rest longer kept on

  -- so the script of a text is one that keeps it
  pub script_of-keeps : P no_line → (Q : ScriptValue → Type 0) → ((s : SoFar) → P s → Q (whole s)) →
      (text : List ℕ) (script : ScriptValue) → script_of text ≡ Ok script → Q script
  script_of-keeps start Q ends text script spelled =
      let r = script_of-read text script spelled in
      subst Q r.is (ends r.so_far (lines_read-keeps (lines text) no_line r.so_far 0 start r.read))
