-- A script plans for the sides of the links 0 to 31 alone.
use Rattle.std.proofs.Common.{◌≡◌, ◌≤◌, ◌<◌, ◌^◌, ℕ, Bool, true, false, ◌&&◌, ◌||◌, not, nat_lt, nat_le, if◌then◌else◌, List, [], ◌∷◌, ◌++◌}
use Rattle.std.proofs.Common.{length, codes, Option, Some, None, Ok, refl, subst, arith}
use Rattle.std.specs.Prelude.{IfSome, option_map, option_and_then}
use Rattle.std.specs.List.{All}
use Rattle.std.specs.Str.{bytes_eq}
use Rattle.std.proofs.lemmas.Bool.{leb-true}
use Rattle.std.proofs.lemmas.List.Elements.{All-nil, All-cons, All-append}
use Rattle.ev_types.specs.declared.plan_line.PlanLine.{PlanLine}
use Rattle.ev_types.specs.declared.side.Side.{Side}
use Rattle.ev_types.specs.declared.side.Side.TheVariants.{In, Out}
use Rattle.ev_types.specs.declared.side.SideId.{SideId}
use Rattle.ev_types.specs.ScriptTurn.{lines_of}
use Rattle.ev_types.specs.Sides.{number}
use Rattle.script_text.specs.declared.line.Keyword.{Keyword}
use Rattle.script_text.specs.declared.line.Keyword.TheVariants as keyword
use Rattle.script_text.specs.declared.line.Line.{Line}
use Rattle.script_text.specs.declared.line.Line.TheVariants as line
use Rattle.script_text.specs.declared.setting.Given.{Given}
use Rattle.script_text.specs.Given.{with_setting}
use Rattle.script_text.specs.Order.{may_be_set, group_set, may_follow, with_line, extended}
use Rattle.script_text.specs.Pieces.{lines}
use Rattle.script_text.specs.Script.{ScriptValue, SoFar}
use Rattle.script_text.specs.Spelled.{no_line, script_of}
use Rattle.script_text.proofs.LawLemmas.{script_of-read}
use Rattle.evplay.proofs.ScriptLemmas.{some-is, none-some, keeps-lines}
use Rattle.ev_types.specs.declared.turn_line.TurnLine.TheVariants as turn
use Rattle.script_text.specs.Numbers.{number_within, bytes_of, is_numeral, value_of}
use Rattle.script_text.specs.Ends.{link_of, end_of, side_of}
use Rattle.script_text.specs.Grammar.{keyword_of, made_of, more_of, of_end, setting_name_of, set_by, said_by, is_comment, said}
use Rattle.script_text.specs.GroupsAndPlans.{hooked_of, nth_of}
use Rattle.script_text.specs.ValueGrammar.{why_kind_of}
use Rattle.script_text.specs.ActGrammar.{planned_ask}
use Rattle.evplay.proofs.BroughtLemmas.{some-map, some-then, some-if}

abbrev IsLow : SideId × PlanLine → Type 0
IsLow x = number x.0 < 64

-- Each line by itself

-- what a line plans is for such a side
abbrev IsLowLine : Line → Type 0
IsLowLine (line.Plan side item) = number side < 64
IsLowLine _ = Unit {0}

some-of : {A B : Type 0} (P : B → Type 0) (f : A → Option B) (Q : A → Type 0) → ((x : A) → Q x → IfSome (f x) P) → (o : Option A) →
    IfSome o Q → IfSome (option_and_then f o) P
some-of P f Q each None q = tt
some-of P f Q each (Some x) q = each x q

within-low : (max : ℕ) (word : List ℕ) → IfSome (number_within max word) (λ n. n ≤ max)
within-low max word = go (is_numeral word) (nat_le (value_of word) max) refl
  where
    go : (a b : Bool) → nat_le (value_of word) max ≡ b → IfSome (if a && b then Some (value_of word) else None) (λ n. n ≤ max)
    go true true is = leb-true (value_of word) max is
    go true false is = tt
    go false b is = tt

low-number : (l : ℕ) (s : Side) → l ≤ 31 → number (record { link = l; side = s }) < 64
low-number l In h = omega (arith, h)
low-number l Out h = omega (arith, h)

hooked-low : (link side : List ℕ) → IfSome (hooked_of link side) (λ e. number e < 64)
hooked-low link side =
    some-then (λ e. number e < 64) _ (λ s.
    some-of (λ e. number e < 64) (λ l. Some (let e : SideId = record { link = l; side = s } in e)) (λ l. l ≤ 31) (λ l h. low-number l s h)
    (number_within 31 link) (within-low 31 link)) (side_of side)

said_by-low : (k : Keyword) (ws : List (List ℕ)) → IfSome (said_by k ws) IsLowLine
said_by-low keyword.Set (what ∷ more) =
    some-then IsLowLine (λ named. option_map (λ s. line.Set s) (set_by named more))
    (λ named. some-map IsLowLine (λ s. line.Set s) (λ s. tt) (set_by named more)) (setting_name_of what)
said_by-low keyword.At (ms ∷ []) = some-map IsLowLine (λ n. line.At n) (λ n. tt) (number_within (2 ^ 40) ms)
said_by-low keyword.Open [] = tt
said_by-low keyword.Open (word ∷ []) = some-if IsLowLine (bytes_eq word (codes "wait")) (Some (line.Within (turn.NewLink true))) None tt tt
said_by-low keyword.Conn (link ∷ word ∷ []) =
    some-then IsLowLine (λ made. option_map (λ l. line.Within (turn.Conn l made)) (link_of link))
    (λ made. some-map IsLowLine (λ l. line.Within (turn.Conn l made)) (λ l. tt) (link_of link)) (made_of word)
said_by-low keyword.Pending (link ∷ side ∷ digits ∷ []) =
    some-then IsLowLine (λ e. option_map (λ bytes. line.Within (turn.Pending e bytes)) (bytes_of digits))
    (λ e. some-map IsLowLine (λ bytes. line.Within (turn.Pending e bytes)) (λ bytes. tt) (bytes_of digits)) (end_of link side)
said_by-low keyword.Eof (link ∷ side ∷ []) = some-map IsLowLine (λ e. line.Within (turn.Eof e)) (λ e. tt) (end_of link side)
said_by-low keyword.ReadFail (link ∷ side ∷ []) = some-map IsLowLine (λ e. line.Within (turn.ReadFail e)) (λ e. tt) (end_of link side)
said_by-low keyword.Take (link ∷ side ∷ count ∷ []) =
    some-then IsLowLine (λ more. of_end (λ e. turn.Take e more) link side)
    (λ more. some-map IsLowLine (λ e. line.Within (turn.Take e more)) (λ e. tt) (end_of link side)) (more_of count)
said_by-low keyword.WriteFail (link ∷ side ∷ []) = some-map IsLowLine (λ e. line.Within (turn.WriteFail e)) (λ e. tt) (end_of link side)
said_by-low keyword.Spur (link ∷ side ∷ []) = some-map IsLowLine (λ e. line.Within (turn.Spur e)) (λ e. tt) (end_of link side)
said_by-low keyword.PollFail [] = tt
said_by-low keyword.On (link ∷ side ∷ why ∷ nth ∷ act) =
    some-of IsLowLine _ (λ e. number e < 64) (λ end low.
    some-then IsLowLine _ (λ kind.
    some-then IsLowLine _ (λ n.
    some-then IsLowLine (λ ask. Some (line.Plan end (let item : PlanLine = record { why = kind; nth = n; act = ask } in item))) (λ ask. low)
    (planned_ask act)) (nth_of nth)) (why_kind_of why)) (hooked_of link side) (hooked-low link side)
said_by-low _ _ = tt

said-low : (ws : List (List ℕ)) → IfSome (said ws) IsLowLine
said-low [] = tt
said-low (first ∷ more) =
    some-if IsLowLine (is_comment first) (Some line.Skipped) (option_and_then (λ k. said_by k more) (keyword_of first)) tt
    (some-then IsLowLine (λ k. said_by k more) (λ k. said_by-low k more) (keyword_of first))

-- The lines so far

abbrev AllLow : SoFar → Type 0
AllLow s = All IsLow s.plans

extended-low : (s new : SoFar) (x : Line) → IsLowLine x → AllLow s → extended s x ≡ Some new → AllLow new
extended-low s new (line.Set setting) is all h =
    set_case (nat_lt 0 (length s.turns) || not (may_be_set s.groups setting)) (with_setting s.given setting) h
  where
    set_case : (b : Bool) (o : Option Given) →
        (if b then None else option_map (λ g. let z : SoFar = record s { given = g; groups = s.groups ++ group_set setting } in z)
        o) ≡ Some new →
        AllLow new
    set_case true o k = none-some new k
    set_case false None k = none-some new k
    set_case false (Some g) k = subst AllLow (some-is _ new k) all
extended-low s new (line.Plan side item) is all h = plan_case (nat_lt 0 (length s.turns)) h
  where
    plan_case : (b : Bool) → (if b then None else Some (record s { plans = s.plans ++ (side, item) ∷ [] })) ≡ Some new → AllLow new
    plan_case true k = none-some new k
    plan_case false k =
        subst AllLow (some-is _ new k) (All-append IsLow s.plans ((side, item) ∷ []) all
        (All-cons IsLow (side, item) [] is (All-nil IsLow)))
extended-low s new (line.At ms) is all h = at_case (nat_lt (length s.turns) 20000) h
  where
    at_case : (b : Bool) → (if b then Some (record s { turns = s.turns ++ (ms, []) ∷ [] }) else None) ≡ Some new → AllLow new
    at_case true k = subst AllLow (some-is _ new k) all
    at_case false k = none-some new k
extended-low s new line.Skipped is all h = subst AllLow (some-is s new h) all
extended-low s new (line.Within x) is all h = within_case (nat_lt 0 (length s.turns) && may_follow (lines_of s.turns) x) h
  where
    within_case : (b : Bool) → (if b then Some (record s { turns = with_line s.turns x }) else None) ≡ Some new → AllLow new
    within_case true k = subst AllLow (some-is _ new k) all
    within_case false k = none-some new k

-- what a text spells plans for such sides
pub plans-low : (text : List ℕ) (script : ScriptValue) → script_of text ≡ Ok script → All IsLow script.plans
plans-low text script h =
    let read = script_of-read text script h in
    subst (λ (z : ScriptValue). All IsLow z.plans) read.is
    (keeps-lines AllLow (λ s new ws x is all e. extended-low s new x (subst (λ o. IfSome o IsLowLine) is (said-low ws)) all e) no_line
    read.so_far 0
    (lines text) (All-nil IsLow) read.read)
