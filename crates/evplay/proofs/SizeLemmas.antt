-- What a text spells is small: its moments are at most 2^40, and it opens at most 256 links.
use Rattle.std.proofs.Common.{◌≡◌, ◌≤◌, ◌+◌, ◌*◌, ◌^◌, ℕ, Bool, true, false, ◌&&◌, ◌||◌, not, nat_lt, List, [], ◌∷◌, ◌++◌, length}
use Rattle.std.proofs.Common.{codes}
use Rattle.std.proofs.Common.{Option, Some, None, Ok, refl, sym, ap, ◌∙◌, subst, arith, if◌then◌else◌, length-append}
use Rattle.std.specs.Prelude.{All, IfSome, option_map, option_and_then}
use Rattle.std.specs.List.{flat_map}
use Rattle.std.specs.Str.{bytes_eq}
use Rattle.std.proofs.lemmas.Bool.{and_parts, ltb-true}
use Rattle.std.proofs.lemmas.Grind.{flat_map-append}
use Rattle.std.proofs.lemmas.List.Elements.{All-append, All-cons, All-head, All-nil, All-tail}
use Rattle.ev_types.specs.declared.plan_line.PlanLine.{PlanLine}
use Rattle.ev_types.specs.declared.turn_line.TurnLine.{TurnLine}
use Rattle.ev_types.specs.declared.turn_line.TurnLine.TheVariants as turn
use Rattle.ev_types.specs.ScriptTurn.{ScriptTurn, lines_of}
use Rattle.script_text.specs.declared.line.Keyword.{Keyword}
use Rattle.script_text.specs.declared.line.Keyword.TheVariants as keyword
use Rattle.script_text.specs.declared.line.Line.{Line}
use Rattle.script_text.specs.declared.line.Line.TheVariants as line
use Rattle.script_text.specs.declared.setting.Given.{Given}
use Rattle.script_text.specs.ActGrammar.{planned_ask}
use Rattle.script_text.specs.Brought.{all_brought}
use Rattle.script_text.specs.Ends.{link_of, end_of}
use Rattle.script_text.specs.Given.{with_setting}
use Rattle.script_text.specs.Grammar.{keyword_of, made_of, more_of, of_end, setting_name_of, set_by, said_by, is_comment, said}
use Rattle.script_text.specs.GroupsAndPlans.{hooked_of, nth_of}
use Rattle.script_text.specs.Numbers.{number_within, bytes_of}
use Rattle.script_text.specs.Order.{may_be_set, group_set, may_follow, with_line, extended, opened, opened_by}
use Rattle.script_text.specs.Pieces.{lines}
use Rattle.script_text.specs.Script.{ScriptValue, SoFar}
use Rattle.script_text.specs.Spelled.{no_line, script_of}
use Rattle.script_text.specs.ValueGrammar.{why_kind_of}
use Rattle.script_text.proofs.LawLemmas.{script_of-read, decimal-number_within}
use Rattle.relay_model.specs.Lines.{links_by}
use Rattle.drain_laws.specs.CanDrain.{NoneBehind}
use Rattle.evplay.specs.Run.{AreSmall}
use Rattle.evplay.proofs.BehindLemmas.{behind-more, behind-none}
use Rattle.evplay.proofs.BroughtLemmas.{some-map, some-then, some-if, lines_of-turn, lines_of-with_line}
use Rattle.evplay.proofs.ScriptLemmas.{few-turns, some-is, none-some, keeps-lines}

-- Each line by itself

-- a line begins a turn at a moment of at most 2^40
abbrev IsSoon : Line → Type 0
IsSoon (line.At ms) = ms ≤ 2 ^ 40
IsSoon _ = Unit {0}

at-soon : (ms : List ℕ) → IfSome (option_map (λ n. line.At n) (number_within (2 ^ 40) ms)) IsSoon
at-soon ms = go (number_within (2 ^ 40) ms) refl
  where
    go : (o : Option ℕ) → number_within (2 ^ 40) ms ≡ o → IfSome (option_map (λ n. line.At n) o) IsSoon
    go None h = tt
    go (Some n) h = (decimal-number_within (2 ^ 40) n ms (omega arith) h).1

said_by-soon : (k : Keyword) (ws : List (List ℕ)) → IfSome (said_by k ws) IsSoon
said_by-soon keyword.Set (what ∷ more) =
    some-then IsSoon (λ named. option_map (λ s. line.Set s) (set_by named more))
    (λ named. some-map IsSoon (λ s. line.Set s) (λ s. tt) (set_by named more)) (setting_name_of what)
said_by-soon keyword.At (ms ∷ []) = at-soon ms
said_by-soon keyword.Open [] = tt
said_by-soon keyword.Open (word ∷ []) = some-if IsSoon (bytes_eq word (codes "wait")) (Some (line.Within (turn.NewLink true))) None tt tt
said_by-soon keyword.Conn (link ∷ word ∷ []) =
    some-then IsSoon (λ made. option_map (λ l. line.Within (turn.Conn l made)) (link_of link))
    (λ made. some-map IsSoon (λ l. line.Within (turn.Conn l made)) (λ l. tt) (link_of link)) (made_of word)
said_by-soon keyword.Pending (link ∷ side ∷ digits ∷ []) =
    some-then IsSoon (λ e. option_map (λ bytes. line.Within (turn.Pending e bytes)) (bytes_of digits))
    (λ e. some-map IsSoon (λ bytes. line.Within (turn.Pending e bytes)) (λ bytes. tt) (bytes_of digits)) (end_of link side)
said_by-soon keyword.Eof (link ∷ side ∷ []) = some-map IsSoon (λ e. line.Within (turn.Eof e)) (λ e. tt) (end_of link side)
said_by-soon keyword.ReadFail (link ∷ side ∷ []) = some-map IsSoon (λ e. line.Within (turn.ReadFail e)) (λ e. tt) (end_of link side)
said_by-soon keyword.Take (link ∷ side ∷ count ∷ []) =
    some-then IsSoon (λ more. of_end (λ e. turn.Take e more) link side)
    (λ more. some-map IsSoon (λ e. line.Within (turn.Take e more)) (λ e. tt) (end_of link side)) (more_of count)
said_by-soon keyword.WriteFail (link ∷ side ∷ []) = some-map IsSoon (λ e. line.Within (turn.WriteFail e)) (λ e. tt) (end_of link side)
said_by-soon keyword.Spur (link ∷ side ∷ []) = some-map IsSoon (λ e. line.Within (turn.Spur e)) (λ e. tt) (end_of link side)
said_by-soon keyword.PollFail [] = tt
said_by-soon keyword.On (link ∷ side ∷ why ∷ nth ∷ act) =
    some-then IsSoon _ (λ end.
    some-then IsSoon _ (λ kind.
    some-then IsSoon _ (λ n.
    some-then IsSoon (λ ask. Some (line.Plan end (let item : PlanLine = record { why = kind; nth = n; act = ask } in item))) (λ ask. tt)
    (planned_ask act)) (nth_of nth)) (why_kind_of why)) (hooked_of link side)
said_by-soon _ _ = tt

said-soon : (ws : List (List ℕ)) → IfSome (said ws) IsSoon
said-soon [] = tt
said-soon (first ∷ more) =
    some-if IsSoon (is_comment first) (Some line.Skipped) (option_and_then (λ k. said_by k more) (keyword_of first)) tt
    (some-then IsSoon (λ k. said_by k more) (λ k. said_by-soon k more) (keyword_of first))

-- The lines so far

abbrev IsEarly : ScriptTurn → Type 0
IsEarly turn = turn.0 ≤ 2 ^ 40

-- the moments so far are at most 2^40, the links at most 256, and nothing is brought in behind an end
record IsSmallSoFar (turns : List ScriptTurn) : Type 0 where
  moments : All IsEarly turns
  links : opened (lines_of turns) ≤ 256
  behind : NoneBehind (lines_of turns)

moments-with_line : (turns : List ScriptTurn) (x : TurnLine) → All IsEarly turns →
    All IsEarly (with_line turns x)
moments-with_line [] x h = h
moments-with_line (t ∷ []) x h = All-cons IsEarly (t.0, t.1 ++ x ∷ []) [] (All-head IsEarly t [] h) (All-nil IsEarly)
moments-with_line (t ∷ next ∷ more) x h =
    All-cons IsEarly t (with_line (next ∷ more) x) (All-head IsEarly t (next ∷ more) h)
    (moments-with_line (next ∷ more) x (All-tail IsEarly t (next ∷ more) h))

opened-push : (xs : List TurnLine) (x : TurnLine) → opened (xs ++ x ∷ []) ≡ opened xs + opened (x ∷ [])
opened-push xs x =
    ap length (flat_map-append opened_by xs (x ∷ []))
    ∙ length-append (flat_map opened_by xs) (flat_map opened_by (x ∷ []))

-- a line opens one link at most, and one only where fewer than 256 are opened
opens-few : (before : List TurnLine) (x : TurnLine) → may_follow before x ≡ true → opened before ≤ 256 →
    opened before + opened (x ∷ []) ≤ 256
opens-few before (turn.NewLink wait) may few = omega (arith, ltb-true (opened before) 256 may)
opens-few before (turn.Conn link made) may few = omega (arith, few)
opens-few before (turn.Pending side bytes) may few = omega (arith, few)
opens-few before (turn.Eof side) may few = omega (arith, few)
opens-few before (turn.ReadFail side) may few = omega (arith, few)
opens-few before (turn.Take side more) may few = omega (arith, few)
opens-few before (turn.WriteFail side) may few = omega (arith, few)
opens-few before (turn.Spur side) may few = omega (arith, few)
opens-few before turn.PollFail may few = omega (arith, few)

extended-small : (s new : SoFar) (x : Line) → IsSoon x → IsSmallSoFar s.turns → extended s x ≡ Some new → IsSmallSoFar new.turns
extended-small s new (line.Set setting) soon small h =
    set_case (nat_lt 0 (length s.turns) || not (may_be_set s.groups setting)) (with_setting s.given setting) h
  where
    set_case : (b : Bool) (o : Option Given) →
        (if b then None else option_map (λ g. let z : SoFar = record s { given = g; groups = s.groups ++ group_set setting } in z)
        o) ≡ Some new →
        IsSmallSoFar new.turns
    set_case true o k = none-some new k
    set_case false None k = none-some new k
    set_case false (Some g) k = subst (λ (z : SoFar). IsSmallSoFar z.turns) (some-is _ new k) small
extended-small s new (line.Plan side item) soon small h = plan_case (nat_lt 0 (length s.turns)) h
  where
    plan_case : (b : Bool) → (if b then None else Some (record s { plans = s.plans ++ (side, item) ∷ [] })) ≡ Some new →
        IsSmallSoFar new.turns
    plan_case true k = none-some new k
    plan_case false k = subst (λ (z : SoFar). IsSmallSoFar z.turns) (some-is _ new k) small
extended-small s new (line.At ms) soon small h = at_case (nat_lt (length s.turns) 20000) h
  where
    longer : IsSmallSoFar (s.turns ++ (ms, []) ∷ [])
    longer = record {
      moments = All-append IsEarly s.turns ((ms, []) ∷ []) small.moments
          (All-cons IsEarly (ms, []) [] soon (All-nil IsEarly));
      links = subst (λ z. opened z ≤ 256) (sym (lines_of-turn s.turns ms)) small.links;
      behind = subst NoneBehind (sym (lines_of-turn s.turns ms)) small.behind;
    }

    at_case : (b : Bool) → (if b then Some (record s { turns = s.turns ++ (ms, []) ∷ [] }) else None) ≡ Some new →
        IsSmallSoFar new.turns
    at_case true k = subst (λ (z : SoFar). IsSmallSoFar z.turns) (some-is _ new k) longer
    at_case false k = none-some new k
extended-small s new line.Skipped soon small h = subst (λ (z : SoFar). IsSmallSoFar z.turns) (some-is s new h) small
extended-small s new (line.Within x) soon small h =
    within_case (nat_lt 0 (length s.turns) && may_follow (lines_of s.turns) x) refl h
  where
    within_case : (b : Bool) → (nat_lt 0 (length s.turns) && may_follow (lines_of s.turns) x) ≡ b →
        (if b then Some (record s { turns = with_line s.turns x }) else None) ≡ Some new → IsSmallSoFar new.turns
    within_case true tests k =
        let both = and_parts (nat_lt 0 (length s.turns)) (may_follow (lines_of s.turns) x) tests in
        let longer = lines_of-with_line s.turns x (ltb-true 0 (length s.turns) both.0) in
        let few = opens-few (lines_of s.turns) x both.1 small.links in
        subst (λ (z : SoFar). IsSmallSoFar z.turns) (some-is _ new k) (record {
          moments = moments-with_line s.turns x small.moments;
          links = subst (λ z. opened z ≤ 256) (sym longer) (subst (λ n. n ≤ 256) (sym (opened-push (lines_of s.turns) x)) few);
          behind = subst NoneBehind (sym longer) (behind-more (lines_of s.turns) x small.behind both.1);
        })
    within_case false tests k = none-some new k

said-small : (s new : SoFar) (ws : List (List ℕ)) (x : Line) → said ws ≡ Some x → IsSmallSoFar s.turns → extended s x ≡ Some new →
    IsSmallSoFar new.turns
said-small s new ws x is small h = extended-small s new x (subst (λ o. IfSome o IsSoon) is (said-soon ws)) small h

-- the links of a script, in the words of its grammar and in those of its meaning
opened-same : (xs : List TurnLine) → opened xs ≡ length (flat_map links_by xs)
opened-same [] = refl
opened-same (x ∷ xs) =
    length-append (opened_by x) (flat_map opened_by xs)
    ∙ (let rest = opened-same xs in let one = by_line x in λ i. one i + rest i)
    ∙ sym (length-append (links_by x) (flat_map links_by xs))
  where
    by_line : (y : TurnLine) → length (opened_by y) ≡ length (links_by y)
    by_line (turn.NewLink wait) = refl
    by_line (turn.Conn link made) = refl
    by_line (turn.Pending side bytes) = refl
    by_line (turn.Eof side) = refl
    by_line (turn.ReadFail side) = refl
    by_line (turn.Take side more) = refl
    by_line (turn.WriteFail side) = refl
    by_line (turn.Spur side) = refl
    by_line turn.PollFail = refl

small-so : (text : List ℕ) (script : ScriptValue) → script_of text ≡ Ok script → IsSmallSoFar script.turns
small-so text script h =
    let read = script_of-read text script h in
    let start : IsSmallSoFar no_line.turns = record { moments = All-nil IsEarly; links = omega arith; behind = behind-none } in
    subst (λ (z : ScriptValue). IsSmallSoFar z.turns) read.is
    (keeps-lines (λ s. IsSmallSoFar s.turns) said-small no_line read.so_far 0 (lines text) start read.read)

-- what a text spells brings in nothing behind an end
pub none-behind : (text : List ℕ) (script : ScriptValue) → script_of text ≡ Ok script → NoneBehind (lines_of script.turns)
none-behind text script h = (small-so text script h).behind

-- a text of at most 2^24 bytes spells a small script
pub are-small : (text : List ℕ) (script : ScriptValue) → script_of text ≡ Ok script → length text ≤ 2 ^ 24 →
    2 * all_brought (lines_of script.turns) ≤ length text → AreSmall script.turns
are-small text script h most half =
    let small = small-so text script h in
    let links = small.links in
    let same = opened-same (lines_of script.turns) in
    record {
      few = few-turns text script h;
      links = omega (arith, links, same);
      bytes = omega (arith, half, most);
      moments = small.moments;
    }
