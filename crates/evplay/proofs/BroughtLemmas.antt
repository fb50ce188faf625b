-- What a script that a text spells brings in at an end are bytes, at most half as many as the text has.
use Rattle.std.proofs.Common.{◌≡◌, ◌≤◌, ◌<◌, ◌*◌, ◌^◌, ℕ, Bool, true, false, ◌&&◌, ◌||◌, not, nat_lt, nat_le, if◌then◌else◌, List, [], ◌∷◌}
use Rattle.std.proofs.Common.{◌++◌, length, codes, Option, Some, None, Result, Ok, Err, refl, sym, ap, ◌∙◌, subst, arith, length-append}
use Rattle.std.proofs.Common.{append_assoc, append-nil}
use Rattle.std.specs.Prelude.{All, IfSome, option_map, option_and_then}
use Rattle.std.specs.List.{flat_map}
use Rattle.std.specs.Result.{result_ok}
use Rattle.std.specs.Str.{bytes_eq}
use Rattle.std.proofs.lemmas.Bool.{and_parts, ltb-true}
use Rattle.std.proofs.lemmas.Grind.{flat_map-append}
use Rattle.std.proofs.lemmas.List.Elements.{All-append, All-nil, All-from_get_or}
use Rattle.std.proofs.lemmas.List.Sums.{sum_by-cons}
use Rattle.hex.specs.Hex.{decode_of}
use Rattle.hex.specs.declared.error.FromHexError.{FromHexError}
use Rattle.hex.proofs.HexLemmas.{decode_of-ok}
use Rattle.ev_types.specs.declared.side.SideId.{SideId}
use Rattle.ev_types.specs.Sides.{same_end}
use Rattle.ev_types.specs.declared.turn_line.TurnLine.{TurnLine}
use Rattle.ev_types.specs.declared.turn_line.TurnLine.TheVariants as turn
use Rattle.script_text.specs.declared.line.Keyword.{Keyword}
use Rattle.script_text.specs.declared.line.Keyword.TheVariants as keyword
use Rattle.script_text.specs.declared.line.Line.{Line}
use Rattle.script_text.specs.declared.line.Line.TheVariants as line
use Rattle.ev_types.specs.ScriptTurn.{ScriptTurn, lines_of}
use Rattle.script_text.specs.Script.{ScriptValue, SoFar}
use Rattle.script_text.specs.Pieces.{lines}
use Rattle.script_text.specs.Numbers.{number_within, bytes_of}
use Rattle.script_text.specs.Ends.{link_of, end_of}
use Rattle.script_text.specs.Grammar.{keyword_of, made_of, more_of, of_end, setting_name_of, set_by, said_by, is_comment, said}
use Rattle.script_text.specs.GroupsAndPlans.{hooked_of, nth_of}
use Rattle.script_text.specs.ValueGrammar.{why_kind_of}
use Rattle.script_text.specs.ActGrammar.{planned_ask}
use Rattle.ev_types.specs.declared.plan_line.PlanLine.{PlanLine}
use Rattle.script_text.specs.Order.{may_be_set, group_set, may_follow, with_line, extended}
use Rattle.script_text.specs.Brought.{brought, all_brought}
use Rattle.script_text.specs.Given.{with_setting}
use Rattle.script_text.specs.declared.setting.Given.{Given}
use Rattle.script_text.proofs.LawLemmas.{script_of-read}
use Rattle.script_text.specs.Spelled.{no_line, script_of}
use Rattle.relay_model.specs.Lines.{brings}
use Rattle.relay_laws.specs.Spelling.{BringsFit}
use Rattle.evplay.proofs.ScriptLemmas.{some-is, none-some, keeps-lines}

abbrev AreBytes : List ℕ → Type 0
AreBytes xs = All (λ b. b < 256) xs

-- Each line by itself

-- what a line brings in are bytes
abbrev HasBytes : Line → Type 0
HasBytes (line.Within (turn.Pending side bytes)) = AreBytes bytes
HasBytes _ = Unit {0}

pub some-map : {A B : Type 0} (P : B → Type 0) (f : A → B) → ((x : A) → P (f x)) → (o : Option A) → IfSome (option_map f o) P
some-map P f each None = tt
some-map P f each (Some x) = each x

pub some-then : {A B : Type 0} (P : B → Type 0) (f : A → Option B) → ((x : A) → IfSome (f x) P) → (o : Option A) →
    IfSome (option_and_then f o) P
some-then P f each None = tt
some-then P f each (Some x) = each x

pub some-if : {A : Type 0} (P : A → Type 0) (b : Bool) (x y : Option A) → IfSome x P → IfSome y P → IfSome (if b then x else y) P
some-if P true x y px py = px
some-if P false x y px py = py

-- hex digits spell bytes
decoded-bytes : (word : List ℕ) (r : Result (List ℕ) FromHexError) → decode_of word ≡ r → IfSome (result_ok r) AreBytes
decoded-bytes word (Ok bytes) h = let each = (decode_of-ok word bytes h).3 in All-from_get_or (λ b. b < 256) bytes 0 (λ i lt. each i)
decoded-bytes word (Err fault) h = tt

bytes_of-bytes : (word : List ℕ) → IfSome (bytes_of word) AreBytes
bytes_of-bytes word =
    some-if AreBytes (nat_le 2 (length word) && nat_le (length word) 65536) (result_ok (decode_of word)) None
    (decoded-bytes word (decode_of word) refl) tt

mapped-bytes : (side : SideId) (o : Option (List ℕ)) → IfSome o AreBytes →
    IfSome (option_map (λ bytes. line.Within (turn.Pending side bytes)) o) HasBytes
mapped-bytes side None h = tt
mapped-bytes side (Some bytes) h = h

said_by-bytes : (k : Keyword) (ws : List (List ℕ)) → IfSome (said_by k ws) HasBytes
said_by-bytes keyword.Set (what ∷ more) =
    some-then HasBytes (λ named. option_map (λ s. line.Set s) (set_by named more))
    (λ named. some-map HasBytes (λ s. line.Set s) (λ s. tt) (set_by named more)) (setting_name_of what)
said_by-bytes keyword.At (ms ∷ []) = some-map HasBytes (λ n. line.At n) (λ n. tt) (number_within (2 ^ 40) ms)
said_by-bytes keyword.Open [] = tt
said_by-bytes keyword.Open (word ∷ []) = some-if HasBytes (bytes_eq word (codes "wait")) (Some (line.Within (turn.NewLink true))) None tt tt
said_by-bytes keyword.Conn (link ∷ word ∷ []) =
    some-then HasBytes (λ made. option_map (λ l. line.Within (turn.Conn l made)) (link_of link))
    (λ made. some-map HasBytes (λ l. line.Within (turn.Conn l made)) (λ l. tt) (link_of link)) (made_of word)
said_by-bytes keyword.Pending (link ∷ side ∷ digits ∷ []) =
    some-then HasBytes (λ e. option_map (λ bytes. line.Within (turn.Pending e bytes)) (bytes_of digits))
    (λ e. mapped-bytes e (bytes_of digits) (bytes_of-bytes digits)) (end_of link side)
said_by-bytes keyword.Eof (link ∷ side ∷ []) = some-map HasBytes (λ e. line.Within (turn.Eof e)) (λ e. tt) (end_of link side)
said_by-bytes keyword.ReadFail (link ∷ side ∷ []) = some-map HasBytes (λ e. line.Within (turn.ReadFail e)) (λ e. tt) (end_of link side)
said_by-bytes keyword.Take (link ∷ side ∷ count ∷ []) =
    some-then HasBytes (λ more. of_end (λ e. turn.Take e more) link side)
    (λ more. some-map HasBytes (λ e. line.Within (turn.Take e more)) (λ e. tt) (end_of link side)) (more_of count)
said_by-bytes keyword.WriteFail (link ∷ side ∷ []) = some-map HasBytes (λ e. line.Within (turn.WriteFail e)) (λ e. tt) (end_of link side)
said_by-bytes keyword.Spur (link ∷ side ∷ []) = some-map HasBytes (λ e. line.Within (turn.Spur e)) (λ e. tt) (end_of link side)
said_by-bytes keyword.PollFail [] = tt
said_by-bytes keyword.On (link ∷ side ∷ why ∷ nth ∷ act) =
    some-then HasBytes _ (λ end.
    some-then HasBytes _ (λ kind.
    some-then HasBytes _ (λ n.
    some-then HasBytes (λ ask. Some (line.Plan end (let item : PlanLine = record { why = kind; nth = n; act = ask } in item))) (λ ask. tt)
    (planned_ask act)) (nth_of nth)) (why_kind_of why)) (hooked_of link side)
said_by-bytes _ _ = tt

said-bytes : (ws : List (List ℕ)) → IfSome (said ws) HasBytes
said-bytes [] = tt
said-bytes (first ∷ more) =
    some-if HasBytes (is_comment first) (Some line.Skipped) (option_and_then (λ k. said_by k more) (keyword_of first)) tt
    (some-then HasBytes (λ k. said_by k more) (λ k. said_by-bytes k more) (keyword_of first))

-- The lines so far

-- what some lines bring in at an end
abbrev pub brought_in : SideId → List TurnLine → List ℕ
brought_in e xs = flat_map (brings e) xs

-- one line more
brought_in-push : (e : SideId) (xs : List TurnLine) (x : TurnLine) → brought_in e (xs ++ x ∷ []) ≡ brought_in e xs ++ brings e x
brought_in-push e xs x =
    flat_map-append (brings e) xs (x ∷ [])
    ∙ ap (λ z. brought_in e xs ++ z) (append-nil (brings e x))

-- what a line brings in at an end are bytes, and no more than it brings in
brings-bytes : (x : TurnLine) (e : SideId) → HasBytes (line.Within x) → AreBytes (brings e x)
brings-bytes (turn.NewLink waits) e is = All-nil (λ b. b < 256)
brings-bytes (turn.Conn link made) e is = All-nil (λ b. b < 256)
brings-bytes (turn.Pending side bytes) e is = go (same_end side e)
  where
    go : (b : Bool) → AreBytes (if b then bytes else [])
    go true = is
    go false = All-nil (λ b. b < 256)
brings-bytes (turn.Eof side) e is = All-nil (λ b. b < 256)
brings-bytes (turn.ReadFail side) e is = All-nil (λ b. b < 256)
brings-bytes (turn.Take side more) e is = All-nil (λ b. b < 256)
brings-bytes (turn.WriteFail side) e is = All-nil (λ b. b < 256)
brings-bytes (turn.Spur side) e is = All-nil (λ b. b < 256)
brings-bytes turn.PollFail e is = All-nil (λ b. b < 256)

brings-most : (x : TurnLine) (e : SideId) → length (brings e x) ≤ brought x
brings-most (turn.NewLink waits) e = omega arith
brings-most (turn.Conn link made) e = omega arith
brings-most (turn.Pending side bytes) e = go (same_end side e)
  where
    go : (b : Bool) → length (if b then bytes else []) ≤ length bytes
    go true = omega arith
    go false = omega arith
brings-most (turn.Eof side) e = omega arith
brings-most (turn.ReadFail side) e = omega arith
brings-most (turn.Take side more) e = omega arith
brings-most (turn.WriteFail side) e = omega arith
brings-most (turn.Spur side) e = omega arith
brings-most turn.PollFail e = omega arith

-- all lines bring in at an end no more than at all ends together
brought-most : (xs : List TurnLine) (e : SideId) → length (brought_in e xs) ≤ all_brought xs
brought-most [] e = omega arith
brought-most (x ∷ xs) e =
    omega (arith, length-append (brings e x) (flat_map (brings e) xs), brings-most x e, brought-most xs e, sum_by-cons brought x xs)

-- Turns

pub lines_of-turn : (turns : List ScriptTurn) (ms : ℕ) → lines_of (turns ++ (ms, []) ∷ []) ≡ lines_of turns
lines_of-turn [] ms = refl
lines_of-turn (t ∷ more) ms = ap (λ z. t.1 ++ z) (lines_of-turn more ms)

pub lines_of-with_line : (turns : List ScriptTurn) (x : TurnLine) → 0 < length turns →
    lines_of (with_line turns x) ≡ lines_of turns ++ x ∷ []
lines_of-with_line [] x h = absurd (omega (arith, h))
lines_of-with_line (t ∷ []) x h = append-nil (t.1 ++ x ∷ []) ∙ ap (λ z. z ++ x ∷ []) (sym (append-nil t.1))
lines_of-with_line (t ∷ next ∷ more) x h =
    ap (λ z. t.1 ++ z) (lines_of-with_line (next ∷ more) x (omega arith)) ∙ sym (append_assoc t.1 (lines_of (next ∷ more)) (x ∷ []))

-- The whole script

-- what the lines so far bring in at each end are bytes
abbrev AllBytes : SoFar → Type 0
AllBytes s = (e : SideId) → AreBytes (brought_in e (lines_of s.turns))

extended-bytes : (s new : SoFar) (x : Line) → HasBytes x → AllBytes s → extended s x ≡ Some new → AllBytes new
extended-bytes s new (line.Set setting) is all h =
    set_case (nat_lt 0 (length s.turns) || not (may_be_set s.groups setting)) (with_setting s.given setting) h
  where
    set_case : (b : Bool) (o : Option Given) →
        (if b then None else option_map (λ g. let z : SoFar = record s { given = g; groups = s.groups ++ group_set setting } in z)
        o) ≡ Some new →
        AllBytes new
    set_case true o k = none-some new k
    set_case false None k = none-some new k
    set_case false (Some g) k = subst AllBytes (some-is _ new k) all
extended-bytes s new (line.Plan side item) is all h = plan_case (nat_lt 0 (length s.turns)) h
  where
    plan_case : (b : Bool) → (if b then None else Some (record s { plans = s.plans ++ (side, item) ∷ [] })) ≡ Some new → AllBytes new
    plan_case true k = none-some new k
    plan_case false k = subst AllBytes (some-is _ new k) all
extended-bytes s new (line.At ms) is all h = at_case (nat_lt (length s.turns) 20000) h
  where
    at_case : (b : Bool) → (if b then Some (record s { turns = s.turns ++ (ms, []) ∷ [] }) else None) ≡ Some new →
        AllBytes new
    at_case true k = subst AllBytes (some-is _ new k) (λ e. subst (λ z. AreBytes (brought_in e z)) (sym (lines_of-turn s.turns ms)) (all e))
    at_case false k = none-some new k
extended-bytes s new line.Skipped is all h = subst AllBytes (some-is s new h) all
extended-bytes s new (line.Within x) is all h = within_case (nat_lt 0 (length s.turns) && may_follow (lines_of s.turns) x) refl h
  where
    within_case : (b : Bool) → (nat_lt 0 (length s.turns) && may_follow (lines_of s.turns) x) ≡ b →
        (if b then Some (record s { turns = with_line s.turns x }) else None) ≡ Some new → AllBytes new
    within_case true tests k =
        let both = and_parts (nat_lt 0 (length s.turns)) (may_follow (lines_of s.turns) x) tests in
        let longer = lines_of-with_line s.turns x (ltb-true 0 (length s.turns) both.0) in
        subst AllBytes (some-is _ new k)
        (λ e. subst (λ z. AreBytes (brought_in e z)) (sym longer)
        (subst AreBytes (sym (brought_in-push e (lines_of s.turns) x))
        (All-append (λ b. b < 256) (brought_in e (lines_of s.turns)) (brings e x) (all e) (brings-bytes x e is))))
    within_case false tests k = none-some new k

said-all : (s new : SoFar) (ws : List (List ℕ)) (x : Line) → said ws ≡ Some x → AllBytes s → extended s x ≡ Some new → AllBytes new
said-all s new ws x is all h = extended-bytes s new x (subst (λ o. IfSome o HasBytes) is (said-bytes ws)) all h

-- what a text of at most 2^24 bytes spells brings in bytes at each end, and few enough to be counted
pub brings-fit : (text : List ℕ) (script : ScriptValue) → script_of text ≡ Ok script → length text ≤ 2 ^ 24 →
    2 * all_brought (lines_of script.turns) ≤ length text → BringsFit script.turns
brings-fit text script h most half e =
    let read = script_of-read text script h in
    let start : AllBytes no_line = λ end. All-nil (λ b. b < 256) in
    let all : (end : SideId) → AreBytes (brought_in end (lines_of script.turns)) =
    subst (λ (z : ScriptValue). (end : SideId) → AreBytes (brought_in end (lines_of z.turns))) read.is
    (keeps-lines AllBytes said-all no_line read.so_far 0 (lines text) start read.read) in
    let few = brought-most (lines_of script.turns) e in
    record { each = all e; count = omega (arith, few, most, half) }
