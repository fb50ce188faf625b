-- How long a text is, next to the bytes that its lines bring in: two digits at least for each of them.
use Rattle.std.proofs.Common.{◌≡◌, ◌≤◌, ◌+◌, ◌*◌, ◌^◌, ℕ, Bool, true, false, ◌&&◌, ◌||◌, not, List, [], ◌∷◌, ◌++◌, length, codes, Option}
use Rattle.std.proofs.Common.{Some, None, Result, Ok, Err, refl, ap, ◌∙◌, arith, inl, inr, ltb-true, filter}
use Rattle.std.specs.Prelude.{IfSome, sum_by, nat_lt, nat_le, if◌then◌else◌, option_map, option_and_then}
use Rattle.std.specs.List.{list_all}
use Rattle.std.specs.Result.{result_ok}
use Rattle.std.specs.Str.{bytes_eq}
use Rattle.std.proofs.lemmas.Bool.{and_parts}
use Rattle.std.proofs.lemmas.Bool.Decides.{eqb_tells}
use Rattle.std.proofs.lemmas.List.Sums.{sum_by-cons, sum_by_push}
use Rattle.hex.specs.Hex.{decode_of}
use Rattle.hex.specs.declared.error.FromHexError.{FromHexError}
use Rattle.hex.proofs.HexLemmas.{decode_of-ok}
use Rattle.ev_types.specs.declared.side.SideId.{SideId}
use Rattle.ev_types.specs.declared.turn_line.TurnLine.{TurnLine}
use Rattle.ev_types.specs.declared.turn_line.TurnLine.TheVariants as turn
use Rattle.ev_types.specs.ScriptTurn.{lines_of}
use Rattle.script_text.specs.declared.line.Keyword.{Keyword}
use Rattle.script_text.specs.declared.line.Keyword.TheVariants as keyword
use Rattle.script_text.specs.declared.line.Line.{Line}
use Rattle.script_text.specs.declared.line.Line.TheVariants as line
use Rattle.script_text.specs.declared.setting.Given.{Given}
use Rattle.script_text.specs.Given.{with_setting}
use Rattle.script_text.specs.Script.{ScriptValue, SoFar}
use Rattle.script_text.specs.Pieces.{begun, pieces, lines, words, is_filled}
use Rattle.script_text.specs.Numbers.{number_within, bytes_of}
use Rattle.script_text.specs.Ends.{link_of, end_of}
use Rattle.script_text.specs.Grammar.{keyword_of, made_of, more_of, of_end, setting_name_of, set_by, said_by, is_comment, said}
use Rattle.script_text.specs.GroupsAndPlans.{hooked_of, nth_of, planned_of}
use Rattle.script_text.specs.ValueGrammar.{why_kind_of}
use Rattle.script_text.specs.ActGrammar.{planned_ask}
use Rattle.ev_types.specs.declared.plan_line.PlanLine.{PlanLine}
use Rattle.script_text.specs.Brought.{brought, all_brought}
use Rattle.script_text.specs.Order.{may_be_set, group_set, may_follow, with_line, extended}
use Rattle.script_text.specs.Spelled.{is_plain, line_read, going_on, lines_read, no_line, script_of}
use Rattle.script_text.proofs.TurnLemmas.{lines_of-begun, lines_of-with_line}
use Rattle.script_text.proofs.LawLemmas.{script_of-read}

-- Pieces of a text

-- the letters of some pieces
abbrev letters : List (List ℕ) → ℕ
letters ps = sum_by (λ p. length p) ps

letters-cons : (p : List ℕ) (ps : List (List ℕ)) → letters (p ∷ ps) ≡ length p + letters ps
letters-cons p ps = sum_by-cons (λ p. length p) p ps

letters-begun : (b : ℕ) (ps : List (List ℕ)) → letters (begun b ps) ≡ letters ps + 1
letters-begun b [] = refl
letters-begun b (p ∷ ps) = omega (arith, letters-cons (b ∷ p) ps, letters-cons p ps)

-- no letter of a piece is not one of the text
letters-pieces : (stop : ℕ) (xs : List ℕ) → letters (pieces stop xs) ≤ length xs
letters-pieces stop [] = omega arith
letters-pieces stop (x ∷ xs) =
    let behind = letters-pieces stop xs in
    elim (eqb_tells x stop) [
      | inl h ↦ rw h.0 (omega (arith, behind, letters-cons [] (pieces stop xs)))
      | inr h ↦ rw h.0 (omega (arith, behind, letters-begun x (pieces stop xs)))
    ]

letters-filled : (ps : List (List ℕ)) → letters (filter is_filled ps) ≤ letters ps
letters-filled [] = omega arith
letters-filled ([] ∷ ps) = omega (arith, letters-filled ps, letters-cons [] ps)
letters-filled ((b ∷ p) ∷ ps) =
    omega (arith, letters-filled ps, letters-cons (b ∷ p) ps, letters-cons (b ∷ p) (filter is_filled ps))

letters-words : (text : List ℕ) → letters (words text) ≤ length text
letters-words text = omega (arith, letters-filled (pieces 32 text), letters-pieces 32 text)

-- Each line by itself

-- how many bytes a line brings in
abbrev bytes_in : Line → ℕ
bytes_in (line.Within x) = brought x
bytes_in _ = 0

-- a line that brings in so few bytes
abbrev IsSmall : ℕ → Line → Type 0
IsSmall n x = 2 * bytes_in x ≤ n

pub some-map : {A B : Type 0} (P : B → Type 0) (f : A → B) → ((x : A) → P (f x)) → (o : Option A) → IfSome (option_map f o) P
some-map P f each None = tt
some-map P f each (Some x) = each x

pub some-then : {A B : Type 0} (P : B → Type 0) (f : A → Option B) → ((x : A) → IfSome (f x) P) → (o : Option A) →
    IfSome (option_and_then f o) P
some-then P f each None = tt
some-then P f each (Some x) = each x

pub some-if : {A : Type 0} (P : A → Type 0) (b : Bool) (x y : Option A) → IfSome x P → IfSome y P → IfSome (if b then x else y) P
some-if P true x y px py = px
some-if P false x y px py = py

-- two digits spell a byte
decoded-length : (word : List ℕ) (r : Result (List ℕ) FromHexError) → decode_of word ≡ r →
    IfSome (result_ok r) (λ bytes. 2 * length bytes ≤ length word)
decoded-length word (Ok bytes) h = omega (arith, (decode_of-ok word bytes h).2)
decoded-length word (Err fault) h = tt

bytes_of-length : (word : List ℕ) → IfSome (bytes_of word) (λ bytes. 2 * length bytes ≤ length word)
bytes_of-length word =
    some-if (λ bytes. 2 * length bytes ≤ length word) (nat_le 2 (length word) && nat_le (length word) 65536)
    (result_ok (decode_of word)) None (decoded-length word (decode_of word) refl) tt

pending-length : (end : SideId) (n m : ℕ) → n ≤ m → (o : Option (List ℕ)) → IfSome o (λ bytes. 2 * length bytes ≤ n) →
    IfSome (option_map (λ bytes. line.Within (turn.Pending end bytes)) o) (IsSmall m)
pending-length end n m le None h = tt
pending-length end n m le (Some bytes) h = omega (arith, h, le)

-- a line that says something of an end, and brings in nothing
of_end-small : (n : ℕ) (what : SideId → TurnLine) → ((e : SideId) → brought (what e) ≡ 0) → (link side : List ℕ) →
    IfSome (of_end what link side) (IsSmall n)
of_end-small n what none link side =
    some-map (IsSmall n) (λ e. line.Within (what e)) (λ e. omega (arith, none e)) (end_of link side)

-- a plan brings in nothing
planned-small : (n : ℕ) (link side why nth : List ℕ) (act : List (List ℕ)) → IfSome (planned_of link side why nth act) (IsSmall n)
planned-small n link side why nth act =
    some-then (IsSmall n) _ (λ end.
    some-then (IsSmall n) _ (λ kind.
    some-then (IsSmall n) _ (λ k.
    some-then (IsSmall n) (λ ask. Some (line.Plan end (let item : PlanLine = record { why = kind; nth = k; act = ask } in item)))
    (λ ask. omega arith) (planned_ask act)) (nth_of nth)) (why_kind_of why)) (hooked_of link side)

-- what a line brings in is spelled in its words
said_by-length : (k : Keyword) (ws : List (List ℕ)) → IfSome (said_by k ws) (IsSmall (letters ws))
said_by-length keyword.Set (what ∷ more) =
    let n = letters (what ∷ more) in
    some-then (IsSmall n) (λ named. option_map (λ s. line.Set s) (set_by named more))
    (λ named. some-map (IsSmall n) (λ s. line.Set s) (λ s. omega arith) (set_by named more)) (setting_name_of what)
said_by-length keyword.At (ms ∷ []) =
    some-map (IsSmall (letters (ms ∷ []))) (λ n. line.At n) (λ n. omega arith) (number_within (2 ^ 40) ms)
said_by-length keyword.Open [] = omega arith
said_by-length keyword.Open (word ∷ []) =
    some-if (IsSmall (letters (word ∷ []))) (bytes_eq word (codes "wait")) (Some (line.Within (turn.NewLink true))) None (omega arith) tt
said_by-length keyword.Conn (link ∷ word ∷ []) =
    let n = letters (link ∷ word ∷ []) in
    some-then (IsSmall n) (λ made. option_map (λ l. line.Within (turn.Conn l made)) (link_of link))
    (λ made. some-map (IsSmall n) (λ l. line.Within (turn.Conn l made)) (λ l. omega arith) (link_of link)) (made_of word)
said_by-length keyword.Pending (link ∷ side ∷ digits ∷ []) =
    let n = letters (link ∷ side ∷ digits ∷ []) in
    let within : length digits ≤ n =
    omega (arith, letters-cons link (side ∷ digits ∷ []), letters-cons side (digits ∷ []), letters-cons digits []) in
    some-then (IsSmall n) (λ e. option_map (λ bytes. line.Within (turn.Pending e bytes)) (bytes_of digits))
    (λ e. pending-length e (length digits) n within (bytes_of digits) (bytes_of-length digits)) (end_of link side)
said_by-length keyword.Eof (link ∷ side ∷ []) = of_end-small (letters (link ∷ side ∷ [])) (λ e. turn.Eof e) (λ e. refl) link side
said_by-length keyword.ReadFail (link ∷ side ∷ []) = of_end-small (letters (link ∷ side ∷ [])) (λ e. turn.ReadFail e) (λ e. refl) link side
said_by-length keyword.Take (link ∷ side ∷ count ∷ []) =
    let n = letters (link ∷ side ∷ count ∷ []) in
    some-then (IsSmall n) (λ more. of_end (λ e. turn.Take e more) link side)
    (λ more. of_end-small n (λ e. turn.Take e more) (λ e. refl) link side) (more_of count)
said_by-length keyword.WriteFail (link ∷ side ∷ []) =
    of_end-small (letters (link ∷ side ∷ [])) (λ e. turn.WriteFail e) (λ e. refl) link side
said_by-length keyword.Spur (link ∷ side ∷ []) = of_end-small (letters (link ∷ side ∷ [])) (λ e. turn.Spur e) (λ e. refl) link side
said_by-length keyword.PollFail [] = omega arith
said_by-length keyword.On (link ∷ side ∷ why ∷ nth ∷ act) =
    planned-small (letters (link ∷ side ∷ why ∷ nth ∷ act)) link side why nth act
said_by-length _ _ = tt

said-length : (ws : List (List ℕ)) → IfSome (said ws) (IsSmall (letters ws))
said-length [] = omega arith
said-length (first ∷ more) =
    let n = letters (first ∷ more) in
    let wider : (k : Keyword) → IfSome (said_by k more) (IsSmall n) =
    λ k. wide (letters more) n (omega (arith, letters-cons first more)) (said_by k more) (said_by-length k more) in
    some-if (IsSmall n) (is_comment first) (Some line.Skipped) (option_and_then (λ k. said_by k more) (keyword_of first)) (omega arith)
    (some-then (IsSmall n) (λ k. said_by k more) wider (keyword_of first))
  where
    wide : (n m : ℕ) → n ≤ m → (o : Option Line) → IfSome o (IsSmall n) → IfSome o (IsSmall m)
    wide n m le None h = tt
    wide n m le (Some x) h = omega (arith, h, le)

-- The lines so far

abbrev so_many : SoFar → ℕ
so_many so_far = all_brought (lines_of so_far.turns)

-- a line more brings in its own bytes
extended-bytes : (so_far : SoFar) (x : Line) → IfSome (extended so_far x) (λ longer. so_many longer ≡ so_many so_far + bytes_in x)
extended-bytes so_far (line.Set setting) =
    let P : SoFar → Type 0 = λ longer. so_many longer ≡ so_many so_far + 0 in
    let same : so_many so_far ≡ so_many so_far + 0 = omega arith in
    let longer : Given → SoFar = λ g. record so_far { given = g; groups = so_far.groups ++ group_set setting } in
    some-if P (nat_lt 0 (length so_far.turns) || not (may_be_set so_far.groups setting)) None
    (option_map longer (with_setting so_far.given setting)) tt (some-map P longer (λ g. same) (with_setting so_far.given setting))
extended-bytes so_far (line.Plan side item) =
    let longer : SoFar = record so_far { plans = so_far.plans ++ (side, item) ∷ [] } in
    let same : so_many longer ≡ so_many so_far + 0 = omega arith in
    some-if (λ longer. so_many longer ≡ so_many so_far + 0) (nat_lt 0 (length so_far.turns)) None (Some longer) tt same
extended-bytes so_far (line.At ms) =
    let longer : SoFar = record so_far { turns = so_far.turns ++ (ms, []) ∷ [] } in
    let same : so_many longer ≡ so_many so_far + 0 = omega (arith, ap all_brought (lines_of-begun so_far.turns ms)) in
    some-if (λ longer. so_many longer ≡ so_many so_far + 0) (nat_lt (length so_far.turns) 20000) (Some longer) None same tt
extended-bytes so_far (line.Within x) = at_case (nat_lt 0 (length so_far.turns) && may_follow (lines_of so_far.turns) x) refl
  where
    longer : SoFar
    longer = record so_far { turns = with_line so_far.turns x }

    at_case : (b : Bool) → (nat_lt 0 (length so_far.turns) && may_follow (lines_of so_far.turns) x) ≡ b →
        IfSome (if b then Some longer else None) (λ longer. so_many longer ≡ so_many so_far + brought x)
    at_case true may =
        let both = and_parts (nat_lt 0 (length so_far.turns)) (may_follow (lines_of so_far.turns) x) may in
        let some = ltb-true 0 (length so_far.turns) both.0 in
        ap all_brought (lines_of-with_line so_far.turns x some) ∙ sum_by_push brought (lines_of so_far.turns) x
    at_case false may = tt
extended-bytes so_far line.Skipped = omega arith

-- so a line that is read is at least twice as long
line_read-bytes : (so_far : SoFar) (text : List ℕ) →
    IfSome (line_read so_far text) (λ longer. 2 * so_many longer ≤ 2 * so_many so_far + length text)
line_read-bytes so_far text =
    some-if Few (list_all is_plain text) (option_and_then (λ what. extended so_far what) (said (words text))) None
    (by_words (said (words text)) (said-length (words text))) tt
  where
    Few : SoFar → Type 0
    Few longer = 2 * so_many longer ≤ 2 * so_many so_far + length text

    grown : (n : ℕ) → 2 * n ≤ length text → (o : Option SoFar) → IfSome o (λ longer. so_many longer ≡ so_many so_far + n) → IfSome o Few
    grown n small None h = tt
    grown n small (Some longer) h = omega (arith, h, small)

    by_words : (o : Option Line) → IfSome o (IsSmall (letters (words text))) →
        IfSome (option_and_then (λ what. extended so_far what) o) Few
    by_words None h = tt
    by_words (Some x) h = grown (bytes_in x) (omega (arith, h, letters-words text)) (extended so_far x) (extended-bytes so_far x)

lines_read-bytes : (so_far end : SoFar) (before : ℕ) (ls : List (List ℕ)) → lines_read so_far before ls ≡ Ok end →
    2 * so_many end ≤ 2 * so_many so_far + letters ls
lines_read-bytes so_far end before [] read = let same : so_far ≡ end = cc read in rw (← same) (omega arith)
lines_read-bytes so_far end before (l ∷ ls) read =
    by_line (λ longer more. lines_read-bytes longer end (before + 1) ls more) (line_read so_far l) (line_read-bytes so_far l) read
  where
    by_line : ((longer : SoFar) → lines_read longer (before + 1) ls ≡ Ok end → 2 * so_many end ≤ 2 * so_many longer + letters ls) →
        (o : Option SoFar) → IfSome o (λ longer. 2 * so_many longer ≤ 2 * so_many so_far + length l) →
        going_on o (before + 1) (λ longer. lines_read longer (before + 1) ls) ≡ Ok end →
        2 * so_many end ≤ 2 * so_many so_far + letters (l ∷ ls)
    by_line rest None few more = absurd (cc more)
    by_line rest (Some longer) few more = omega (arith, rest longer more, few, letters-cons l ls)

-- what a text spells brings in at most half as many bytes as the text has
pub script_of-bytes : (text : List ℕ) (script : ScriptValue) → script_of text ≡ Ok script →
    2 * all_brought (lines_of script.turns) ≤ length text
script_of-bytes text script spelled =
    let r = script_of-read text script spelled in
    let few : 2 * so_many r.so_far ≤ length text =
    omega (arith, lines_read-bytes no_line r.so_far 0 (lines text) r.read, letters-pieces 10 text) in
    rw (← r.is) few
