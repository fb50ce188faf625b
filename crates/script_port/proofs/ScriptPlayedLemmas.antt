-- The script that is played says what the port's lines say.
use Rattle.std.proofs.Common.{◌≡◌, ℕ, zero, suc, ◌+◌, ◌-◌, ◌<◌, ◌≤◌, nat_eq, false, ◌||◌, List, [], ◌∷◌, ◌++◌, length, get_or, take, drop}
use Rattle.std.proofs.Common.{map, Option, Some, None, refl, sym, ap, ◌∙◌, arith, append-nil, length-take-le, inl, inr}
use Rattle.std.specs.Prelude.{slice_get, sum_by}
use Rattle.std.specs.List.{flat_map, list_any}
use Rattle.std.specs.Option.{option_map_or}
use Rattle.std.proofs.lemmas.List.Folds.{list_any-append}
use Rattle.std.proofs.lemmas.List.Sums.{sum_by-append}
use Rattle.std.proofs.lemmas.Option.{slice_get_within, get_or_from_slice_get}
use Rattle.std.proofs.lemmas.List.{take-append-drop, take_more, drop_at}
use Rattle.std.proofs.lemmas.Bool.Decides.{eqb_tells}
use Rattle.std.proofs.lemmas.Grind.{flat_map-append}
use Rattle.ev_types.specs.declared.side.SideId.{SideId}
use Rattle.ev_types.specs.Sides.{same_end}
use Rattle.ev_types.specs.declared.turn_line.TurnLine.{TurnLine}
use Rattle.ev_types.specs.declared.turn_line.TurnLine.TheVariants as line
use Rattle.ev_types.specs.ScriptTurn.{ScriptTurn, lines_of}
use Rattle.relay_model.specs.Lines.{links_by, decides, brings, ends, fails_reads, allows, allows_all, fails_writes, marks_all}
use Rattle.script_port.specs.ScriptLinks.{links_of}
use Rattle.relay_model.specs.Called.{NamesOpened}

pub links_played : (xs : List TurnLine) → flat_map links_by xs ≡ links_of xs
links_played [] = refl
links_played (line.NewLink wait ∷ xs) = ap (λ z. wait ∷ z) (links_played xs)
links_played (_ ∷ xs) = links_played xs

-- Nothing is said of an end.
pub record Untouched (e : SideId) (ls : List TurnLine) : Type 0 where
  pub brings : flat_map (brings e) ls ≡ []
  pub ends : list_any (ends e) ls ≡ false
  pub reads : list_any (fails_reads e) ls ≡ false
  pub allows : sum_by (allows e) ls ≡ 0
  pub any : list_any (allows_all e) ls ≡ false
  pub writes : list_any (fails_writes e) ls ≡ false
  pub decides : flat_map (decides e.link) ls ≡ []
  pub marks : list_any (marks_all e) ls ≡ false

-- links of two numbers differ
apart_links : (a b : ℕ) → a < b → nat_eq a b ≡ false
apart_links a b h = elim (eqb_tells a b) [ inl t ↦ absurd (let e = t.1 in omega arith) | inr t ↦ t.0 ]

-- so do ends of two links
apart : (a b : SideId) → a.link < b.link → same_end a b ≡ false
apart a b h = rw (apart_links a.link b.link h)

untouched-cons : (e : SideId) (y : TurnLine) (ls : List TurnLine) → Untouched e (y ∷ []) → Untouched e ls → Untouched e (y ∷ ls)
untouched-cons e y ls k h = record {
  brings = flat_map-append (brings e) (y ∷ []) ls ∙ ap (λ z. z ++ flat_map (brings e) ls) k.brings ∙ h.brings;
  ends = list_any-append (ends e) (y ∷ []) ls ∙ ap (λ z. z || list_any (ends e) ls) k.ends ∙ h.ends;
  reads = list_any-append (fails_reads e) (y ∷ []) ls ∙ ap (λ z. z || list_any (fails_reads e) ls) k.reads ∙ h.reads;
  allows = (let parts = sum_by-append (allows e) (y ∷ []) ls in let first = k.allows in let rest = h.allows in
      omega (arith, parts, first, rest));
  any = list_any-append (allows_all e) (y ∷ []) ls ∙ ap (λ z. z || list_any (allows_all e) ls) k.any ∙ h.any;
  writes = list_any-append (fails_writes e) (y ∷ []) ls ∙ ap (λ z. z || list_any (fails_writes e) ls) k.writes ∙ h.writes;
  decides = flat_map-append (decides e.link) (y ∷ []) ls ∙ ap (λ z. z ++ flat_map (decides e.link) ls) k.decides ∙ h.decides;
  marks = list_any-append (marks_all e) (y ∷ []) ls ∙ ap (λ z. z || list_any (marks_all e) ls) k.marks ∙ h.marks;
}

-- a line that names no end of a link says nothing of it
untouched-one : (e : SideId) (n : ℕ) (x : TurnLine) → NamesOpened n (x ∷ []) → n ≤ e.link → Untouched e (x ∷ [])
untouched-one e n (line.NewLink wait) h far = record {
  brings = refl;
  ends = refl;
  reads = refl;
  allows = refl;
  any = refl;
  writes
      = refl;
  decides = refl;
  marks = refl;
}
untouched-one e n line.PollFail h far = record {
  brings = refl;
  ends = refl;
  reads = refl;
  allows = refl;
  any = refl;
  writes =
      refl;
  decides = refl;
  marks = refl;
}
untouched-one e n (line.Conn link connected) h far =
    let other = apart_links link e.link (let first = h.0 in omega (arith, first, far)) in
    record { brings = refl; ends = refl; reads = refl; allows = refl; any = refl; writes = refl; decides = rw other; marks = refl }
untouched-one e n (line.Pending side bytes) h far =
    let other = apart side e (let first = h.0 in omega (arith, first, far)) in
    record { brings = rw other; ends = refl; reads = refl; allows = refl; any = refl; writes = refl; decides = refl; marks = refl }
untouched-one e n (line.Eof side) h far =
    let other = apart side e (let first = h.0 in omega (arith, first, far)) in
    record { brings = refl; ends = rw other; reads = refl; allows = refl; any = refl; writes = refl; decides = refl; marks = refl }
untouched-one e n (line.ReadFail side) h far =
    let other = apart side e (let first = h.0 in omega (arith, first, far)) in
    record { brings = refl; ends = refl; reads = rw other; allows = refl; any = refl; writes = refl; decides = refl; marks = refl }
untouched-one e n (line.Take side None) h far =
    let other = apart side e (let first = h.0 in omega (arith, first, far)) in
    record { brings = refl; ends = refl; reads = refl; allows = refl; any = rw other; writes = refl; decides = refl; marks = refl }
untouched-one e n (line.Take side (Some more)) h far =
    let other = apart side e (let first = h.0 in omega (arith, first, far)) in
    record { brings = refl; ends = refl; reads = refl; allows = rw other; any = refl; writes = refl; decides = refl; marks = refl }
untouched-one e n (line.WriteFail side) h far =
    let other = apart side e (let first = h.0 in omega (arith, first, far)) in
    record { brings = refl; ends = refl; reads = refl; allows = refl; any = refl; writes = rw other; decides = refl; marks = refl }
untouched-one e n (line.Spur side) h far =
    let other = apart side e (let first = h.0 in omega (arith, first, far)) in
    record { brings = refl; ends = refl; reads = refl; allows = refl; any = refl; writes = refl; decides = refl; marks = rw other }

-- how many links are opened once one line is applied
abbrev opened_by : ℕ → TurnLine → ℕ
opened_by n (line.NewLink wait) = n + 1
opened_by n _ = n

pub names-cons : (n : ℕ) (x : TurnLine) (xs : List TurnLine) → NamesOpened n (x ∷ xs) → NamesOpened n (x ∷ []) × NamesOpened
    (opened_by n x) xs × (n + length (links_of (x ∷ xs)) ≡ opened_by n x + length (links_of xs))
names-cons n (line.NewLink wait) xs h = (tt, h, omega arith)
names-cons n line.PollFail xs h = (tt, h, refl)
names-cons n (line.Conn link connected) xs h = ((h.0, tt), h.1, refl)
names-cons n (line.Pending side bytes) xs h = ((h.0, tt), h.1, refl)
names-cons n (line.Eof side) xs h = ((h.0, tt), h.1, refl)
names-cons n (line.ReadFail side) xs h = ((h.0, tt), h.1, refl)
names-cons n (line.Take side more) xs h = ((h.0, tt), h.1, refl)
names-cons n (line.WriteFail side) xs h = ((h.0, tt), h.1, refl)
names-cons n (line.Spur side) xs h = ((h.0, tt), h.1, refl)

pub untouched : (e : SideId) (n : ℕ) (xs : List TurnLine) → NamesOpened n xs → n + length (links_of xs) ≤ e.link → Untouched e xs
untouched e n [] named h = record {
  brings = refl;
  ends = refl;
  reads = refl;
  allows = refl;
  any = refl;
  writes = refl;
  decides =
      refl;
  marks = refl;
}
untouched e n (x ∷ xs) named h =
    let parts = names-cons n x xs named in
    let count = parts.2 in
    untouched-cons e x xs (untouched-one e n x parts.0 (omega (arith, h))) (untouched e (opened_by n x) xs parts.1
    (omega (arith, h, count)))

pub named_before : (n : ℕ) (xs ys : List TurnLine) → NamesOpened n (xs ++ ys) → NamesOpened n xs
named_before n [] ys h = tt
named_before n (line.NewLink wait ∷ xs) ys h = named_before (n + 1) xs ys h
named_before n (line.PollFail ∷ xs) ys h = named_before n xs ys h
named_before n (line.Conn link connected ∷ xs) ys h = (h.0, named_before n xs ys h.1)
named_before n (line.Pending side bytes ∷ xs) ys h = (h.0, named_before n xs ys h.1)
named_before n (line.Eof side ∷ xs) ys h = (h.0, named_before n xs ys h.1)
named_before n (line.ReadFail side ∷ xs) ys h = (h.0, named_before n xs ys h.1)
named_before n (line.Take side more ∷ xs) ys h = (h.0, named_before n xs ys h.1)
named_before n (line.WriteFail side ∷ xs) ys h = (h.0, named_before n xs ys h.1)
named_before n (line.Spur side ∷ xs) ys h = (h.0, named_before n xs ys h.1)

-- the lines of the first turns, and those of the rest
pub all_lines : (n : ℕ) (turns : List ScriptTurn) → lines_of (take n turns) ++ lines_of (drop n turns) ≡ lines_of turns
all_lines n turns = sym (flat_map-append (λ (turn : ScriptTurn). turn.1) (take n turns) (drop n turns)) ∙ ap lines_of
    (take-append-drop n turns)

-- the turn that begins next
pub lines_more : (n : ℕ) (turns : List ScriptTurn) (turn : ScriptTurn) → slice_get turns n ≡ Some turn → lines_of
    (take (n + 1) turns) ≡ lines_of (take n turns) ++ turn.1
lines_more n turns turn h =
    let within : n < length turns = slice_get_within turns n turn h in
    let here : get_or turns n turn ≡ turn = get_or_from_slice_get turns n turn turn h in
    ap lines_of (take_more turns n turn within ∙ ap (λ z. take n turns ++ z ∷ []) here)
    ∙ flat_map-append (λ (x : ScriptTurn). x.1) (take n turns) (turn ∷ []) ∙ ap (λ z. lines_of (take n turns) ++ z) (append-nil turn.1)

-- the lines of the turn that began last
pub lines_of_turn : (n : ℕ) (turns : List ScriptTurn) (turn : ScriptTurn) → slice_get turns n ≡ Some turn → lines_of
    (drop (n + 1 - 1) (take (n + 1) turns)) ≡ turn.1
lines_of_turn n turns turn h =
    let within : n < length turns = slice_get_within turns n turn h in
    let here : get_or turns n turn ≡ turn = get_or_from_slice_get turns n turn turn h in
    let less : n + 1 - 1 ≡ n = omega arith in
    let front : length (take n turns) ≡ n = length-take-le n turns (omega arith) in
    ap (λ k. lines_of (drop k (take (n + 1) turns))) less ∙ ap (λ z. lines_of (drop n z)) (take_more turns n turn within ∙ ap
    (λ z. take n turns ++ z ∷ []) here)
    ∙ ap lines_of (drop_at (take n turns) (turn ∷ []) n front) ∙ append-nil turn.1

pub moment_next : (n : ℕ) (turns : List ScriptTurn) (turn : ScriptTurn) (d : ℕ) → slice_get turns n ≡ Some turn → get_or
    (map (λ (x : ScriptTurn). x.0) turns) n d ≡ turn.0
moment_next n [] turn d h = absurd (cc)
moment_next zero (x ∷ turns) turn d h = ap (λ (o : Option ScriptTurn). option_map_or (λ (y : ScriptTurn). y.0) o 0) h
moment_next (suc n) (x ∷ turns) turn d h = moment_next n turns turn d h
