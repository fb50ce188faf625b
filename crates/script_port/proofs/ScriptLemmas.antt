-- What is to open and to come is just what the lines that are left bring.
use Rattle.std.proofs.Common.{◌≡◌, ◌≢◌, ℕ, zero, suc, ◌+◌, ◌<◌, ◌≤◌, Bool, false, List, [], ◌∷◌, ◌++◌, length, get_or, take, drop, map}
use Rattle.std.proofs.Common.{Option, refl, sym, ap, ◌∙◌, arith, append_assoc, append-nil, inl, inr}
use Rattle.std.proofs.lemmas.Bool.{cases_eq, cases_lt, eq-eqb}
use Rattle.std.proofs.lemmas.Bool.Decides.{eqb_tells}
use Rattle.std.proofs.lemmas.List.{take_at, drop_at, drop_more, drop_all}
use Rattle.ev_types.specs.Sides.{number}
use Rattle.ev_types.specs.declared.side.SideId.{SideId}
use Rattle.ev_types.specs.declared.turn_line.TurnLine.{TurnLine}
use Rattle.ev_types.specs.declared.turn_line.TurnLine.TheVariants as line
use Rattle.script_port.specs.ScriptState.{EndState, LinksKept}
use Rattle.script_port.specs.ScriptEnds.{end_after_line, new_end}
use Rattle.script_port.specs.ScriptLinks.{changed, at_end, out_end, after_line, after_lines, links_of, new_ends}
use Rattle.script_port.specs.declared.kept_line.EndLine.TheVariants as at
use Rattle.script_port.specs.KeptLines.{kept_line}
use Rattle.script_port.specs.ScriptKept.{state_after_line, kept_at, links_after_line, links_after_lines, no_bytes, with_links, with_bytes}
use Rattle.script_port.specs.ScriptKept.{with_all_bytes, line_bytes, bytes_of, Brings}
use Rattle.ev_types.specs.ScriptTurn.{lines_of}
use Rattle.script_port.proofs.ListLemmas.{length-changed, get_or-changed_same, get_or-changed_other, changed_agree, changed_none}
use Rattle.script_port.proofs.ListLemmas.{changed_beyond}

pub bytes_here : (side : SideId) (bytes : List ℕ) (k : ℕ) → k ≡ number side → line_bytes k (line.Pending side bytes) ≡ bytes
bytes_here side bytes k e = let t = eq-eqb (number side) k (sym e) in rw t

-- a line that names another end brings nothing in here
pub bytes_elsewhere : (side : SideId) (bytes : List ℕ) (k : ℕ) → k ≢ number side → line_bytes k (line.Pending side bytes) ≡ []
bytes_elsewhere side bytes k h =
    elim (eqb_tells (number side) k) [ inl t ↦ absurd (h (sym t.1)) | inr t ↦ rw t.0 ]

-- the next bytes to come are those of the line
next_bytes : (side : SideId) (bytes : List ℕ) (rest : List TurnLine) (l : LinksKept) (k : ℕ) → k ≡ number side → k < length
    l.to_come → Brings (line.Pending side bytes ∷ rest) l → kept_at k l.to_come ≡ bytes ++ bytes_of k rest
next_bytes side bytes rest l k e h b = b.bytes k h ∙ ap (λ t. t ++ bytes_of k rest) (bytes_here side bytes k e)

-- so they come in
bytes_come : (turn : Option ℕ) (side : SideId) (bytes : List ℕ) (rest : List TurnLine) (l : LinksKept) (k : ℕ) → k ≡ number side →
    Brings (line.Pending side bytes ∷ rest) l →
    changed k (state_after_line turn (at.Pending (length bytes)) (kept_at k l.to_come)) l.state.ends ≡ changed k
    (end_after_line turn (line.Pending side bytes)) l.state.ends
bytes_come turn side bytes rest l k e b =
    let coming = state_after_line turn (at.Pending (length bytes)) (kept_at k l.to_come) in
    let come = end_after_line turn (line.Pending side bytes) in
    elim (cases_lt k (length l.to_come)) [
      | inl h ↦
          let first : take (length bytes) (kept_at k l.to_come) ≡ bytes = ap (take (length bytes))
          (next_bytes side bytes rest l k e h b) ∙ take_at bytes (bytes_of k rest) (length bytes) refl in
          changed_agree coming come l.state.ends k (λ (s : EndState). rw first)
      | inr h ↦
          let beyond : length l.state.ends ≤ k = omega (arith, b.ends) in
          changed_beyond coming l.state.ends k beyond ∙ sym (changed_beyond come l.state.ends k beyond)
    ]

-- and the bytes behind them are left
bytes_left : (side : SideId) (bytes : List ℕ) (rest : List TurnLine) (l : LinksKept) (k0 k : ℕ) → k0 ≡ number side → Brings
    (line.Pending side bytes ∷ rest) l → k < length l.to_come →
    kept_at k (changed k0 (drop (length bytes)) l.to_come) ≡ bytes_of k rest
bytes_left side bytes rest l k0 k n b h =
    elim (cases_eq k k0) [
      | inl e ↦
          rw (sym e) (get_or-changed_same (drop (length bytes)) l.to_come k [] h ∙ ap (drop (length bytes))
          (next_bytes side bytes rest l k (e ∙ n) h b) ∙ drop_at bytes (bytes_of k rest) (length bytes) refl)
      | inr e ↦
          get_or-changed_other (drop (length bytes)) l.to_come k0 k [] e ∙ b.bytes k h ∙ ap (λ t. t ++ bytes_of k rest)
          (bytes_elsewhere side bytes k (λ q. e (q ∙ sym n)))
    ]

-- a line that changes an end and brings no bytes
quiet_line : (e : SideId) (f : EndState → EndState) (rest : List TurnLine) (l : LinksKept) → Brings rest l →
    Brings rest (record l { state = at_end e f l.state; to_come = changed (number e) (λ bytes. bytes) l.to_come })
quiet_line e f rest l b =
    let none = changed_none l.to_come (number e) in
    let long = length-changed f l.state.ends (number e) in
    record { links = b.links; bytes = rw none b.bytes; ends = rw (none, long) b.ends }

-- one line
one_line : (x : TurnLine) (rest : List TurnLine) (l : LinksKept) → Brings (x ∷ rest) l → ((links_after_line (kept_line x) l).state
    ≡ after_line x l.state) × Brings rest (links_after_line (kept_line x) l)
one_line (line.NewLink wait) rest l b = (rw b.links, record { links = rw b.links; bytes = b.bytes; ends = b.ends })
one_line line.PollFail rest l b = (refl, record { links = b.links; bytes = b.bytes; ends = b.ends })
one_line (line.Conn link connected) rest l b = (
  refl,
  quiet_line (out_end link) (end_after_line l.state.turn (line.Conn link connected)) rest l
      (record { links = b.links; bytes = b.bytes; ends = b.ends }),
)
one_line (line.Eof side) rest l b = (
  refl,
  quiet_line side (end_after_line l.state.turn (line.Eof side)) rest l
      (record { links = b.links; bytes = b.bytes; ends = b.ends }),
)
one_line (line.ReadFail side) rest l b = (
  refl,
  quiet_line side (end_after_line l.state.turn (line.ReadFail side)) rest l
      (record { links = b.links; bytes = b.bytes; ends = b.ends }),
)
one_line (line.Take side more) rest l b = (
  refl,
  quiet_line side (end_after_line l.state.turn (line.Take side more)) rest l
      (record { links = b.links; bytes = b.bytes; ends = b.ends }),
)
one_line (line.WriteFail side) rest l b = (
  refl,
  quiet_line side (end_after_line l.state.turn (line.WriteFail side)) rest l
      (record { links = b.links; bytes = b.bytes; ends = b.ends }),
)
one_line (line.Spur side) rest l b = (
  refl,
  quiet_line side (end_after_line l.state.turn (line.Spur side)) rest l
      (record { links = b.links; bytes = b.bytes; ends = b.ends }),
)
one_line (line.Pending side bytes) rest l b =
    let k = number side in
    let come = bytes_come l.state.turn side bytes rest l k refl b in
    let shorter = length-changed (drop (length bytes)) l.to_come k in
    let long = length-changed (state_after_line l.state.turn (at.Pending (length bytes)) (kept_at k l.to_come)) l.state.ends k in (
      rw come,
      record {
        links = b.links;
        bytes = λ j h. bytes_left side bytes rest l k j refl b (omega (arith, shorter));
        ends = long ∙ b.ends ∙ sym shorter;
      },
    )

-- lines in their order
pub lines_bring : (xs rest : List TurnLine) (l : LinksKept) → Brings (xs ++ rest) l →
    ((links_after_lines (map kept_line xs) l).state ≡ after_lines xs l.state) × Brings rest (links_after_lines (map kept_line xs) l)
lines_bring [] rest l b = (refl, b)
lines_bring (x ∷ xs) rest l b =
    let one = one_line x (xs ++ rest) l b in
    let more = lines_bring xs rest (links_after_line (kept_line x) l) one.1 in
    (more.0 ∙ ap (after_lines xs) one.0, more.1)

-- the turn that begins
pub turn_begins : (turns : List (ℕ × List TurnLine)) (i : ℕ) (turn : ℕ × List TurnLine) → i < length turns → get_or turns i turn ≡
    turn → lines_of (drop i turns) ≡ turn.1 ++ lines_of (drop (i + 1) turns)
turn_begins turns i turn h e =
    ap lines_of (drop_more turns i turn h ∙ ap (λ t. t ∷ drop (i + 1) turns) e)

-- At the beginning

pub links_of-append : (xs ys : List TurnLine) → links_of (xs ++ ys) ≡ links_of xs ++ links_of ys
links_of-append [] ys = refl
links_of-append (line.NewLink wait ∷ xs) ys = ap (λ t. wait ∷ t) (links_of-append xs ys)
links_of-append (_ ∷ xs) ys = links_of-append xs ys

new_ends-append : (v w : List Bool) → new_ends (v ++ w) ≡ new_ends v ++ new_ends w
new_ends-append [] w = refl
new_ends-append (x ∷ v) w = ap (λ t. new_end false ∷ new_end x ∷ t) (new_ends-append v w)

no_bytes-append : (v w : List Bool) → no_bytes (v ++ w) ≡ no_bytes v ++ no_bytes w
no_bytes-append [] w = refl
no_bytes-append (x ∷ v) w = ap (λ t. [] ∷ [] ∷ t) (no_bytes-append v w)

with_more_links : (v w : List Bool) (l : LinksKept) → with_links (v ++ w) l ≡ with_links w (with_links v l)
with_more_links v w l =
    let ends = new_ends-append v w in
    let bytes = no_bytes-append v w in
    rw (ends, bytes)
    (rw (
      sym (append_assoc l.state.ends (new_ends v) (new_ends w)),
      sym (append_assoc l.to_open v w),
      sym
          (append_assoc l.to_come (no_bytes v) (no_bytes w)),
    ))

-- the links of one turn more
pub links_step : (turns : List (ℕ × List TurnLine)) (i : ℕ) (turn : ℕ × List TurnLine) (l m n : LinksKept) → i < length turns →
    get_or turns i turn ≡ turn → m ≡ with_links (links_of turn.1) l →
    with_links (links_of (lines_of (drop i turns))) l ≡ n → with_links (links_of (lines_of (drop (i + 1) turns))) m ≡ n
links_step turns i turn l m n h e now so_far =
    let later = lines_of (drop (i + 1) turns) in
    ap (with_links (links_of later)) now ∙ sym (with_more_links (links_of turn.1) (links_of later) l) ∙ ap (λ t. with_links t l)
    (sym (links_of-append turn.1 later) ∙ ap links_of (sym (turn_begins turns i turn h e))) ∙ so_far

with_all_bytes-append : (xs ys : List TurnLine) (to_come : List (List ℕ)) → with_all_bytes (xs ++ ys) to_come ≡ with_all_bytes ys
    (with_all_bytes xs to_come)
with_all_bytes-append [] ys to_come = refl
with_all_bytes-append (x ∷ xs) ys to_come = with_all_bytes-append xs ys (with_bytes x to_come)

-- the bytes of one line more, and of one turn more
pub bytes_line_more : (xs : List TurnLine) (x : TurnLine) (to_come : List (List ℕ)) → with_all_bytes (xs ++ x ∷ []) to_come ≡
    with_bytes x (with_all_bytes xs to_come)
bytes_line_more xs x to_come = with_all_bytes-append xs (x ∷ []) to_come

pub bytes_turn_more : (turns : List (ℕ × List TurnLine)) (turn : ℕ × List TurnLine) (to_come : List (List ℕ)) →
    with_all_bytes (lines_of (turns ++ turn ∷ [])) to_come ≡ with_all_bytes turn.1 (with_all_bytes (lines_of turns) to_come)
bytes_turn_more [] turn to_come = ap (λ xs. with_all_bytes xs to_come) (append-nil turn.1)
bytes_turn_more (t ∷ turns) turn to_come =
    with_all_bytes-append t.1 (lines_of (turns ++ turn ∷ [])) to_come ∙ bytes_turn_more turns turn (with_all_bytes t.1 to_come) ∙
    ap (with_all_bytes turn.1) (sym (with_all_bytes-append t.1 (lines_of turns) to_come))

length-with_bytes : (x : TurnLine) (to_come : List (List ℕ)) → length (with_bytes x to_come) ≡ length to_come
length-with_bytes (line.Pending side bytes) to_come = length-changed (λ before. before ++ bytes) to_come (number side)
length-with_bytes _ to_come = refl

length-with_all_bytes : (xs : List TurnLine) (to_come : List (List ℕ)) → length (with_all_bytes xs to_come) ≡ length to_come
length-with_all_bytes [] to_come = refl
length-with_all_bytes (x ∷ xs) to_come = length-with_all_bytes xs (with_bytes x to_come) ∙ length-with_bytes x to_come

kept-with_bytes : (x : TurnLine) (to_come : List (List ℕ)) (k : ℕ) → k < length to_come → kept_at k (with_bytes x to_come) ≡
    kept_at k to_come ++ line_bytes k x
kept-with_bytes (line.Pending side bytes) to_come k h =
    elim (cases_eq k (number side)) [
      | inl e ↦
          ap (λ n. kept_at k (changed n (λ before. before ++ bytes) to_come)) (sym e) ∙ get_or-changed_same
          (λ before. before ++ bytes) to_come k [] h ∙ ap (λ t. kept_at k to_come ++ t) (sym (bytes_here side bytes k e))
      | inr e ↦
          get_or-changed_other (λ before. before ++ bytes) to_come (number side) k [] e ∙ sym (append-nil (kept_at k to_come)) ∙ ap
          (λ t. kept_at k to_come ++ t) (sym (bytes_elsewhere side bytes k e))
    ]
kept-with_bytes _ to_come k h = sym (append-nil (kept_at k to_come))

kept-with_all_bytes : (xs : List TurnLine) (to_come : List (List ℕ)) (k : ℕ) → k < length to_come → kept_at k
    (with_all_bytes xs to_come) ≡ kept_at k to_come ++ bytes_of k xs
kept-with_all_bytes [] to_come k h = sym (append-nil (kept_at k to_come))
kept-with_all_bytes (x ∷ xs) to_come k h =
    let more = kept-with_all_bytes xs (with_bytes x to_come) k (omega (arith, length-with_bytes x to_come)) in
    more ∙ ap (λ t. t ++ bytes_of k xs) (kept-with_bytes x to_come k h) ∙ append_assoc (kept_at k to_come) (line_bytes k x) (bytes_of k xs)

no_bytes_at : (waits : List Bool) (k : ℕ) → kept_at k (no_bytes waits) ≡ []
no_bytes_at [] k = refl
no_bytes_at (w ∷ waits) zero = refl
no_bytes_at (w ∷ waits) (suc zero) = refl
no_bytes_at (w ∷ waits) (suc (suc k)) = no_bytes_at waits k

as_many_ends : (waits : List Bool) → length (new_ends waits) ≡ length (no_bytes waits)
as_many_ends [] = refl
as_many_ends (w ∷ waits) = ap (λ n. suc (suc n)) (as_many_ends waits)

-- all links and all bytes of the lines are to come at first
pub all_to_come : (xs : List TurnLine) (l : LinksKept) → l.to_open ≡ links_of xs → l.state.ends ≡ new_ends (links_of xs) →
    l.to_come ≡ with_all_bytes xs (no_bytes (links_of xs)) → Brings xs l
all_to_come xs l links ends come = record {
  links = links;
  bytes = λ k h.
      let known = length-with_all_bytes xs (no_bytes (links_of xs)) in
      let within : k < length (no_bytes (links_of xs)) = omega (arith, known, ap length come) in
      ap (kept_at k) come ∙ kept-with_all_bytes xs (no_bytes (links_of xs)) k within ∙ ap (λ t. t ++ bytes_of k xs)
      (no_bytes_at (links_of xs) k);
  ends = ap length ends ∙ as_many_ends (links_of xs) ∙ sym (length-with_all_bytes xs (no_bytes (links_of xs))) ∙ ap length (sym come);
}

-- where no turn is left
pub links_done : (turns : List (ℕ × List TurnLine)) (i : ℕ) (l n : LinksKept) → length turns ≤ i → with_links
    (links_of (lines_of (drop i turns))) l ≡ n → l ≡ n
links_done turns i l n h so_far =
    sym (rw (append-nil l.state.ends, append-nil l.to_open, append-nil l.to_come)) ∙ ap (λ t. with_links (links_of (lines_of t)) l)
    (sym (drop_all i turns h)) ∙ so_far
