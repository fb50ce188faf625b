-- Behind a trace that is called for, what the script says of each end and of the links is what the script port has there.
use Rattle.std.proofs.Common.{◌≡◌, ◌⊎◌, ℕ, zero, suc, ◌+◌, ◌-◌, ◌^◌, ◌<◌, ◌≤◌, Bool, true, false, ◌==◌, ◌&&◌, ◌||◌, not, nat_le}
use Rattle.std.proofs.Common.{if◌then◌else◌}
use Rattle.std.proofs.Common.{List, [], ◌∷◌, ◌++◌, length, get_or, take, drop, Option, Some, None, refl, sym, ap, subst, ◌∙◌, arith}
use Rattle.std.proofs.Common.{append_assoc, length-append, inl, inr}
use Rattle.std.specs.Prelude.{sum_by, is_some}
use Rattle.std.specs.Option.{option_map_or}
use Rattle.std.specs.List.{flat_map, list_any}
use Rattle.std.proofs.lemmas.Bool.{cases_lt, cases_Bool}
use Rattle.std.proofs.lemmas.List.Folds.{list_any-append}
use Rattle.std.proofs.lemmas.Grind.{flat_map-append}
use Rattle.std.proofs.lemmas.Bool.Decides.{eqb_tells, leb_tells}
use Rattle.std.proofs.lemmas.List.{take_all, take-append-drop}
use Rattle.std.proofs.lemmas.List.Sums.{sum_by-append, sum_by-cons}
use Rattle.std.proofs.Math.Seq.{take-nil, drop-nil, drop-append_seam}
use Rattle.ev_types.specs.declared.side.Side.{Side}
use Rattle.ev_types.specs.declared.side.Side.TheVariants.{In, Out}
use Rattle.ev_types.specs.declared.side.SideId.{SideId}
use Rattle.ev_types.specs.declared.entry.Entry.TheVariants as entry
use Rattle.ev_types.specs.declared.answer.ConnAnswer.{ConnAnswer}
use Rattle.ev_types.specs.declared.answer.ConnAnswer.TheVariants as conn
use Rattle.ev_types.specs.declared.answer.ReadAnswer.TheVariants as read
use Rattle.ev_types.specs.Trace.{Event, Trace}
use Rattle.ev_types.specs.declared.turn_line.TurnLine.{TurnLine}
use Rattle.ev_types.specs.ScriptTurn.{ScriptTurn, lines_of}
use Rattle.relay_model.specs.Trace.{bytes_read, bytes_given}
use Rattle.relay_model.specs.Rooms.{at_most}
use Rattle.relay_model.specs.Totals.{is_opened, opened, made_connected_by, is_made_connected, is_connected}
use Rattle.relay_model.specs.Lines.{decides, allows, allows_all, marks_all}
use Rattle.relay_model.specs.Scripted as model
use Rattle.ev_port.specs.Ends.{took_bytes}
use Rattle.script_port.specs.ScriptState.{EndState, LinksState}
use Rattle.script_port.specs.ScriptEnds.{read_answer, can_read, can_write, is_spurred, taken_of, write_answer, conn_answer}
use Rattle.script_port.specs.ScriptLinks.{end_of, links_of, read_answer_at, pending_at, can_read_at, can_write_at, is_spurred_at}
use Rattle.script_port.specs.ScriptLinks.{beyond_answer, write_answer_at, conn_answer_at}
use Rattle.relay_model.specs.Called.{NamesOpened, OpensInOrder}
use Rattle.script_port.specs.ScriptVouched.{decided_at, EndStands, LinksStand}
use Rattle.script_port.specs.ScriptNow.{RunsTurn}
use Rattle.script_port.proofs.ScriptLemmas.{links_of-append}
use Rattle.script_port.proofs.ScriptPlayedLemmas.{links_played, Untouched, untouched, named_before, all_lines}
use Rattle.script_port.proofs.ScriptAnswerLemmas.{one_le, reads, reads_same, writes, writes_same, lets, takes_same, takes_any}

-- Links that no entry opened

none_made : (e : SideId) (t front rest : Trace) → t ≡ front ++ rest → OpensInOrder t → opened t ≤ e.link → is_made_connected e rest ≡ false
none_made e t front [] is order h = refl
none_made e t front (x ∷ rest) is order h = ap (λ b. b || is_made_connected e rest) (one x is) ∙ none_made e t (front ++ x ∷ [])
    rest (is ∙ sym (append_assoc front (x ∷ []) rest)) order h
  where
    one : (y : Event) → t ≡ front ++ y ∷ rest → made_connected_by e y ≡ false
    one (entry.Opened link connected, bytes) eq =
        let y : Event = (entry.Opened link connected, bytes) in
        let here : link ≡ opened front = order front rest link connected bytes eq in
        let whole : opened t ≡ opened (front ++ y ∷ rest) = ap opened eq in
        let parts = sum_by-append (λ z. if is_opened z then 1 else 0) front (y ∷ rest) in
        let first = sum_by-cons (λ z. if is_opened z then 1 else 0) y rest in
        elim (eqb_tells link e.link) [
          | inl same ↦ absurd (let s = same.1 in omega (arith, here, whole, parts, first, h, s))
          | inr
              other ↦ rw other.0 refl
        ]
    one _ eq = refl

-- what stands past a list
past : (xs : List Bool) (k : ℕ) → length xs ≤ k → get_or xs k false ≡ false
past [] k h = refl
past (x ∷ xs) zero h = absurd (omega (arith, h))
past (x ∷ xs) (suc k) h = past xs k (omega (arith, h))

within_stays : (xs ys : List Bool) (k : ℕ) → k < length xs → get_or (xs ++ ys) k false ≡ get_or xs k false
within_stays [] ys k h = absurd (omega (arith, h))
within_stays (x ∷ xs) ys zero h = refl
within_stays (x ∷ xs) ys (suc k) h = within_stays xs ys k (omega (arith, h))

-- What is told of an end, by whether it is undecided, what is decided of it and whether it was made connected; and whether
-- writing is marked, by that, and by whether it takes a byte and writes fail.
abbrev conn_of : Bool → Option Bool → Bool → ConnAnswer
conn_of undecided decision made = if undecided then model.decided_answer decision else (if made then conn.Connected else conn.Pending)

abbrev write_of : Bool → Bool → Option Bool → Bool → Bool → Bool
write_of undecided connected decision takes fails = if undecided && not connected then is_some decision else takes || fails

-- of an end of which nothing is decided, and that was not made connected, nothing is told yet
conn_none : (wait : Bool) → conn_of wait None false ≡ conn.Pending
conn_none true = refl
conn_none false = refl

write_none : (wait connected : Bool) → write_of wait connected None false false ≡ false
write_none true true = refl
write_none true false = refl
write_none false connected = refl

decided_none : (side : Side) → decided_at false side [] ≡ None
decided_none In = refl
decided_none Out = refl

-- only Out ends are undecided
decided_out : (closing : Bool) (side : Side) (u : Bool) (ds : List Bool) → model.undecided_at side u ≡ true →
    decided_at closing side ds ≡ model.first_or (if closing then Some true else None) ds
decided_out closing In u ds h = absurd (cc)
decided_out closing Out u ds h = refl

never : (b : Bool) → (b && false) ≡ false
never true = refl
never false = refl

-- an end of which no line says anything takes all in closing turns, and else nothing
lets_far : (closing : Bool) (allowed given offer : ℕ) → allowed ≡ 0 → at_most (lets (closing || false) allowed given) offer ≡
    (if closing then offer else 0)
lets_far true allowed given offer none = refl
lets_far false allowed given offer none = omega (arith, none)

-- so it answers a write
writes_far : (closing : Bool) (most : Option ℕ) (from : List ℕ) → at_most most (length from) ≡ (if closing then length from else 0) →
    writes most false from ≡ (beyond_answer closing (length from), took_bytes (beyond_answer closing (length from)) from)
writes_far false most from is = let test : nat_le 1 (at_most most (length from)) ≡ false = ap (nat_le 1) is ∙ one_le 0 in rw test refl
writes_far true most from is =
    elim (eqb_tells (length from) 0) [
      | inl none ↦
          let test : nat_le 1 (at_most most (length from)) ≡ false = ap (nat_le 1) is ∙ one_le (length from) ∙ ap not none.0 in
          rw (test, none.0) refl
      | inr some ↦
          let test : nat_le 1 (at_most most (length from)) ≡ true = ap (nat_le 1) is ∙ one_le (length from) ∙ ap not some.0 in
          rw (test, some.0, is) refl
    ]

-- and so a poll marks it
marks_far : (closing : Bool) → (nat_le 1 (if closing then 1 else 0) || false) ≡ closing
marks_far true = refl
marks_far false = refl

-- What the calls of a port ask of its script and of the trace: its lines name opened links, and links are numbered in order.
pub record Asked (turns : List ScriptTurn) (t : Trace) : Type 0 where
  pub lines : NamesOpened 0 (lines_of turns)
  pub in_order : OpensInOrder t

undecided_none : (side : Side) → model.undecided_at side false ≡ false
undecided_none In = refl
undecided_none Out = refl

module _ (turns : List ScriptTurn) (t : Trace) (asked : Asked turns t) where
  -- the lines so far, as the port has them
  abbrev pub so_far : List TurnLine
  so_far = lines_of (take (model.begun turns t) turns)

  abbrev to_come : List TurnLine
  to_come = lines_of (drop (model.begun turns t) turns)

  -- the links so far begin the links of the script
  pub links_are : model.links turns t ≡ links_of so_far
  links_are = links_played so_far

  pub links_whole : model.links turns t ++ links_of to_come ≡ links_of (lines_of turns)
  links_whole = ap (λ z. z ++ links_of to_come) links_are ∙ sym (links_of-append so_far to_come) ∙ ap links_of
      (all_lines (model.begun turns t) turns)

  -- nothing is said of an end of a link that no line opened
  unsaid : (e : SideId) → length (model.links turns t) ≤ e.link → Untouched e (model.lines turns t)
  unsaid e h =
      let named = named_before 0 so_far to_come (subst (λ z. NamesOpened 0 z) (sym (all_lines (model.begun turns t) turns)) asked.lines) in
      let long = ap length links_are in
      untouched e 0 so_far named (omega (arith, long, h))

  -- what is said in the running turn is said so far
  lines_parts : model.lines turns t ≡ lines_of (take (model.begun turns t - 1) (take (model.begun turns t) turns)) ++
      model.lines_now turns t
  lines_parts =
      ap lines_of (sym (take-append-drop (model.begun turns t - 1) (take (model.begun turns t) turns)))
      ∙ flat_map-append (λ (turn : ScriptTurn). turn.1) (take (model.begun turns t - 1) (take (model.begun turns t) turns))
      (drop (model.begun turns t - 1) (take (model.begun turns t) turns))

  pub unmarked_now : (e : SideId) → length (model.links turns t) ≤ e.link → list_any (marks_all e) (model.lines_now turns t) ≡ false
  unmarked_now e far =
      let before = lines_of (take (model.begun turns t - 1) (take (model.begun turns t) turns)) in
      or_right (list_any (marks_all e) before) (list_any (marks_all e) (model.lines_now turns t))
      (sym (list_any-append (marks_all e) before (model.lines_now turns t)) ∙ ap (list_any (marks_all e)) (sym lines_parts) ∙
      (unsaid e far).marks)
    where
      or_right : (a b : Bool) → (a || b) ≡ false → b ≡ false
      or_right true b k = absurd (cc)
      or_right false b k = k

  module _ (l : LinksState) (h : LinksStand (model.is_closing turns t) (links_of (lines_of turns)) (model.lines turns t) t l) where
    -- an end beyond all links of the script
    beyond : (e : SideId) → end_of l e ≡ None → length (model.links turns t) ≤ e.link
    beyond e found = let all = h.beyond e found in let whole = ap length links_whole in let parts = length-append
        (model.links turns t) (links_of to_come) in omega (arith, all, whole, parts)

    pending_is : (e : SideId) (o : Option EndState) → end_of l e ≡ o → model.pending turns t e ≡ option_map_or
        (λ (s : EndState). s.pending) o []
    pending_is e None found = ap (drop (length (bytes_read e t))) (unsaid e (beyond e found)).brings ∙ drop-nil (length (bytes_read e t))
    pending_is e (Some s) found = ap (drop (length (bytes_read e t))) (sym (h.ends e s found).came) ∙ drop-append_seam
        (bytes_read e t) s.pending

    ended_is : (e : SideId) (o : Option EndState) → end_of l e ≡ o → model.is_ended turns t e ≡ option_map_or
        (λ (s : EndState). s.eof) o false
    ended_is e None found = (unsaid e (beyond e found)).ends
    ended_is e (Some s) found = sym (h.ends e s found).eof

    reads_are : (e : SideId) (o : Option EndState) → end_of l e ≡ o → model.reads_fail turns t e ≡ option_map_or
        (λ (s : EndState). s.read_fails) o false
    reads_are e None found = (unsaid e (beyond e found)).reads
    reads_are e (Some s) found = sym (h.ends e s found).read_fails

    pub read_is : (e : SideId) (room : ℕ) → model.read_answer turns t e room ≡ (read_answer_at l e room, take room (pending_at l e))
    read_is e room = by_end (end_of l e) refl
      where
        by_end : (o : Option EndState) → end_of l e ≡ o → model.read_answer turns t e room ≡ (
          option_map_or (λ (s : EndState). read_answer s room) o read.NotYet,
          take room
              (option_map_or (λ (s : EndState). s.pending) o []),
        )
        by_end None found =
            (λ i. reads (pending_is e None found i) (reads_are e None found i) (ended_is e None found i) room) ∙ ap
            (λ z. (read.NotYet, z)) (sym (take-nil room))
        by_end (Some s) found = (λ i. reads (pending_is e (Some s) found i) (reads_are e (Some s) found i)
            (ended_is e (Some s) found i) room) ∙ reads_same s room

    pub can_read_is : (e : SideId) → model.can_read turns t e ≡ can_read_at l e
    can_read_is e = by_end (end_of l e) refl
      where
        by_end : (o : Option EndState) → end_of l e ≡ o → model.can_read turns t e ≡ option_map_or can_read o false
        by_end None found = (λ i. nat_le 1 (length (pending_is e None found i)) || reads_are e None found i || ended_is e None found i)
        by_end (Some s) found =
            (λ i. nat_le 1 (length (pending_is e (Some s) found i)) || reads_are e (Some s) found i || ended_is e (Some s) found i)
            ∙ ap (λ b. b || s.read_fails || s.eof) (one_le (length s.pending))

    -- what the script lets an end take
    lets_is : (e : SideId) → model.may_take turns t e ≡ lets (model.is_closing turns t || list_any (allows_all e) (model.lines turns t))
        (sum_by (allows e) (model.lines turns t)) (length (bytes_given e t))
    lets_is e = refl

    no_writes : (e : SideId) → length (model.links turns t) ≤ e.link → model.writes_fail turns t e ≡ false
    no_writes e far = (λ i. not (model.is_closing turns t) && (unsaid e far).writes i) ∙ never (not (model.is_closing turns t))

    writes_are : (e : SideId) (o : Option EndState) → end_of l e ≡ o → model.writes_fail turns t e ≡ option_map_or
        (λ (s : EndState). s.write_fails) o false
    writes_are e None found = no_writes e (beyond e found)
    writes_are e (Some s) found = sym (h.ends e s found).write_fails

    -- what an end takes of which nothing is said
    takes_far : (e : SideId) (offer : ℕ) → length (model.links turns t) ≤ e.link → at_most (model.may_take turns t e) offer ≡
        (if model.is_closing turns t then offer else 0)
    takes_far e offer far =
        let un = unsaid e far in
        (λ i. at_most (lets (model.is_closing turns t || un.any i) (sum_by (allows e) (model.lines turns t))
        (length (bytes_given e t))) offer)
        ∙ lets_far (model.is_closing turns t) (sum_by (allows e) (model.lines turns t)) (length (bytes_given e t)) offer un.allows

    pub write_is : (e : SideId) (from : List ℕ) → ((s : EndState) → end_of l e ≡ Some s → length s.taken + taken_of s.may_take
        (length from) < 2 ^ 64 - 1) →
        model.write_answer turns t e from ≡ (write_answer_at l e (length from), took_bytes (write_answer_at l e (length from)) from)
    write_is e from fits = by_end (end_of l e) refl
      where
        by_end : (o : Option EndState) → end_of l e ≡ o → model.write_answer turns t e from ≡ (
          option_map_or (λ (s : EndState). write_answer s (length from)) o (beyond_answer l.closing (length from)),
          took_bytes
              (option_map_or (λ (s : EndState). write_answer s (length from)) o (beyond_answer l.closing (length from))) from,
        )
        by_end None found =
            (λ i. writes (model.may_take turns t e) (writes_are e None found i) from)
            ∙ writes_far (model.is_closing turns t) (model.may_take turns t e) from (takes_far e (length from) (beyond e found))
            ∙ ap (λ c. (beyond_answer c (length from), took_bytes (beyond_answer c (length from)) from)) (sym h.is_closing)
        by_end (Some s) found =
            let k = h.ends e s found in
            let given : length (bytes_given e t) ≡ length s.taken = ap length (sym k.taken) in
            let lets_so : model.may_take turns t e ≡ lets (model.is_closing turns t || list_any (allows_all e) (model.lines turns t))
            (sum_by (allows e) (model.lines turns t)) (length s.taken) =
            ap (lets (model.is_closing turns t || list_any (allows_all e) (model.lines turns t))
            (sum_by (allows e) (model.lines turns t))) given in
            (λ i. writes (model.may_take turns t e) (writes_are e (Some s) found i) from)
            ∙ writes_same (model.may_take turns t e) s from (ap (λ o. at_most o (length from)) lets_so ∙ takes_same s.may_take _ _
            (length s.taken) (length from) k.may_take (fits s found))

    abbrev EndHere : SideId → EndState → Type 0
    EndHere e s = EndStands (model.is_closing turns t) (links_of (lines_of turns)) (model.lines turns t) t e s

    -- an end of a link that was opened is undecided just where the port has it so
    undecided_is : (e : SideId) (s : EndState) → EndHere e s → e.link <
        length (model.links turns t) → model.is_undecided turns t e ≡ s.wait
    undecided_is e s k near =
        sym (k.wait ∙ ap (λ z. model.undecided_at e.side (get_or z e.link false)) (sym links_whole) ∙ ap
        (model.undecided_at e.side) (within_stays (model.links turns t) (links_of to_come) e.link near))

    not_undecided : (e : SideId) → length (model.links turns t) ≤ e.link → model.is_undecided turns t e ≡ false
    not_undecided e far = ap (model.undecided_at e.side) (past (model.links turns t) e.link far) ∙ undecided_none e.side

    -- an undecided end is decided just as the port has it
    decided_is : (e : SideId) (s : EndState) → EndHere e s → s.wait ≡ true →
        model.decision turns t e ≡ s.decision
    decided_is e s k w =
        let ds = flat_map (decides e.link) (model.lines turns t) in
        sym (decided_out (model.is_closing turns t) e.side (get_or (links_of (lines_of turns)) e.link false) ds (sym k.wait ∙ w))
        ∙ sym k.decision

    undecided_yet : (e : SideId) (s : EndState) → EndHere e s → length (model.links turns t) ≤ e.link → model.is_closing turns t ≡
        false → s.decision ≡ None
    undecided_yet e s k far before = k.decision ∙ (λ i. decided_at (before i) e.side ((unsaid e far).decides i)) ∙ decided_none e.side

    -- in closing turns all links were opened
    all_opened : length turns ≤ model.begun turns t → model.links turns t ≡ links_of (lines_of turns)
    all_opened past_all = links_are ∙ ap (λ ts. links_of (lines_of ts)) (take_all (model.begun turns t) turns past_all)

    -- an end is undecided just where the port has it so, or no line opened its link yet
    same_or_far : (e : SideId) (s : EndState) → EndHere e s → (model.is_undecided turns t e ≡ s.wait) ⊎
        ((length (model.links turns t) ≤ e.link) × (model.is_closing turns t ≡ false))
    same_or_far e s k =
        elim (leb_tells (suc (length turns)) (model.begun turns t)) [
          | inl c ↦
              let less = c.1 in
              inl (sym (k.wait ∙ ap (λ z. model.undecided_at e.side (get_or z e.link false)) (sym (all_opened (omega (arith, less))))))
          | inr c ↦
              elim (cases_lt e.link (length (model.links turns t))) [
                | inl near ↦ inl (undecided_is e s k near)
                | inr far ↦ inr (far, c.0)
              ]
        ]

    not_made : (e : SideId) → length (model.links turns t) ≤ e.link → is_made_connected e t ≡ false
    not_made e far = let few = h.in_order in none_made e t [] t refl asked.in_order (omega (arith, far, few))

    pub conn_is : (e : SideId) → model.conn_answer turns t e ≡ conn_answer_at l e
    conn_is e = by_end (end_of l e) refl
      where
        far_is : length (model.links turns t) ≤ e.link → model.conn_answer turns t e ≡ conn.Pending
        far_is far = λ i. conn_of (not_undecided e far i) (model.decision turns t e) (not_made e far i)

        by_end : (o : Option EndState) → end_of l e ≡ o → model.conn_answer turns t e ≡ option_map_or conn_answer o conn.Pending
        by_end None found = far_is (beyond e found)
        by_end (Some s) found =
            let k = h.ends e s found in
            elim (same_or_far e s k) [
              | inl same ↦
                  elim (cases_Bool s.wait) [
                    | inl w ↦
                        (λ i. conn_of ((same ∙ w) i) (decided_is e s k w i) (is_made_connected e t)) ∙ ap
                        (λ b. conn_of b s.decision s.tally.made_connected) (sym w)
                    | inr w ↦
                        (λ i. conn_of ((same ∙ w) i) (model.decision turns t e) (sym k.made_connected i)) ∙ ap
                        (λ b. conn_of b s.decision s.tally.made_connected) (sym w)
                  ]
              | inr far ↦
                  far_is far.0 ∙ sym (conn_none s.wait)
                  ∙ (λ i. conn_of s.wait (sym (undecided_yet e s k far.0 far.1) i) (sym (k.made_connected ∙ not_made e far.0) i))
            ]

    -- whether the script lets an end take a byte is whether the port does
    any_is : (e : SideId) (s : EndState) → EndHere e s → nat_le 1
        (at_most (model.may_take turns t e) 1) ≡ not (taken_of s.may_take 1 == 0)
    any_is e s k =
        ap (λ (z : List ℕ). nat_le 1 (at_most (lets (model.is_closing turns t || list_any (allows_all e) (model.lines turns t))
        (sum_by (allows e) (model.lines turns t)) (length z)) 1)) (sym k.taken)
        ∙ takes_any s.may_take (model.is_closing turns t || list_any (allows_all e) (model.lines turns t))
        (sum_by (allows e) (model.lines turns t))
        (length s.taken) k.may_take

    pub can_write_is : (e : SideId) → model.can_write turns t e ≡ can_write_at l e
    can_write_is e = by_end (end_of l e) refl
      where
        far_is : length (model.links turns t) ≤ e.link → model.can_write turns t e ≡ model.is_closing turns t
        far_is far = (λ i. write_of (not_undecided e far i) (is_connected e t) (model.decision turns t e)
            (nat_le 1 (takes_far e 1 far i)) (no_writes e far i)) ∙ marks_far (model.is_closing turns t)

        by_end : (o : Option EndState) → end_of l e ≡ o → model.can_write turns t e ≡ option_map_or can_write o l.closing
        by_end None found = far_is (beyond e found) ∙ sym h.is_closing
        by_end (Some s) found =
            let k = h.ends e s found in
            elim (same_or_far e s k) [
              | inl same ↦
                  elim (cases_Bool s.wait) [
                    | inl w ↦
                        (λ i. write_of ((same ∙ w) i) (sym k.connected i) (decided_is e s k w i)
                        (any_is e s k i) (writes_are e (Some s) found i))
                        ∙ ap (λ b. write_of b s.tally.connected s.decision (not (taken_of s.may_take 1 == 0)) s.write_fails) (sym w)
                    | inr w ↦
                        (λ i. write_of ((same ∙ w) i) (sym k.connected i) (model.decision turns t e)
                        (any_is e s k i) (writes_are e (Some s) found i))
                        ∙ ap (λ b. write_of b s.tally.connected s.decision (not (taken_of s.may_take 1 == 0)) s.write_fails) (sym w)
                  ]
              | inr far ↦
                  let none : not (taken_of s.may_take 1 == 0) ≡ false = sym (any_is e s k) ∙ ap (nat_le 1) (takes_far e 1 far.0 ∙ ap
                  (λ (c : Bool). if c then 1 else 0) far.1) in
                  far_is far.0 ∙ far.1 ∙ sym (write_none s.wait s.tally.connected)
                  ∙ (λ i. write_of s.wait s.tally.connected (sym (undecided_yet e s k far.0 far.1) i) (sym none i)
                  (sym (k.write_fails ∙ no_writes e far.0) i))
            ]

    -- what is marked in the running turn alone
    pub spurs_are : (n : ℕ) → RunsTurn (model.lines_now turns t) n l → (e : SideId) → list_any (marks_all e)
        (model.lines_now turns t) ≡ is_spurred_at l e
    spurs_are n now e = by_end (end_of l e) refl
      where
        by_end : (o : Option EndState) → end_of l e ≡ o → list_any (marks_all e) (model.lines_now turns t) ≡ option_map_or
            (is_spurred l.turn) o false
        by_end None found = unmarked_now e (beyond e found)
        by_end (Some s) found = sym (now.spurs e s found)
