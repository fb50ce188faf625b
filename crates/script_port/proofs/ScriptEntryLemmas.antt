-- Where reads, writes, connect checks and accepts leave the ends of a script port.
use Rattle.std.proofs.Common.{◌≡◌, ◌⊎◌, ℕ, ◌+◌, ◌-◌, ◌^◌, ◌<◌, ◌≤◌, min, Bool, true, false, ◌==◌, ◌&&◌, ◌||◌, not, if◌then◌else◌, List, []}
use Rattle.std.proofs.Common.{◌∷◌, ◌++◌, length, take, drop, Option, Some, None, refl, sym, ap, subst, ◌∙◌, arith, append-nil}
use Rattle.std.proofs.Common.{length-append, length-drop, length-take, inl, inr}
use Rattle.std.specs.Prelude.{sum_by, option_map}
use Rattle.std.specs.Option.{option_map_or}
use Rattle.std.specs.List.{flat_map, list_any}
use Rattle.std.proofs.lemmas.Bool.{cases_Bool}
use Rattle.std.proofs.lemmas.Bool.Decides.{eqb_tells}
use Rattle.std.proofs.lemmas.List.{take-append-drop, drop-drop}
use Rattle.std.proofs.lemmas.List.Sums.{sum_by-append}
use Rattle.std.proofs.Math.Seq.{take-nil}
use Rattle.ev_types.specs.declared.side.Side.{Side}
use Rattle.ev_types.specs.declared.side.Side.TheVariants.{In, Out}
use Rattle.ev_types.specs.declared.side.SideId.{SideId}
use Rattle.ev_types.specs.declared.entry.Entry.TheVariants as entry
use Rattle.ev_types.specs.declared.answer.ConnAnswer.{ConnAnswer}
use Rattle.ev_types.specs.declared.answer.ConnAnswer.TheVariants as conn
use Rattle.ev_types.specs.declared.answer.ReadAnswer.{ReadAnswer}
use Rattle.ev_types.specs.declared.answer.ReadAnswer.TheVariants as read
use Rattle.ev_types.specs.declared.answer.WriteAnswer.{WriteAnswer}
use Rattle.ev_types.specs.declared.answer.WriteAnswer.TheVariants as write
use Rattle.ev_types.specs.Sides.{number, same_side, same_end}
use Rattle.ev_types.specs.Trace.{Trace}
use Rattle.relay_model.specs.Trace.{bytes_read, bytes_given}
use Rattle.relay_model.specs.Totals.{is_opened, opened, is_made_connected, is_connected}
use Rattle.ev_types.specs.declared.turn_line.TurnLine.{TurnLine}
use Rattle.relay_model.specs.Lines.{links_by, allows, allows_all}
use Rattle.ev_port.specs.Ends as ends
use Rattle.ev_port.specs.Ends.{took_bytes}
use Rattle.script_port.specs.ScriptState.{EndState, LinksState}
use Rattle.script_port.specs.ScriptEnds.{read_answer, after_read, taken_of, left_to_take, write_answer, after_write, conn_answer}
use Rattle.script_port.specs.ScriptEnds.{after_check, accepted}
use Rattle.script_port.specs.ScriptLinks.{end_of, at_end, taken_at, read_answer_at, pending_at, write_answer_at, conn_answer_at}
use Rattle.script_port.specs.ScriptLinks.{accept_first, beyond_answer}
use Rattle.script_port.specs.ScriptVouched.{TakesOn, MayTake, EndStands, LinksStand}
use Rattle.relay_model.proofs.EndLemmas.{same_end-eq}
use Rattle.script_port.proofs.ListLemmas.{slice_get-changed_same, slice_get-changed_other}
use Rattle.script_port.proofs.ToldLemmas.{same_end_tells}
use Rattle.script_port.proofs.ScriptStandLemmas.{end_changed, none_changed, takes-write}
use Rattle.script_port.proofs.ScriptTraceLemmas.{same_self, Silent, same_said, as_before, or_false, end_event, end_silent, at_end_stands}

empty : (xs : List ℕ) → length xs ≡ 0 → xs ≡ []
empty [] h = refl
empty (x ∷ xs) h = absurd (omega (arith, h))

-- Reads

read_silent : (side e : SideId) (room : ℕ) (answer : ReadAnswer) (bytes : List ℕ) → same_end side e ≡ false → Silent e
    ((entry.Read side room answer, bytes) ∷ [])
read_silent side e room (read.Got n) bytes h = record { read = rw h refl; given = refl; made = refl; connected = refl }
read_silent side e room read.Ended bytes h = record { read = refl; given = refl; made = refl; connected = refl }
read_silent side e room read.NotYet bytes h = record { read = refl; given = refl; made = refl; connected = refl }
read_silent side e room read.Failed bytes h = record { read = refl; given = refl; made = refl; connected = refl }

read_only : (side : SideId) (room : ℕ) (answer : ReadAnswer) (bytes : List ℕ) → (bytes_given side
    ((entry.Read side room answer, bytes) ∷ []) ≡ []) × (is_made_connected side ((entry.Read side room answer, bytes) ∷ []) ≡
    false) × (is_connected side ((entry.Read side room answer, bytes) ∷ []) ≡ false)
read_only side room answer bytes = (refl, refl, refl)

-- a read gave the bytes that were pending, up to its room
read_bytes : (side : SideId) (room : ℕ) (s : EndState) → bytes_read side
    ((entry.Read side room (read_answer s room), take room s.pending) ∷ []) ≡ take room s.pending
read_bytes side room s =
    elim (eqb_tells (length s.pending) 0) [
      | inl none ↦
          let nothing : take room s.pending ≡ [] = ap (take room) (empty s.pending none.1) ∙ take-nil room in
          elim (cases_Bool s.read_fails) [
            | inl fails ↦ rw (none.0, fails, nothing) refl
            | inr fails ↦ elim (cases_Bool s.eof) [
              | inl eof ↦ rw (none.0, fails, eof, nothing) refl
              | inr eof
                  ↦ rw (none.0, fails, eof, nothing) refl
            ]
          ]
      | inr some ↦ let same = same_self side in rw (some.0, same) (append-nil (take room s.pending))
    ]

pub read_stands : (closing : Bool) (waits : List Bool) (ls : List TurnLine) (t : Trace) (side : SideId) (room : ℕ) (l : LinksState) →
    LinksStand
    closing waits ls t l →
    LinksStand closing waits ls (t ++ (entry.Read side room (read_answer_at l side room), take room (pending_at l side)) ∷ [])
    (at_end side (λ s. after_read s room) l)
read_stands closing waits ls t side room l h =
    let u : Trace = (entry.Read side room (read_answer_at l side room), take room (pending_at l side)) ∷ [] in
    at_end_stands closing waits ls t u side (λ s. after_read s room) l refl (λ e other. read_silent side e room
    (read_answer_at l side room) (take room (pending_at l side)) other)
    (λ s found k.
    let is : u ≡ (entry.Read side room (read_answer s room), take room s.pending) ∷ [] =
    ap (λ (o : Option EndState). (
      entry.Read side room (option_map_or (λ (x : EndState). read_answer x room) o read.NotYet),
      take
          room (option_map_or (λ (x : EndState). x.pending) o []),
    ) ∷ []) found in
    let got : bytes_read side u ≡ take room s.pending = ap (bytes_read side) is ∙ read_bytes side room s in
    end_event closing waits ls t u side s (after_read s room) k
    (sym (ap (λ z. z ++ drop room s.pending) got ∙ take-append-drop room s.pending))
    (sym (append-nil s.taken)) (same_said s _ _ _ _ _) k.may_take (sym (or_false s.tally.made_connected))
    (sym (or_false s.tally.connected)))
    h

-- Connect checks

check_silent : (side e : SideId) (answer : ConnAnswer) → same_end side e ≡ false → Silent e ((entry.Conn side answer, []) ∷ [])
check_silent side e conn.Connected h = record { read = refl; given = refl; made = refl; connected = rw h refl }
check_silent side e conn.Pending h = record { read = refl; given = refl; made = refl; connected = refl }
check_silent side e conn.Failed h = record { read = refl; given = refl; made = refl; connected = refl }

check_tells : (side : SideId) (answer : ConnAnswer) → is_connected side ((entry.Conn side answer, []) ∷ []) ≡ ends.is_connected answer
check_tells side conn.Connected = let same = same_self side in rw same refl
check_tells side conn.Pending = refl
check_tells side conn.Failed = refl

pub check_stands : (closing : Bool) (waits : List Bool) (ls : List TurnLine) (t : Trace) (side : SideId) (l : LinksState) →
    LinksStand closing waits ls t l →
    LinksStand closing waits ls (t ++ (entry.Conn side (conn_answer_at l side), []) ∷ []) (at_end side after_check l)
check_stands closing waits ls t side l h =
    let u : Trace = (entry.Conn side (conn_answer_at l side), []) ∷ [] in
    at_end_stands closing waits ls t u side after_check l refl (λ e other. check_silent side e (conn_answer_at l side) other)
    (λ s found k.
    let is : u ≡ (entry.Conn side (conn_answer s), []) ∷ [] = ap (λ (o : Option EndState).
    (entry.Conn side (option_map_or conn_answer o conn.Pending), []) ∷ []) found in
    let tells : is_connected side u ≡ ends.is_connected (conn_answer s) = ap (is_connected side) is ∙ check_tells side (conn_answer s) in
    end_event closing waits ls t u side s (after_check s) k refl (sym (append-nil s.taken)) (same_said s _ _ _ _ _) k.may_take
    (sym (or_false s.tally.made_connected))
    (ap (λ z. s.tally.connected || z) (sym tells)))
    h

-- Writes

write_silent : (side e : SideId) (offered : ℕ) (answer : WriteAnswer) (bytes : List ℕ) → same_end side e ≡ false → Silent e
    ((entry.Write side offered answer, bytes) ∷ [])
write_silent side e offered (write.Took n) bytes h = record { read = refl; given = rw h refl; made = refl; connected = refl }
write_silent side e offered write.NotYet bytes h = record { read = refl; given = refl; made = refl; connected = refl }
write_silent side e offered write.Failed bytes h = record { read = refl; given = refl; made = refl; connected = refl }
write_silent side e offered write.NoMemory bytes h = record { read = refl; given = refl; made = refl; connected = refl }

-- a write took the bytes that were offered, up to what may be taken
write_bytes : (side : SideId) (from : List ℕ) (s : EndState) →
    bytes_given side ((
      entry.Write side (length from) (write_answer s (length from)),
      took_bytes (write_answer s (length from))
          from,
    ) ∷ []) ≡ take (taken_of s.may_take (length from)) from
write_bytes side from s =
    elim (eqb_tells (taken_of s.may_take (length from)) 0) [
      | inl none ↦ elim (cases_Bool s.write_fails) [
        | inl fails ↦ rw (none.0, none.1, fails) refl
        | inr fails
            ↦ rw (none.0, none.1, fails) refl
      ]
      | inr some ↦ let same = same_self side in rw (some.0, same) (append-nil (take (taken_of s.may_take (length from)) from))
    ]

-- what may be taken is what it was, less those bytes
write_leaves : (o : Option ℕ) (any : Bool) (sum : ℕ) (taken from : List ℕ) → length (taken ++ take (taken_of o (length from)) from)
    < 2 ^ 64 - 1 → MayTake o any sum (length taken) →
    MayTake (left_to_take o (length from)) any sum (length (taken ++ take (taken_of o (length from)) from))
write_leaves None any sum taken from within h = h
write_leaves (Some k) any sum taken from within h =
    let both = length-append taken (take (min (length from) k) from) in
    let part = length-take (min (length from) k) from in
    let long : length (taken ++ take (min (length from) k) from) ≡ length taken + min (length from) k = omega (arith, both, part) in (
      h.0,
      subst (TakesOn (k - length from) sum) (sym long) (takes-write k sum (length taken) (length from) h.1
          (subst (λ n. n < 2 ^ 64 - 1) long within)),
    )

pub write_stands : (closing : Bool) (waits : List Bool) (ls : List TurnLine) (t : Trace) (side : SideId) (from : List ℕ)
    (l : LinksState) → length
    (taken_at (at_end side (λ s. after_write s from) l) side) < 2 ^ 64 - 1 → LinksStand closing waits ls t l →
    LinksStand closing waits ls (t ++ (
      entry.Write side (length from) (write_answer_at l side (length from)),
      took_bytes
          (write_answer_at l side (length from)) from,
    ) ∷ []) (at_end side (λ s. after_write s from) l)
write_stands closing waits ls t side from l within h =
    let answer = write_answer_at l side (length from) in
    let u : Trace = (entry.Write side (length from) answer, took_bytes answer from) ∷ [] in
    at_end_stands closing waits ls t u side (λ s. after_write s from) l refl (λ e other. write_silent side e (length from) answer
    (took_bytes answer from) other)
    (λ s found k.
    let is : u ≡ (entry.Write side (length from) (write_answer s (length from)), took_bytes (write_answer s (length from)) from) ∷ [] =
    ap (λ (o : Option EndState). (
      entry.Write side (length from) (option_map_or (λ (x : EndState). write_answer x (length from)) o
          (beyond_answer l.closing (length from))),
      took_bytes (option_map_or (λ (x : EndState). write_answer x (length from)) o (beyond_answer l.closing (length from))) from,
    ) ∷ []) found in
    let gave : bytes_given side u ≡ take (taken_of s.may_take (length from)) from = ap (bytes_given side) is ∙ write_bytes side from s in
    let here : end_of (at_end side (λ s. after_write s from) l) side ≡ Some (after_write s from) =
    slice_get-changed_same (λ s. after_write s from) l.ends (number side) ∙ ap (option_map (λ s. after_write s from)) found in
    let fits : length (after_write s from).taken < 2 ^ 64 - 1 = subst (λ (o : Option EndState). length
    (option_map_or (λ (x : EndState). x.taken) o []) < 2 ^ 64 - 1) here within in
    end_event closing waits ls t u side s (after_write s from) k refl (ap (λ z. s.taken ++ z) (sym gave)) (same_said s _ _ _ _ _)
    (write_leaves s.may_take (closing || list_any (allows_all side) ls) (sum_by (allows side) ls) s.taken from fits k.may_take)
    (sym (or_false s.tally.made_connected)) (sym (or_false s.tally.connected)))
    h

-- Accepts

-- a name of an end of a link, by its side
ends_apart : (link : ℕ) (e : SideId) → same_end (record { link = link; side = In }) e ≡ false → same_end
    (record { link = link; side = Out }) e ≡ false → (link == e.link) ≡ false
ends_apart link e h k = elim (eqb_tells link e.link) [
  | inl t ↦ by_side e.side (sym (ap (λ b. b && same_side In e.side) t.0) ∙ h)
      (sym (ap (λ b. b && same_side Out e.side) t.0) ∙ k)
  | inr t ↦ t.0
]
  where
    by_side : (side : Side) → same_side In side ≡ false → same_side Out side ≡ false → (link == e.link) ≡ false
    by_side In p q = absurd (cc)
    by_side Out p q = absurd (cc)

module _ (closing : Bool) (waits : List Bool) (ls : List TurnLine) (t : Trace) (l : LinksState) (wait : Bool) (later : List Bool) (link : ℕ)
    (h : LinksStand closing waits ls t l) (waiting : l.waiting ≡ wait ∷ later) where
  abbrev opens : Trace
  opens = (entry.Opened link (not wait), []) ∷ []

  lasts : length (wait ∷ later) ≡ length (flat_map links_by ls) - opened t
  lasts = ap length (sym waiting ∙ h.waiting) ∙ length-drop (opened t) (flat_map links_by ls)

  count : opened (t ++ opens) ≡ opened t + 1
  count = let parts = sum_by-append (λ x. if is_opened x then 1 else 0) t opens in omega (arith, parts)

  new_waiting : later ≡ drop (opened (t ++ opens)) (flat_map links_by ls)
  new_waiting = ap (drop 1) (sym waiting ∙ h.waiting) ∙ drop-drop 1 (opened t) (flat_map links_by ls) ∙ ap
      (λ n. drop n (flat_map links_by ls)) (sym count)

  new_in_order : opened (t ++ opens) ≤ length (flat_map links_by ls)
  new_in_order = let long = lasts in let n = count in let before = h.in_order in omega (arith, long, n, before)

  abbrev in_end : SideId
  in_end = record { link = link; side = In }

  abbrev out_end : SideId
  out_end = record { link = link; side = Out }

  same_link : (link == link) ≡ true
  same_link = elim (eqb_tells link link) [ inl t ↦ t.0 | inr t ↦ absurd (t.1 refl) ]

  in_stands : (s : EndState) → EndStands closing waits ls t in_end s → EndStands closing waits ls (t ++ opens) in_end (accepted true s)
  in_stands s k =
      let same = same_link in
      end_event closing waits ls t opens in_end s (accepted true s) k refl (sym (append-nil s.taken)) (same_said s _ _ _ _ _) k.may_take
      (rw same refl) (sym (or_false s.tally.connected))

  out_stands : (s : EndState) → EndStands closing waits ls t out_end s →
      EndStands closing waits ls (t ++ opens) out_end (accepted (not wait) s)
  out_stands s k =
      let same = same_link in
      let plain = or_false (not wait) in
      end_event closing waits ls t opens out_end s (accepted (not wait) s) k refl (sym (append-nil s.taken)) (same_said s _ _ _ _ _)
      k.may_take (rw (same, plain) refl) (sym (or_false s.tally.connected))

  opens_silent : (e : SideId) → same_end in_end e ≡ false → same_end out_end e ≡ false → Silent e opens
  opens_silent e p q = let other = ends_apart link e p q in record { read = refl; given = refl; made = rw other refl; connected = refl }

  pub accept_stands : LinksStand closing waits ls (t ++ opens) (accept_first link (wait ∷ later) l)
  accept_stands = record {
    is_closing = h.is_closing;
    in_order = new_in_order;
    waiting = new_waiting;
    ends = λ e s found. at_out e s (end_changed out_end e (accepted (not wait)) (at_end in_end (accepted true)
        (record l { waiting = later })) s found);
    beyond = λ e found.
        h.beyond e (none_changed in_end e (accepted true) (record l { waiting = later }) (none_changed out_end e
        (accepted (not wait)) (at_end in_end (accepted true) (record l { waiting = later })) found));
  }
    where
      at_in : (e : SideId) (s : EndState) → same_end out_end e ≡ false →
          ((same_end in_end e ≡ true) × ((old : EndState) × (end_of l e ≡ Some old) × (s ≡ accepted true old))) ⊎
          ((same_end in_end e ≡ false) × (end_of l e ≡ Some s)) → EndStands closing waits ls (t ++ opens) e s
      at_in e s other (inl own) =
          let is : in_end ≡ e = same_end-eq in_end e own.0 in
          subst (λ z. EndStands closing waits ls (t ++ opens) e z) (sym own.1.2)
          (subst (λ z. EndStands closing waits ls (t ++ opens) z (accepted true own.1.0)) is (in_stands own.1.0
          (subst (λ z. EndStands closing waits ls t z own.1.0) (sym is) (h.ends e own.1.0 own.1.1))))
      at_in e s other (inr same) = end_silent closing waits ls t opens e s s (opens_silent e same.0 other) (as_before s) (h.ends e s same.1)

      not_both : (e : SideId) → same_end out_end e ≡ true → same_end in_end e ≡ false
      not_both e o =
          elim (same_end_tells in_end e) [
            | inl i ↦ elim (same_end_tells out_end e) [
              | inl p ↦ absurd (let a = i.1 in let b = p.1 in omega (arith, a, b))
              | inr p
                  ↦ absurd (let b = p.0 in cc)
            ]
            | inr i ↦ i.0
          ]

      at_out : (e : SideId) (s : EndState) →
          ((same_end out_end e ≡ true) × ((old : EndState) × (end_of (at_end in_end (accepted true) (record l { waiting = later }))
          e ≡ Some old) × (s ≡ accepted (not wait) old)))
          ⊎ ((same_end out_end e ≡ false) × (end_of (at_end in_end (accepted true) (record l { waiting = later })) e ≡ Some s)) →
          EndStands closing waits ls (t ++ opens) e s
      at_out e s (inl own) =
          let is : out_end ≡ e = same_end-eq out_end e own.0 in
          let found : end_of l e ≡ Some own.1.0 =
          sym (slice_get-changed_other (accepted true) l.ends (number in_end) (number e) (λ q. elim (same_end_tells in_end e)
          [ inl i ↦ absurd (let a = i.0 in let b = not_both e own.0 in cc) | inr i ↦ i.1 (sym q) ])) ∙ own.1.1 in
          subst (λ z. EndStands closing waits ls (t ++ opens) e z) (sym own.1.2)
          (subst (λ z. EndStands closing waits ls (t ++ opens) z (accepted (not wait) own.1.0)) is
          (out_stands own.1.0 (subst (λ z. EndStands closing waits ls t z own.1.0) (sym is) (h.ends e own.1.0 found))))
      at_out e s (inr same) = at_in e s same.0 (end_changed in_end e (accepted true) (record l { waiting = later }) s same.1)
