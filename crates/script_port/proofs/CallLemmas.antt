-- What the calls of a script port tell of its ends.
use Rattle.std.proofs.Common.{◌≡◌, ◌≢◌, ℕ, Bool, true, false, ◌&&◌, ◌||◌, not, List, [], ◌∷◌, ◌++◌, length, take, drop, map, Option, Some}
use Rattle.std.proofs.Common.{None, refl, sym, ap, subst, ◌∙◌, arith, append-nil, inl, inr}
use Rattle.std.specs.Prelude.{slice_get, option_map}
use Rattle.std.specs.Option.{option_map_or}
use Rattle.std.proofs.lemmas.Bool.{cases_Bool}
use Rattle.std.proofs.lemmas.Bool.Decides.{eqb_tells}
use Rattle.ev_types.specs.declared.side.Side.TheVariants.{In, Out}
use Rattle.ev_types.specs.declared.side.SideId.{SideId}
use Rattle.ev_types.specs.Sides.{number, same_end}
use Rattle.ev_types.specs.declared.answer.ConnAnswer.{ConnAnswer}
use Rattle.ev_types.specs.declared.answer.ConnAnswer.TheVariants as conn
use Rattle.ev_types.specs.declared.answer.ReadAnswer.{ReadAnswer}
use Rattle.ev_types.specs.declared.answer.ReadAnswer.TheVariants as read
use Rattle.ev_types.specs.declared.answer.WriteAnswer.{WriteAnswer}
use Rattle.ev_types.specs.declared.answer.WriteAnswer.TheVariants as write
use Rattle.ev_types.specs.declared.turn_line.TurnLine.{TurnLine}
use Rattle.ev_types.specs.declared.turn_line.TurnLine.TheVariants as line
use Rattle.ev_port.specs.declared.port.Want.{Want}
use Rattle.ev_port.specs.EndSteps.{EndStep, no_step, EndWent, EndsWent, AllWent}
use Rattle.ev_port.specs.Calls.{accept_step}
use Rattle.ev_port.specs.Ends.{conn_step, is_failed_conn, read_step, is_failed_read, is_ended, got_bytes, write_step, is_failed_write}
use Rattle.ev_port.specs.Ends.{took_bytes, close_write_step, close_step}
use Rattle.script_port.specs.ScriptState.{EndState, LinksState, LinksKept, PortState}
use Rattle.script_port.specs.EndTallies.{with_read, with_write, with_check, with_fault}
use Rattle.script_port.specs.ScriptEnds.{end_after_line, read_answer, after_read, taken_of, left_to_take, write_answer, after_write}
use Rattle.script_port.specs.ScriptEnds.{conn_answer, after_check, accepted, after_close_write, after_close, wanted}
use Rattle.script_port.specs.FailedCalls.{failed_read, failed_write, failed_check}
use Rattle.script_port.specs.ScriptLinks.{changed, at_end, out_end, end_of, after_line, after_lines, entered, after_wants, accept_answer}
use Rattle.script_port.specs.ScriptLinks.{accept_first, read_answer_at, pending_at, beyond_answer, write_answer_at, WroteAt, conn_answer_at}
use Rattle.script_port.specs.ScriptKept.{Brings}
use Rattle.script_port.specs.ScriptClosing.{closing_end, is_announced}
use Rattle.script_port.specs.ScriptPort.{begin_behind, begin_turn}
use Rattle.script_port.specs.ScriptTold.{told_of_end, nothing_told, ends_told}
use Rattle.script_port.proofs.ListLemmas.{length-changed, slice_get-mapped, slice_get-changed_same, slice_get-changed_other}
use Rattle.ev_port.proofs.StepLemmas.{adds_none, raises_none, counts_none, counts_more, EndWent-none}
use Rattle.script_port.proofs.ToldLemmas.{same_end_tells, went_if, ends_step, kept_at_end}

-- The bytes to come stay

-- a call changes the states of the ends and not what is to come
pub still_brings : (xs : List TurnLine) (l : LinksKept) (s : LinksState) → length s.ends ≡ length l.state.ends → Brings xs l →
    Brings xs (record l { state = s })
still_brings xs l s e b = record { links = b.links; bytes = b.bytes; ends = e ∙ b.ends }

pub length-at_end : (end : SideId) (f : EndState → EndState) (l : LinksState) → length (at_end end f l).ends ≡ length l.ends
length-at_end end f l = length-changed f l.ends (number end)

pub length-after_wants : (ws : List Want) (l : LinksState) → length (after_wants ws l).ends ≡ length l.ends
length-after_wants [] l = refl
length-after_wants (w ∷ ws) l = length-after_wants ws (at_end w.side (wanted w) l) ∙ length-at_end w.side (wanted w) l

pub length-accept_first : (link : ℕ) (ws : List Bool) (l : LinksState) → length (accept_first link ws l).ends ≡ length l.ends
length-accept_first link [] l = refl
length-accept_first link (wait ∷ ws) l =
    length-at_end (record { link = link; side = Out }) (accepted (not wait)) (at_end (record { link = link; side = In })
    (accepted true) (record l { waiting = ws })) ∙ length-at_end (record { link = link; side = In }) (accepted true)
    (record l { waiting = ws })

pub length-wrote : (old new : LinksState) (e : SideId) (from : List ℕ) (answer : WriteAnswer) → WroteAt old new e from answer →
    length new.ends ≡ length old.ends
length-wrote old new e from write.NoMemory w = ap (λ (l : LinksState). length l.ends) w.0
length-wrote old new e from (write.Took n) w = ap (λ (l : LinksState). length l.ends) w.0 ∙ length-at_end e (λ s. after_write s from) old
length-wrote old new e from write.NotYet w = ap (λ (l : LinksState). length l.ends) w.0 ∙ length-at_end e (λ s. after_write s from) old
length-wrote old new e from write.Failed w = ap (λ (l : LinksState). length l.ends) w.0 ∙ length-at_end e (λ s. after_write s from) old

-- Lines

-- what no line changes of the end that it names is as before
pub lines_keep : {X : Type 0} (g : EndState → X) (d : X) → ((turn : Option ℕ) (x : TurnLine) (s : EndState) → g
    (end_after_line turn x s) ≡ g s) → (xs : List TurnLine) (l : LinksState) (e : SideId) →
    option_map_or g (end_of (after_lines xs l) e) d ≡ option_map_or g (end_of l e) d
lines_keep g d h [] l e = refl
lines_keep g d h (x ∷ xs) l e = lines_keep g d h xs (after_line x l) e ∙ one x
  where
    one : (y : TurnLine) → option_map_or g (end_of (after_line y l) e) d ≡ option_map_or g (end_of l e) d
    one (line.NewLink wait) = refl
    one line.PollFail = refl
    one (line.Conn link connected) = kept_at_end g d l (out_end link) e (end_after_line l.turn (line.Conn link connected))
        (h l.turn (line.Conn link connected))
    one (line.Pending side bytes) = kept_at_end g d l side e (end_after_line l.turn (line.Pending side bytes))
        (h l.turn (line.Pending side bytes))
    one (line.Eof side) = kept_at_end g d l side e (end_after_line l.turn (line.Eof side)) (h l.turn (line.Eof side))
    one (line.ReadFail side) = kept_at_end g d l side e (end_after_line l.turn (line.ReadFail side)) (h l.turn (line.ReadFail side))
    one (line.Take side more) = kept_at_end g d l side e (end_after_line l.turn (line.Take side more)) (h l.turn (line.Take side more))
    one (line.WriteFail side) = kept_at_end g d l side e (end_after_line l.turn (line.WriteFail side)) (h l.turn (line.WriteFail side))
    one (line.Spur side) = kept_at_end g d l side e (end_after_line l.turn (line.Spur side)) (h l.turn (line.Spur side))

line_untold : (turn : Option ℕ) (x : TurnLine) (s : EndState) → told_of_end (end_after_line turn x s) ≡ told_of_end s
line_untold turn (line.NewLink wait) s = refl
line_untold turn line.PollFail s = refl
line_untold turn (line.Conn link connected) s = refl
line_untold turn (line.Pending side bytes) s = refl
line_untold turn (line.Eof side) s = refl
line_untold turn (line.ReadFail side) s = refl
line_untold turn (line.Take side more) s = refl
line_untold turn (line.WriteFail side) s = refl
line_untold turn (line.Spur side) s = refl

-- what closing turns leave of an end is as before
pub closing_keeps : {X : Type 0} (g : EndState → X) (d : X) → ((s : EndState) → g (closing_end s) ≡ g s) → (l : LinksState) (e : SideId) →
    option_map_or g (slice_get (map closing_end l.ends) (number e)) d ≡ option_map_or g (end_of l e) d
closing_keeps g d h l e = ap (λ o. option_map_or g o d) (slice_get-mapped closing_end l.ends (number e)) ∙ by_end (end_of l e)
  where
    by_end : (o : Option EndState) → option_map_or g (option_map closing_end o) d ≡ option_map_or g o d
    by_end None = refl
    by_end (Some s) = h s

pub turn_untold : (turn : Option (ℕ × List TurnLine)) (p : PortState) (e : SideId) → ends_told (begin_turn turn p).links e ≡
    ends_told p.links e
turn_untold None p e = behind (is_announced p)
  where
    behind : (b : Bool) → ends_told (begin_behind b p).links e ≡ ends_told p.links e
    behind false = refl
    behind true = closing_keeps told_of_end nothing_told (λ s. refl) p.links e
turn_untold (Some turn) p e = lines_keep told_of_end nothing_told line_untold turn.1 (entered (Some p.begun) p.links) e

-- One end

-- a read gave these bytes and was answered so; whether that is counted as a fault is not told
read_counted : (s new : EndState) (got pending : List ℕ) (is_fault : Bool) (answer : ReadAnswer) (room : ℕ) (step : EndStep) →
    new ≡ record s { given = s.given ++ got; pending = pending; tally = with_fault is_fault (with_read answer room s.tally) } →
    step ≡ record no_step { got = got; ended = is_ended answer; reads = 1; room = room } → EndWent (told_of_end s) (told_of_end new) step
read_counted s new got pending is_fault answer room step q e = rw (q, e) (record {
  handed_out = refl;
  taken = adds_none s.taken;
  made_connected = raises_none s.tally.made_connected;
  ended = refl;
  connected = raises_none s.tally.connected;
  write_ended = raises_none s.tally.write_ended;
  closed = raises_none s.tally.closed;
  reads = counts_more s.tally.reads 1;
  writes = counts_none s.tally.writes;
  checks = counts_none s.tally.checks;
  rooms = counts_more s.tally.rooms room;
  offers = counts_none s.tally.offers;
  read_wants = counts_none s.tally.read_wants;
  write_wants = counts_none s.tally.write_wants;
  read_marks = counts_none s.tally.read_marks;
  write_marks = counts_none s.tally.write_marks;
})

-- a write took these bytes
write_counted : (s new : EndState) (took : List ℕ) (may_take : Option ℕ) (is_fault : Bool) (offer : ℕ) (step : EndStep) →
    new ≡ record s { taken = s.taken ++ took; may_take = may_take; tally = with_fault is_fault (with_write offer s.tally) } →
    step ≡ record no_step { took = took; writes = 1; offer = offer } → EndWent (told_of_end s) (told_of_end new) step
write_counted s new took may_take is_fault offer step q e = rw (q, e) (record {
  handed_out = adds_none s.given;
  taken = refl;
  made_connected = raises_none s.tally.made_connected;
  ended = raises_none s.tally.ended;
  connected = raises_none s.tally.connected;
  write_ended = raises_none s.tally.write_ended;
  closed = raises_none s.tally.closed;
  reads = counts_none s.tally.reads;
  writes = counts_more s.tally.writes 1;
  checks = counts_none s.tally.checks;
  rooms = counts_none s.tally.rooms;
  offers = counts_more s.tally.offers offer;
  read_wants = counts_none s.tally.read_wants;
  write_wants = counts_none s.tally.write_wants;
  read_marks = counts_none s.tally.read_marks;
  write_marks = counts_none s.tally.write_marks;
})

-- a connect check was answered so
check_counted : (s : EndState) (is_fault : Bool) (answer : ConnAnswer) → EndWent (told_of_end s)
    (told_of_end (record s { tally = with_fault is_fault (with_check answer s.tally) })) (conn_step answer)
check_counted s is_fault answer = record {
  handed_out = adds_none s.given;
  taken = adds_none s.taken;
  made_connected = raises_none s.tally.made_connected;
  ended = raises_none s.tally.ended;
  connected = refl;
  write_ended = raises_none s.tally.write_ended;
  closed = raises_none s.tally.closed;
  reads = counts_none s.tally.reads;
  writes = counts_none s.tally.writes;
  checks = counts_more s.tally.checks 1;
  rooms = counts_none s.tally.rooms;
  offers = counts_none s.tally.offers;
  read_wants = counts_none s.tally.read_wants;
  write_wants = counts_none s.tally.write_wants;
  read_marks = counts_none s.tally.read_marks;
  write_marks = counts_none s.tally.write_marks;
}

or-true : (b : Bool) → (b || true) ≡ true
or-true true = refl
or-true false = refl

pub close_write_went : (s : EndState) → EndWent (told_of_end s) (told_of_end (after_close_write s)) close_write_step
close_write_went s = record {
  handed_out = adds_none s.given;
  taken = adds_none s.taken;
  made_connected = raises_none s.tally.made_connected;
  ended = raises_none s.tally.ended;
  connected = raises_none s.tally.connected;
  write_ended = ap Some (sym (or-true s.tally.write_ended));
  closed = raises_none s.tally.closed;
  reads = counts_none s.tally.reads;
  writes = counts_none s.tally.writes;
  checks = counts_none s.tally.checks;
  rooms = counts_none s.tally.rooms;
  offers = counts_none s.tally.offers;
  read_wants = counts_none s.tally.read_wants;
  write_wants = counts_none s.tally.write_wants;
  read_marks = counts_none s.tally.read_marks;
  write_marks = counts_none s.tally.write_marks;
}

pub close_went : (s : EndState) → EndWent (told_of_end s) (told_of_end (after_close s)) close_step
close_went s = record {
  handed_out = adds_none s.given;
  taken = adds_none s.taken;
  made_connected = raises_none s.tally.made_connected;
  ended = raises_none s.tally.ended;
  connected = raises_none s.tally.connected;
  write_ended = raises_none s.tally.write_ended;
  closed = ap Some (sym (or-true s.tally.closed));
  reads = counts_none s.tally.reads;
  writes = counts_none s.tally.writes;
  checks = counts_none s.tally.checks;
  rooms = counts_none s.tally.rooms;
  offers = counts_none s.tally.offers;
  read_wants = counts_none s.tally.read_wants;
  write_wants = counts_none s.tally.write_wants;
  read_marks = counts_none s.tally.read_marks;
  write_marks = counts_none s.tally.write_marks;
}

accept_went : (s : EndState) (made : Bool) → EndWent (told_of_end s) (told_of_end (accepted made s))
    (record no_step { made_connected = made })
accept_went s made = record {
  handed_out = adds_none s.given;
  taken = adds_none s.taken;
  made_connected = refl;
  ended = raises_none s.tally.ended;
  connected = raises_none s.tally.connected;
  write_ended = raises_none s.tally.write_ended;
  closed = raises_none s.tally.closed;
  reads = counts_none s.tally.reads;
  writes = counts_none s.tally.writes;
  checks = counts_none s.tally.checks;
  rooms = counts_none s.tally.rooms;
  offers = counts_none s.tally.offers;
  read_wants = counts_none s.tally.read_wants;
  write_wants = counts_none s.tally.write_wants;
  read_marks = counts_none s.tally.read_marks;
  write_marks = counts_none s.tally.write_marks;
}

-- Reads, writes and checks

read_is : (l : LinksState) (end : SideId) (s : EndState) (answer : ReadAnswer) (into : List ℕ) (room : ℕ) → end_of l end ≡ Some s →
    answer ≡ read_answer_at l end room → got_bytes answer into ≡ take room (pending_at l end) → length into ≡ room →
    read_step answer into ≡ record no_step { got = take room s.pending; ended = is_ended (read_answer s room); reads = 1; room = room }
read_is l end s answer into room found a g n =
    let got : got_bytes answer into ≡ take room s.pending = g ∙ ap
    (λ o. take room (option_map_or (λ (t : EndState). t.pending) o [])) found in
    let same : answer ≡ read_answer s room = a ∙ ap (λ o. option_map_or (λ (t : EndState). read_answer t room) o read.NotYet) found in
    λ i. record no_step { got = got i; ended = is_ended (same i); reads = 1; room = n i }

pub read_ends : (l : LinksState) (end : SideId) (answer : ReadAnswer) (into : List ℕ) (room : ℕ) → answer ≡ read_answer_at l end
    room → got_bytes answer into ≡ take room (pending_at l end) → length into ≡ room →
    EndsWent (ends_told l) (ends_told (at_end end (λ s. after_read s room) l)) end (read_step answer into)
read_ends l end answer into room a g n =
    ends_step l end (λ s. after_read s room) (read_step answer into)
    (λ s found.
    read_counted s (after_read s room) (take room s.pending) (drop room s.pending) (is_failed_read (read_answer s room))
    (read_answer s room) room (read_step answer into) refl
    (read_is l end s answer into room found a g n))

pub check_ends : (l : LinksState) (end : SideId) (answer : ConnAnswer) → answer ≡ conn_answer_at l end → EndsWent (ends_told l)
    (ends_told (at_end end after_check l)) end (conn_step answer)
check_ends l end answer a =
    ends_step l end after_check (conn_step answer) (λ s found.
    let same : conn_answer s ≡ answer = sym (a ∙ ap (λ o. option_map_or conn_answer o conn.Pending) found) in
    subst (λ z. EndWent (told_of_end s) (told_of_end (after_check s)) (conn_step z)) same (check_counted s
    (is_failed_conn (conn_answer s)) (conn_answer s)))

took_is : (s : EndState) (from : List ℕ) → took_bytes (write_answer s (length from)) from ≡ take (taken_of s.may_take (length from)) from
took_is s from =
    elim (eqb_tells (taken_of s.may_take (length from)) 0) [
      | inl none ↦ elim (cases_Bool s.write_fails) [ inl fails ↦ rw (none.0, none.1, fails) | inr fails ↦ rw (none.0, none.1, fails) ]
      | inr some ↦ rw some.0
    ]

took_ends : (old new : LinksState) (e : SideId) (from : List ℕ) (answer : WriteAnswer) → write_step answer from ≡
    record no_step { took = took_bytes answer from; writes = 1; offer = length from } → new ≡ at_end e (λ s. after_write s from)
    old → answer ≡ write_answer_at old e (length from) →
    EndsWent (ends_told old) (ends_told new) e (write_step answer from)
took_ends old new e from answer is w a =
    rw w
    (ends_step old e (λ s. after_write s from) (write_step answer from) (λ s found.
    let same : answer ≡ write_answer s (length from) = a ∙ ap (λ o. option_map_or (λ (t : EndState). write_answer t (length from))
    o (beyond_answer old.closing (length from))) found in
    let took : took_bytes answer from ≡ take (taken_of s.may_take (length from)) from = ap (λ b. took_bytes b from) same ∙ took_is s from in
    write_counted s (after_write s from) (take (taken_of s.may_take (length from)) from) (left_to_take s.may_take (length from))
    (is_failed_write (write_answer s (length from))) (length from) (write_step answer from) refl (is ∙ rw took)))

pub wrote_ends : (old new : LinksState) (e : SideId) (from : List ℕ) (answer : WriteAnswer) → WroteAt old new e from answer →
    EndsWent (ends_told old) (ends_told new) e (write_step answer from)
wrote_ends old new e from write.NoMemory w = rw w.0
    (record { own = EndWent-none (ends_told old e); others = λ x differs. EndWent-none (ends_told old x) })
wrote_ends old new e from (write.Took n) w = took_ends old new e from (write.Took n) refl w.0 w.1
wrote_ends old new e from write.NotYet w = took_ends old new e from write.NotYet refl w.0 w.1
wrote_ends old new e from write.Failed w = took_ends old new e from write.Failed refl w.0 w.1

-- Calls that fail with nothing asked of the script

pub failed_read_ends : (l : LinksState) (end : SideId) (into : List ℕ) (room : ℕ) → length into ≡ room → EndsWent (ends_told l)
    (ends_told (at_end end (failed_read room) l)) end (read_step read.Failed into)
failed_read_ends l end into room n =
    ends_step l end (failed_read room) (read_step read.Failed into)
    (λ s found.
    read_counted s (failed_read room s) [] s.pending false read.Failed room (read_step read.Failed into)
    (ap (λ z. record s { given = z; tally = with_read read.Failed room s.tally }) (sym (append-nil s.given)))
    (λ i. record no_step { got = []; ended = false; reads = 1; room = n i }))

pub failed_write_ends : (l : LinksState) (end : SideId) (from : List ℕ) → EndsWent (ends_told l)
    (ends_told (at_end end (failed_write (length from)) l)) end (write_step write.Failed from)
failed_write_ends l end from =
    ends_step l end (failed_write (length from)) (write_step write.Failed from)
    (λ s found.
    write_counted s (failed_write (length from) s) [] s.may_take false (length from) (write_step write.Failed from)
    (ap (λ z. record s { taken = z; tally = with_write (length from) s.tally }) (sym (append-nil s.taken))) refl)

pub failed_check_ends : (l : LinksState) (end : SideId) → EndsWent (ends_told l) (ends_told (at_end end failed_check l)) end
    (conn_step conn.Failed)
failed_check_ends l end = ends_step l end failed_check (conn_step conn.Failed) (λ s found. check_counted s false conn.Failed)

-- Accepts

made_if : (made : Bool) (o : Option EndState) → EndWent (option_map_or told_of_end o nothing_told)
    (option_map_or told_of_end (option_map (accepted made) o) nothing_told) (record no_step { made_connected = made })
made_if made o = went_if (accepted made) (record no_step { made_connected = made }) o (λ s _. accept_went s made)

-- the ends of a link that was accepted
both_made : (i o e : SideId) (made : Bool) (l : LinksState) → number i ≢ number o →
    EndWent (ends_told l e) (ends_told (at_end o (accepted made) (at_end i (accepted true) l)) e)
    (record no_step { made_connected = same_end e i || (same_end e o && made) })
both_made i o e made l apart =
    elim (same_end_tells e i) [
      | inl is_in ↦
          let not_out = slice_get-changed_other (accepted made) (changed (number i) (accepted true) l.ends) (number o) (number e)
          (λ q. apart (sym is_in.1 ∙ q)) in
          let here = slice_get-changed_same (accepted true) l.ends (number i) in
          rw (is_in.0, not_out, is_in.1, here) (made_if true (slice_get l.ends (number i)))
      | inr not_in ↦
          let not_changed = slice_get-changed_other (accepted true) l.ends (number i) (number e) not_in.1 in
          elim (same_end_tells e o) [
            | inl is_out ↦
                let here = slice_get-changed_same (accepted made) (changed (number i) (accepted true) l.ends) (number o) in
                let before = slice_get-changed_other (accepted true) l.ends (number i) (number o) (λ q. not_in.1 (is_out.1 ∙ q)) in
                rw (not_in.0, is_out.0, is_out.1, here, before) (made_if made (slice_get l.ends (number o)))
            | inr not_out ↦
                let elsewhere = slice_get-changed_other (accepted made) (changed (number i) (accepted true) l.ends) (number o)
                (number e) not_out.1 in
                rw (not_in.0, not_out.0, elsewhere, not_changed) (EndWent-none (ends_told l e))
          ]
    ]

pub accept_ends : (link : ℕ) (ws : List Bool) (l : LinksState) → AllWent (ends_told l) (ends_told (accept_first link ws l))
    (accept_step link (accept_answer ws))
accept_ends link [] l = λ e. EndWent-none (ends_told l e)
accept_ends link (wait ∷ ws) l = λ e.
    both_made (record { link = link; side = In }) (record { link = link; side = Out }) e (not wait) (record l { waiting = ws })
    (λ q. absurd (omega arith))
