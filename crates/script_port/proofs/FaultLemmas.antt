-- Which calls of a script port are counted as faults.
use Rattle.std.proofs.Common.{◌≡◌, ℕ, suc, ◌-◌, ◌^◌, Bool, true, false, ◌==◌, ◌&&◌, not, if◌then◌else◌, List, [], ◌∷◌, length, Option}
use Rattle.std.proofs.Common.{Some, None, refl, ap, ◌∙◌, arith}
use Rattle.std.proofs.Common.{inl, inr}
use Rattle.std.specs.Prelude.{slice_get, option_map}
use Rattle.std.specs.Option.{option_map_or}
use Rattle.std.proofs.lemmas.Bool.Decides.{leb_tells}
use Rattle.ev_port.specs.FaultCounts.{Counted}
use Rattle.ev_types.specs.declared.side.Side.TheVariants.{In}
use Rattle.ev_types.specs.declared.side.SideId.{SideId}
use Rattle.ev_types.specs.Sides.{number}
use Rattle.ev_types.specs.declared.answer.ConnAnswer.{ConnAnswer}
use Rattle.ev_types.specs.declared.answer.ConnAnswer.TheVariants as conn
use Rattle.ev_types.specs.declared.answer.ReadAnswer.{ReadAnswer}
use Rattle.ev_types.specs.declared.answer.ReadAnswer.TheVariants as read
use Rattle.ev_types.specs.declared.answer.WriteAnswer.{WriteAnswer}
use Rattle.ev_types.specs.declared.answer.WriteAnswer.TheVariants as write
use Rattle.ev_types.specs.declared.turn_line.TurnLine.{TurnLine}
use Rattle.ev_types.specs.declared.turn_line.TurnLine.TheVariants as line
use Rattle.ev_port.specs.declared.port.Want.{Want}
use Rattle.ev_port.specs.declared.port.Polled.{Polled}
use Rattle.script_port.specs.declared.port_tally.PortTally.{PortTally}
use Rattle.ev_port.specs.Faults.{Faults, FaultsStay, EndFaults, PollFaults, ListenerFaults}
use Rattle.ev_port.specs.Counting.{risen_if}
use Rattle.ev_port.specs.Calls.{is_failed_accept}
use Rattle.ev_port.specs.Polling.{is_failed_poll}
use Rattle.ev_port.specs.Ends.{is_failed_conn, is_failed_read, is_failed_write}
use Rattle.script_port.specs.ScriptState.{EndState, LinksState, PortState}
use Rattle.script_port.specs.ScriptEnds.{end_after_line, read_answer, after_read, write_answer, after_write, conn_answer, after_check}
use Rattle.script_port.specs.ScriptEnds.{accepted, wanted}
use Rattle.script_port.specs.ScriptLinks.{end_of, at_end, out_end, entered, after_wants, accept_answer, accept_first, read_answer_at}
use Rattle.script_port.specs.ScriptLinks.{beyond_answer, write_answer_at, WroteAt, conn_answer_at}
use Rattle.script_port.specs.ScriptClosing.{is_announced}
use Rattle.script_port.specs.ScriptPort.{begin_behind, begin_turn, poll_answer, after_poll, accept_tally}
use Rattle.script_port.specs.ScriptTold.{script_faults}
use Rattle.script_port.proofs.ListLemmas.{slice_get-changed_same, slice_get-changed_other}
use Rattle.script_port.proofs.ToldLemmas.{other_number, kept_at_end}
use Rattle.script_port.proofs.CallLemmas.{lines_keep, closing_keeps}

-- A count

-- a count after a call that is a fault, or not
pub counted-risen : (is_fault : Bool) (n : ℕ) → Counted n (risen_if is_fault n) is_fault
counted-risen false n = record { later = omega arith; fault = λ h. absurd (cc); none = λ _. refl }
counted-risen true n =
    elim (leb_tells (suc n) (2 ^ 64 - 1)) [
      | inl less ↦ let it = less.1 in rw less.0 (record { later = omega arith; fault = λ _. omega arith; none = λ h. absurd (cc) })
      | inr most ↦ let it = most.1 in rw most.0 (record { later = omega arith; fault = λ _. omega (arith, it); none = λ h. absurd (cc) })
    ]

pub counted-none : (n : ℕ) → Counted n n false
counted-none n = counted-risen false n

-- what an end counted of faults
abbrev pub faults_at : LinksState → SideId → ℕ
faults_at l e = option_map_or (λ (s : EndState). s.tally.faults) (end_of l e) 0

-- what a port counts of faults whose ends are these, and in which so many polls failed
abbrev pub counts : LinksState → ℕ → Faults
counts l n = record { ends = faults_at l; polling = n; listener = 0 }

-- Calls that meet no fault

-- no end counts more, and no poll does
pub faults_stay : (l new : LinksState) (n : ℕ) → ((e : SideId) → faults_at new e ≡ faults_at l e) → FaultsStay (counts l n) (counts new n)
faults_stay l new n ends = record { ends = ends; polling = refl; listener = refl }

pub faults-at_end : (l : LinksState) (side : SideId) (f : EndState → EndState) → ((s : EndState) → (f s).tally.faults ≡
    s.tally.faults) → (e : SideId) → faults_at (at_end side f l) e ≡ faults_at l e
faults-at_end l side f h e = kept_at_end (λ (s : EndState). s.tally.faults) 0 l side e f h

line_counts_none : (turn : Option ℕ) (x : TurnLine) (s : EndState) → (end_after_line turn x s).tally.faults ≡ s.tally.faults
line_counts_none turn (line.NewLink wait) s = refl
line_counts_none turn line.PollFail s = refl
line_counts_none turn (line.Conn link connected) s = refl
line_counts_none turn (line.Pending side bytes) s = refl
line_counts_none turn (line.Eof side) s = refl
line_counts_none turn (line.ReadFail side) s = refl
line_counts_none turn (line.Take side more) s = refl
line_counts_none turn (line.WriteFail side) s = refl
line_counts_none turn (line.Spur side) s = refl

pub faults-turn : (turn : Option (ℕ × List TurnLine)) (p : PortState) (e : SideId) → faults_at (begin_turn turn p).links e ≡
    faults_at p.links e
faults-turn None p e = behind (is_announced p)
  where
    behind : (b : Bool) → faults_at (begin_behind b p).links e ≡ faults_at p.links e
    behind false = refl
    behind true = closing_keeps (λ (s : EndState). s.tally.faults) 0 (λ s. refl) p.links e
faults-turn (Some turn) p e = lines_keep (λ (s : EndState). s.tally.faults) 0 line_counts_none turn.1 (entered (Some p.begun) p.links) e

pub polls-turn : (turn : Option (ℕ × List TurnLine)) (p : PortState) → (begin_turn turn p).tally.poll_faults ≡ p.tally.poll_faults
polls-turn None p = behind (is_announced p)
  where
    behind : (b : Bool) → (begin_behind b p).tally.poll_faults ≡ p.tally.poll_faults
    behind false = refl
    behind true = refl
polls-turn (Some turn) p = refl

pub faults-wants : (ws : List Want) (l : LinksState) (e : SideId) → faults_at (after_wants ws l) e ≡ faults_at l e
faults-wants [] l e = refl
faults-wants (w ∷ ws) l e = faults-wants ws (at_end w.side (wanted w) l) e ∙ faults-at_end l w.side (wanted w) (λ s. refl) e

pub faults-accept : (link : ℕ) (ws : List Bool) (l : LinksState) (e : SideId) → faults_at (accept_first link ws l) e ≡ faults_at l e
faults-accept link [] l e = refl
faults-accept link (wait ∷ ws) l e =
    let fewer : LinksState = record l { waiting = ws } in
    let in_end : SideId = record { link = link; side = In } in
    faults-at_end (at_end in_end (accepted true) fewer) (out_end link) (accepted _) (λ s. refl) e ∙ faults-at_end fewer in_end
    (accepted true) (λ s. refl) e

accept_counts : (ws : List Bool) (l new : LinksState) (n link : ℕ) → new ≡ accept_first link ws l → ListenerFaults (counts l n)
    (counts new n) false
accept_counts ws l new n link links = record {
  ends = λ e. ap (λ z. faults_at z e) links ∙ faults-accept link ws l e;
  polling = refl;
  listener = counted-none 0;
}

-- no accept fails
pub never_failed : (ws : List Bool) (l new : LinksState) (t : PortTally) (link : ℕ) → new ≡ accept_first link ws l → ListenerFaults
    (counts l t.poll_faults) (counts new (accept_tally (accept_answer ws) t).poll_faults) (is_failed_accept (accept_answer ws))
never_failed [] l new t link links = accept_counts [] l new t.poll_faults link links
never_failed (wait ∷ ws) l new t link links = accept_counts (wait ∷ ws) l new t.poll_faults link links

-- Calls on one end

-- an end that is not there counts no fault and is answered by none
end_counts : (o : Option EndState) (f : EndState → EndState) (fails : EndState → Bool) → ((s : EndState) → (f s).tally.faults ≡
    risen_if (fails s) s.tally.faults) →
    Counted (option_map_or (λ (s : EndState). s.tally.faults) o 0) (option_map_or (λ (s : EndState). s.tally.faults)
    (option_map f o) 0) (option_map_or fails o false)
end_counts None f fails h = counted-none 0
end_counts (Some s) f fails h = rw (h s) (counted-risen (fails s) s.tally.faults)

end_faults : (l new : LinksState) (n : ℕ) (e : SideId) (f : EndState → EndState) (fails : EndState → Bool) (is_fault : Bool) → new
    ≡ at_end e f l → is_fault ≡ option_map_or fails (end_of l e) false →
    ((s : EndState) → (f s).tally.faults ≡ risen_if (fails s) s.tally.faults) → EndFaults (counts l n) (counts new n) e is_fault
end_faults l new n e f fails is_fault links is h = record {
  own =
      let here = slice_get-changed_same f l.ends (number e) in
      rw (links, is, here) (end_counts (slice_get l.ends (number e)) f fails h);
  others = λ x differs.
      let elsewhere = slice_get-changed_other f l.ends (number e) (number x) (other_number x e differs) in
      rw (links, elsewhere) refl;
  polling = refl;
  listener = refl;
}

-- a test of what an end answers
tested : {A : Type 0} (test : A → Bool) (answer : EndState → A) (none : A) (o : Option EndState) → test none ≡ false → test
    (option_map_or answer o none) ≡ option_map_or (λ s. test (answer s)) o false
tested test answer none None h = h
tested test answer none (Some s) h = refl

pub read_faults : (l new : LinksState) (n : ℕ) (e : SideId) (room : ℕ) (answer : ReadAnswer) → new ≡ at_end e
    (λ s. after_read s room) l → answer ≡ read_answer_at l e room → EndFaults (counts l n) (counts new n) e (is_failed_read answer)
read_faults l new n e room answer links is =
    end_faults l new n e (λ s. after_read s room) (λ s. is_failed_read (read_answer s room)) (is_failed_read answer) links
    (ap is_failed_read is ∙ tested is_failed_read (λ s. read_answer s room) read.NotYet (end_of l e) refl) (λ s. refl)

pub check_faults : (l new : LinksState) (n : ℕ) (e : SideId) (answer : ConnAnswer) → new ≡ at_end e after_check l → answer ≡
    conn_answer_at l e → EndFaults (counts l n) (counts new n) e (is_failed_conn answer)
check_faults l new n e answer links is =
    end_faults l new n e after_check (λ s. is_failed_conn (conn_answer s)) (is_failed_conn answer) links
    (ap is_failed_conn is ∙ tested is_failed_conn conn_answer conn.Pending (end_of l e) refl) (λ s. refl)

-- no write to an end of no link fails
beyond_none : (closing : Bool) (offer : ℕ) → is_failed_write (beyond_answer closing offer) ≡ false
beyond_none closing offer = by_test (closing && not (offer == 0))
  where
    by_test : (b : Bool) → is_failed_write (if b then write.Took offer else write.NotYet) ≡ false
    by_test true = refl
    by_test false = refl

answered_faults : (l new : LinksState) (n : ℕ) (e : SideId) (from : List ℕ) (answer : WriteAnswer) → new ≡ at_end e
    (λ s. after_write s from) l → answer ≡ write_answer_at l e (length from) → EndFaults (counts l n) (counts new n) e
    (is_failed_write answer)
answered_faults l new n e from answer links is =
    end_faults l new n e (λ s. after_write s from) (λ s. is_failed_write (write_answer s (length from))) (is_failed_write answer) links
    (ap is_failed_write is ∙ tested is_failed_write (λ s. write_answer s (length from)) (beyond_answer l.closing (length from))
    (end_of l e) (beyond_none l.closing (length from)))
    (λ s. refl)

pub write_faults : (l new : LinksState) (n : ℕ) (e : SideId) (from : List ℕ) (answer : WriteAnswer) → WroteAt l new e from answer →
    EndFaults (counts l n) (counts new n) e (is_failed_write answer)
write_faults l new n e from write.NoMemory w = record {
  own = rw w.0 (counted-none (faults_at l e));
  others = λ x differs. ap (λ z. faults_at z x) w.0;
  polling = refl;
  listener = refl;
}
write_faults l new n e from (write.Took k) w = answered_faults l new n e from (write.Took k) w.0 w.1
write_faults l new n e from write.NotYet w = answered_faults l new n e from write.NotYet w.0 w.1
write_faults l new n e from write.Failed w = answered_faults l new n e from write.Failed w.0 w.1

-- Polls

pub poll_counted : (p q : PortState) (ws : List Want) (accept : Bool) (timeout : Option ℕ) (answer : Polled) → q ≡ after_poll p ws
    accept timeout (poll_answer p accept) → answer ≡ poll_answer p accept → PollFaults (script_faults p) (script_faults q)
    (is_failed_poll answer)
poll_counted p q ws accept timeout answer after is = rw (after, is) (record {
  ends = λ e. faults-wants ws p.links e;
  polling = counted-risen (is_failed_poll (poll_answer p accept)) p.tally.poll_faults;
  listener = refl;
})
