-- What one call of the port lets the counts of faults say.
use Rattle.std.specs.List.{list_all}
use Rattle.relay_model.specs.Plays.{is_served}
use Rattle.std.proofs.Common.{◌≡◌, ℕ, Bool, true, false, ◌&&◌, ◌||◌, List, [], ◌∷◌, length, Option, refl, sym, subst, arith}
use Rattle.ev_port.specs.FaultCounts.{Counted}
use Rattle.ev_types.specs.declared.side.SideId.{SideId}
use Rattle.ev_types.specs.declared.answer.ConnAnswer.{ConnAnswer}
use Rattle.ev_types.specs.declared.answer.ConnAnswer.TheVariants as conn
use Rattle.ev_types.specs.declared.answer.ReadAnswer.{ReadAnswer}
use Rattle.ev_types.specs.declared.answer.ReadAnswer.TheVariants as read
use Rattle.ev_types.specs.declared.answer.WriteAnswer.{WriteAnswer}
use Rattle.ev_types.specs.declared.answer.WriteAnswer.TheVariants as write
use Rattle.ev_types.specs.declared.entry.Entry.TheVariants as entry
use Rattle.ev_types.specs.Sides.{same_end}
use Rattle.ev_types.specs.Trace.{Trace}
use Rattle.ev_types.specs.Growth.{Grew}
use Rattle.ev_port.specs.Vouching.{LongerBy}
use Rattle.ev_port.specs.Faults.{Faults, EndFaults, FaultsStay, ListenerFaults}
use Rattle.ev_types.specs.Told.{EndTold, PortTold}
use Rattle.ev_port.specs.EndSteps.{EndsWent, AllWent, PortStays}
use Rattle.ev_port.specs.Ends.{is_failed_conn, conn_events, is_failed_read, read_events, is_failed_write, write_step, write_events}
use Rattle.ev_port.specs.Ends.{took_bytes}
use Rattle.ev_port.specs.Counting.{counted}
use Rattle.relay_state.specs.State.{State}
use Rattle.relay_steps.proofs.FrameLemmas.{frame-conn, frame-read, frame-write}
use Rattle.relay_drive.specs.declared.run.Run.{Run}
use Rattle.relay_drive.specs.Calls.{is_memory, after_conn, after_read, after_write}
use Rattle.relay_model.specs.Told.{has_failed}
use Rattle.relay_drive.specs.Advances.{Advances, Heard, has_poll_failed}
use Rattle.relay_drive.proofs.EndNames.{same_end-true, same_end-false}
use Rattle.relay_drive.specs.Known.{Point, known}
use Rattle.relay_drive.proofs.CalmLemmas.{calm_list, served_list, still, Same}
use Rattle.relay_drive.proofs.TiedLemmas.{step_of, one_end, write_says}
use Rattle.relay_drive.proofs.TookLemmas.{WaitsNoMore}
use Rattle.relay_drive.proofs.KnownLemmas.{known_served}
use Rattle.relay_drive.proofs.GoesLemmas.{Counted-same, goes_some}

-- Counts

or_false : (b : Bool) → b || false ≡ b
or_false true = refl
or_false false = refl

Heard-end : (f g : Faults) (end : SideId) (is_fault : Bool) (a : Trace) → EndFaults f g end is_fault →
    ((e : SideId) → has_failed e a ≡ is_fault && same_end end e) → has_poll_failed a ≡ false → Heard f g a false
Heard-end f g end is_fault a h each none = record {
  ends = λ e. subst (λ z. Counted (f.ends e) (g.ends e) z) (sym (each e)) (go e is_fault (same_end end e) refl h.own);
  polling = subst (λ z. Counted f.polling g.polling z) (sym none) (Counted-same f.polling g.polling h.polling);
  listener = Counted-same f.listener g.listener h.listener;
}
  where
    go : (e : SideId) (p q : Bool) → same_end end e ≡ q → Counted (f.ends end) (g.ends end) p → Counted (f.ends e) (g.ends e) (p && q)
    go e true true k o = subst (λ x. Counted (f.ends x) (g.ends x) true) (sym (same_end-true end e k)) o
    go e false true k o = subst (λ x. Counted (f.ends x) (g.ends x) false) (sym (same_end-true end e k)) o
    go e true false k o = Counted-same (f.ends e) (g.ends e) (h.others e (same_end-false end e k))
    go e false false k o = Counted-same (f.ends e) (g.ends e) (h.others e (same_end-false end e k))

pub Heard-read : (f g : Faults) (end : SideId) (into : List ℕ) (answer : ReadAnswer) → EndFaults f g end (is_failed_read answer) →
    Heard f g (read_events end into answer) false
Heard-read f g end into (read.Got n) h = Heard-end f g end false (read_events end into (read.Got n)) h (λ e. refl) refl
Heard-read f g end into read.Ended h = Heard-end f g end false (read_events end into read.Ended) h (λ e. refl) refl
Heard-read f g end into read.NotYet h = Heard-end f g end false (read_events end into read.NotYet) h (λ e. refl) refl
Heard-read f g end into read.Failed h = Heard-end f g end true (read_events end into read.Failed) h (λ e. or_false (same_end end e)) refl

pub Heard-write : (f g : Faults) (end : SideId) (from : List ℕ) (answer : WriteAnswer) →
    EndFaults f g end (is_failed_write answer) → Heard f g (write_events end from answer) false
Heard-write f g end from (write.Took n) h = Heard-end f g end false (write_events end from (write.Took n)) h (λ e. refl) refl
Heard-write f g end from write.NotYet h = Heard-end f g end false (write_events end from write.NotYet) h (λ e. refl) refl
Heard-write f g end from write.Failed h =
    Heard-end f g end true (write_events end from write.Failed) h (λ e. or_false (same_end end e)) refl
Heard-write f g end from write.NoMemory h = Heard-end f g end false [] h (λ e. refl) refl

pub Heard-conn : (f g : Faults) (end : SideId) (answer : ConnAnswer) → EndFaults f g end (is_failed_conn answer) →
    Heard f g (conn_events end answer) false
Heard-conn f g end conn.Connected h = Heard-end f g end false (conn_events end conn.Connected) h (λ e. refl) refl
Heard-conn f g end conn.Pending h = Heard-end f g end false (conn_events end conn.Pending) h (λ e. refl) refl
Heard-conn f g end conn.Failed h = Heard-end f g end true (conn_events end conn.Failed) h (λ e. or_false (same_end end e)) refl

-- an event that tells of no fault
pub Heard-quiet : (f g : Faults) (a : Trace) → FaultsStay f g → ((e : SideId) → has_failed e a ≡ false) →
    has_poll_failed a ≡ false → Heard f g a false
Heard-quiet f g a h each none = record {
  ends = λ e. subst (λ z. Counted (f.ends e) (g.ends e) z) (sym (each e)) (Counted-same (f.ends e) (g.ends e) (h.ends e));
  polling = subst (λ z. Counted f.polling g.polling z) (sym none) (Counted-same f.polling g.polling h.polling);
  listener = Counted-same f.listener g.listener h.listener;
}

-- an accept
pub Heard-open : (f g : Faults) (a : Trace) (is_fault : Bool) → ListenerFaults f g is_fault →
    ((e : SideId) → has_failed e a ≡ false) → has_poll_failed a ≡ false → Heard f g a is_fault
Heard-open f g a is_fault h each none = record {
  ends = λ e. subst (λ z. Counted (f.ends e) (g.ends e) z) (sym (each e)) (Counted-same (f.ends e) (g.ends e) (h.ends e));
  polling = subst (λ z. Counted f.polling g.polling z) (sym none) (Counted-same f.polling g.polling h.polling);
  listener = h.listener;
}

pub FaultsStay-same : (f : Faults) → FaultsStay f f
FaultsStay-same f = record { ends = λ e. refl; polling = refl; listener = refl }

-- entries behind accepting
pub goes_served : {Plan : Type 0} {R : State → Trace → State → Type 0} {p : Bool} {old new : Run} {v v' none_waits : Plan →
    Trace → Type 0} {told told' : PortTold} {ends ends' : SideId → EndTold} → WaitsNoMore none_waits →
    (l l' : Option Trace) (f f' : Faults) (a : Trace) → list_all is_served a ≡ true →
    R old.relay.state a new.relay.state → Same old.relay.state new.relay.state →
    counted new.entries 0 ≡ counted old.entries (length a) → Grew l l' a → LongerBy v v' a →
    AllWent ends ends' (λ e. step_of e a) → PortStays told told' → Heard f f' a p →
    Advances R p old new l l' (known Point.Accepted v none_waits told ends) (known Point.Accepted v' none_waits told' ends') f f'
goes_served {old = old} {v = v} {v' = v'} {none_waits = none_waits} {told = told} {told' = told'} {ends = ends} {ends' = ends'}
    waits l l' f f' a served does same entries list longer went stays heard =
    goes_some l l' f f' a (still a (calm_list a (served_list a served))) does same entries list
    (λ t fits. known_served old.relay.state.settings v v' none_waits told told' ends ends' t waits a served longer went stays) heard

-- and one entry
pub goes_once : {Plan : Type 0} {R : State → Trace → State → Type 0} {p : Bool} {old new : Run} {v v' none_waits : Plan → Trace →
    Type 0} {told told' : PortTold} {ends ends' : SideId → EndTold} → WaitsNoMore none_waits →
    (l l' : Option Trace) (f f' : Faults) (a : Trace) → list_all is_served a ≡ true →
    R old.relay.state a new.relay.state → Same old.relay.state new.relay.state → new.entries ≡ counted old.entries (length a) →
    Grew l l' a → LongerBy v v' a → AllWent ends ends' (λ e. step_of e a) → PortStays told told' → Heard f f' a p →
    Advances R p old new l l' (known Point.Accepted v none_waits told ends) (known Point.Accepted v' none_waits told' ends') f f'
goes_once waits l l' f f' a served does same entries list longer went stays heard =
    goes_served waits l l' f f' a served does same (omega (arith, entries)) list longer went stays heard

-- What calls leave as it is

pub conn_same : (s : State) (e : SideId) (answer : ConnAnswer) → Same s (after_conn s e answer)
conn_same s e answer = let f = frame-conn s e answer in record { time = f.time; opened = f.opened; settings = f.settings }

pub read_same : (s : State) (e : SideId) (answer : ReadAnswer) (bytes : List ℕ) → Same s (after_read s e answer bytes)
read_same s e answer bytes = let f = frame-read s e answer bytes in record { time = f.time; opened = f.opened; settings = f.settings }

pub write_same : (s : State) (e : SideId) (answer : WriteAnswer) → Same s (after_write s e answer)
write_same s e answer = let f = frame-write s e answer in record { time = f.time; opened = f.opened; settings = f.settings }

pub same_as : (s new is : State) → new ≡ is → Same s is → Same s new
same_as s new is e h = subst (Same s) (sym e) h

-- a write answered with want of memory is no step
pub no_write : {Plan : Type 0} (v v' : Plan → Trace → Type 0) (e : SideId) (from : List ℕ) (answer : WriteAnswer) →
    is_memory answer ≡ true → LongerBy v v' (write_events e from answer) → LongerBy v v' []
no_write v v' e from write.NoMemory m h = h
no_write v v' e from (write.Took n) m h = absurd (cc)
no_write v v' e from write.NotYet m h = absurd (cc)
no_write v v' e from write.Failed m h = absurd (cc)

pub no_write_ends : (ends ends' : SideId → EndTold) (end : SideId) (from : List ℕ) (answer : WriteAnswer) →
    is_memory answer ≡ true → EndsWent ends ends' end (write_step answer from) → AllWent ends ends' (λ e. step_of e [])
no_write_ends ends ends' end from write.NoMemory m h =
    one_end ends ends' end (write_step write.NoMemory from) [] (λ e. write_says end e from write.NoMemory) h
no_write_ends ends ends' end from (write.Took n) m h = absurd (cc)
no_write_ends ends ends' end from write.NotYet m h = absurd (cc)
no_write_ends ends ends' end from write.Failed m h = absurd (cc)

pub memory_is : (f g : Faults) (e : SideId) (from : List ℕ) (answer : WriteAnswer) → is_memory answer ≡ true →
    EndFaults f g e (is_failed_write answer) → Heard f g [] false
memory_is f g e from write.NoMemory m h = Heard-write f g e from write.NoMemory h
memory_is f g e from (write.Took n) m h = absurd (cc)
memory_is f g e from write.NotYet m h = absurd (cc)
memory_is f g e from write.Failed m h = absurd (cc)

-- every other write is one entry
pub some_write : (e : SideId) (from : List ℕ) (answer : WriteAnswer) → is_memory answer ≡ false →
    write_events e from answer ≡ (entry.Write e (length from) answer, took_bytes answer from) ∷ []
some_write e from write.NoMemory m = absurd (cc)
some_write e from (write.Took n) m = refl
some_write e from write.NotYet m = refl
some_write e from write.Failed m = refl
