-- The bytes that stand beside an entry are as many as it says.
use Rattle.std.proofs.Common.{◌≡◌, ℕ, Bool, true, false, cond, List, [], ◌∷◌, length, codes, Option, Some, None, refl, sym, subst}
use Rattle.std.specs.Prelude.{IfSome, option_map, option_and_then}
use Rattle.std.specs.Str.{bytes_eq}
use Rattle.ev_types.specs.declared.side.Side.TheVariants.{Out}
use Rattle.ev_types.specs.declared.side.SideId.{SideId}
use Rattle.ev_types.specs.declared.entry.Entry.{Entry}
use Rattle.ev_types.specs.declared.entry.Entry.TheVariants as entry
use Rattle.ev_types.specs.declared.answer.ConnAnswer.{ConnAnswer}
use Rattle.ev_types.specs.declared.answer.ReadAnswer.{ReadAnswer}
use Rattle.ev_types.specs.declared.answer.ReadAnswer.TheVariants as read
use Rattle.ev_types.specs.declared.answer.WriteAnswer.{WriteAnswer}
use Rattle.ev_types.specs.declared.answer.WriteAnswer.TheVariants as write
use Rattle.ev_types.specs.Trace.{Event, bytes_beside}
use Rattle.script_text.specs.declared.entry_words.EntryKind.{EntryKind}
use Rattle.script_text.specs.declared.entry_words.EntryKind.TheVariants as kind
use Rattle.script_text.specs.Numbers.{any_number}
use Rattle.script_text.specs.Ends.{link_of, end_of}
use Rattle.script_text.specs.ValueGrammar.{lower_bytes_of, marks_of, conn_of, read_of, write_of, why_of, cause_of, ask_of}
use Rattle.script_text.specs.ActGrammar.{act_of}
use Rattle.script_text.specs.EntryGrammar as said

abbrev pub HasItsBytes : Event → Type 0
HasItsBytes event = length event.1 ≡ bytes_beside event.0

abbrev pub HasNone : Entry → Type 0
HasNone e = 0 ≡ bytes_beside e

some_map : {A B : Type 0} (P : B → Type 0) (f : A → B) → ((x : A) → P (f x)) → (o : Option A) → IfSome (option_map f o) P
some_map P f each None = tt
some_map P f each (Some x) = each x

some_then : {A B : Type 0} (P : B → Type 0) (f : A → Option B) → ((x : A) → IfSome (f x) P) → (o : Option A) →
    IfSome (option_and_then f o) P
some_then P f each None = tt
some_then P f each (Some x) = each x

some_if : {A : Type 0} (P : A → Type 0) (b : Bool) (x y : Option A) → IfSome x P → IfSome y P → IfSome (cond b x y) P
some_if P true x y px py = px
some_if P false x y px py = py

turn_said-none : (ws : List (List ℕ)) → IfSome (said.turn_said ws) HasNone
turn_said-none (ms ∷ []) = some_map HasNone (λ n. entry.Turn n) (λ n. refl) (any_number ms)
turn_said-none _ = tt

poll_said-none : (ws : List (List ℕ)) → IfSome (said.poll_said ws) HasNone
poll_said-none (word ∷ []) =
    let some : Option Entry = option_map (λ n. entry.Poll (Some n)) (any_number word) in
    some_if HasNone (bytes_eq word (codes "none")) (Some (entry.Poll None)) some refl
    (some_map HasNone (λ n. entry.Poll (Some n)) (λ n. refl) (any_number word))
poll_said-none _ = tt

want_said-none : (ws : List (List ℕ)) → IfSome (said.want_said ws) HasNone
want_said-none (link ∷ side ∷ marks ∷ []) =
    some_then HasNone (λ end. option_and_then (λ m. Some (entry.Want end m.0 m.1)) (marks_of marks))
    (λ end. some_then HasNone (λ m. Some (entry.Want end m.0 m.1)) (λ m. refl) (marks_of marks)) (end_of link side)
want_said-none _ = tt

ready_said-none : (ws : List (List ℕ)) → IfSome (said.ready_said ws) HasNone
ready_said-none (link ∷ side ∷ marks ∷ []) =
    some_then HasNone (λ end. option_and_then (λ m. Some (entry.Ready end m.0 m.1)) (marks_of marks))
    (λ end. some_then HasNone (λ m. Some (entry.Ready end m.0 m.1)) (λ m. refl) (marks_of marks)) (end_of link side)
ready_said-none _ = tt

poll_failed_said-none : (ws : List (List ℕ)) → IfSome (said.poll_failed_said ws) HasNone
poll_failed_said-none [] = refl
poll_failed_said-none _ = tt

opened_said-none : (ws : List (List ℕ)) → IfSome (said.opened_said ws) HasNone
opened_said-none (link ∷ []) = some_map HasNone (λ l. entry.Opened l true) (λ l. refl) (link_of link)
opened_said-none (link ∷ word ∷ []) =
    let some : Option Entry = option_map (λ l. entry.Opened l false) (link_of link) in
    some_if HasNone (bytes_eq word (codes "wait")) some None (some_map HasNone (λ l. entry.Opened l false) (λ l. refl) (link_of link)) tt
opened_said-none _ = tt

conn_said-none : (ws : List (List ℕ)) → IfSome (said.conn_said ws) HasNone
conn_said-none (link ∷ side ∷ word ∷ []) =
    let made : ℕ → ConnAnswer → Entry = λ l a. entry.Conn (record { link = l; side = Out }) a in
    let some : Option Entry = option_and_then (λ l. option_map (λ a. made l a) (conn_of word)) (link_of link) in
    some_if HasNone (bytes_eq side (codes "out")) some None
    (some_then HasNone (λ l. option_map (λ a. made l a) (conn_of word)) (λ l. some_map HasNone (λ a. made l a) (λ a. refl) (conn_of word))
    (link_of link)) tt
conn_said-none _ = tt

fired_said-none : (ws : List (List ℕ)) → IfSome (said.fired_said ws) HasNone
fired_said-none (link ∷ side ∷ word ∷ []) =
    some_then HasNone (λ end. option_and_then (λ why. Some (entry.Fired end why)) (why_of word))
    (λ end. some_then HasNone (λ why. Some (entry.Fired end why)) (λ why. refl) (why_of word)) (end_of link side)
fired_said-none _ = tt

asked_by-none : (end : SideId) (ws : List (List ℕ)) → IfSome (said.asked_by end ws) HasNone
asked_by-none end ws =
    some_then HasNone (λ w. option_and_then (λ act. option_and_then (λ answer. Some (entry.Asked end act answer)) (ask_of w.0))
    (act_of w.1))
    (λ w. some_then HasNone (λ act. option_and_then (λ answer. Some (entry.Asked end act answer)) (ask_of w.0))
    (λ act. some_then HasNone (λ answer. Some (entry.Asked end act answer)) (λ answer. refl) (ask_of w.0)) (act_of w.1))
    (said.last_and_front ws)

asked_said-none : (ws : List (List ℕ)) → IfSome (said.asked_said ws) HasNone
asked_said-none (link ∷ side ∷ more) = some_then HasNone (λ end. said.asked_by end more) (λ end. asked_by-none end more) (end_of link side)
asked_said-none _ = tt

freed_said-none : (ws : List (List ℕ)) → IfSome (said.freed_said ws) HasNone
freed_said-none (link ∷ side ∷ word ∷ moved ∷ given ∷ []) =
    some_then HasNone (λ end. option_and_then
    (λ cause. option_and_then (λ m. option_and_then (λ g. Some (entry.Freed end cause m g)) (any_number given)) (any_number moved))
    (cause_of word))
    (λ end. some_then HasNone
    (λ cause. option_and_then (λ m. option_and_then (λ g. Some (entry.Freed end cause m g)) (any_number given)) (any_number moved))
    (λ cause. some_then HasNone (λ m. option_and_then (λ g. Some (entry.Freed end cause m g)) (any_number given))
    (λ m. some_then HasNone (λ g. Some (entry.Freed end cause m g)) (λ g. refl) (any_number given)) (any_number moved)) (cause_of word))
    (end_of link side)
freed_said-none _ = tt

close_write_said-none : (ws : List (List ℕ)) → IfSome (said.close_write_said ws) HasNone
close_write_said-none (link ∷ side ∷ []) = some_map HasNone (λ e. entry.CloseWrite e) (λ e. refl) (end_of link side)
close_write_said-none _ = tt

close_said-none : (ws : List (List ℕ)) → IfSome (said.close_said ws) HasNone
close_said-none (link ∷ side ∷ []) = some_map HasNone (λ e. entry.Close e) (λ e. refl) (end_of link side)
close_said-none _ = tt

alone-beside : (o : Option Entry) → IfSome o HasNone → IfSome (said.alone o) HasItsBytes
alone-beside None none = tt
alone-beside (Some e) none = none

-- an answer of a read that got no bytes
read_of-none : (end : SideId) (room : ℕ) (word : List ℕ) → IfSome (read_of word) (λ answer. 0 ≡ bytes_beside (entry.Read end room answer))
read_of-none end room word =
    let P : ReadAnswer → Type 0 = λ answer. 0 ≡ bytes_beside (entry.Read end room answer) in
    some_if P (bytes_eq word (codes "end")) (Some read.Ended) _ refl
    (some_if P (bytes_eq word (codes "notyet")) (Some read.NotYet) _ refl
    (some_if P (bytes_eq word (codes "fail")) (Some read.Failed) None refl tt))

write_of-none : (end : SideId) (offered : ℕ) (word : List ℕ) →
    IfSome (write_of word) (λ answer. 0 ≡ bytes_beside (entry.Write end offered answer))
write_of-none end offered word =
    let P : WriteAnswer → Type 0 = λ answer. 0 ≡ bytes_beside (entry.Write end offered answer) in
    some_if P (bytes_eq word (codes "notyet")) (Some write.NotYet) _ refl
    (some_if P (bytes_eq word (codes "fail")) (Some write.Failed) None refl tt)

-- what holds of a value holds of what is made of it
some_made : {A B : Type 0} (P : A → Type 0) (Q : B → Type 0) (f : A → B) → ((x : A) → P x → Q (f x)) → (o : Option A) → IfSome o P →
    IfSome (option_and_then (λ x. Some (f x)) o) Q
some_made P Q f each None p = tt
some_made P Q f each (Some x) p = each x p

read_said-beside : (ws : List (List ℕ)) → IfSome (said.read_said ws) HasItsBytes
read_said-beside (link ∷ side ∷ room ∷ word ∷ []) =
    some_then HasItsBytes (λ asked. option_and_then (λ answer. Some (entry.Read asked.0 asked.1 answer, [])) (read_of word))
    (λ asked. some_made (λ answer. 0 ≡ bytes_beside (entry.Read asked.0 asked.1 answer)) HasItsBytes
    (λ answer. (entry.Read asked.0 asked.1 answer, []))
    (λ answer none. none) (read_of word) (read_of-none asked.0 asked.1 word)) (said.end_and_number_of link side room)
read_said-beside (link ∷ side ∷ room ∷ word ∷ digits ∷ []) =
    some_if HasItsBytes (bytes_eq word (codes "got")) (said.got_said link side room digits) None
    (some_then HasItsBytes
    (λ asked. option_and_then (λ bytes. Some (entry.Read asked.0 asked.1 (read.Got (length bytes)), bytes)) (lower_bytes_of digits))
    (λ asked. some_then HasItsBytes (λ bytes. Some (entry.Read asked.0 asked.1 (read.Got (length bytes)), bytes)) (λ bytes. refl)
    (lower_bytes_of digits)) (said.end_and_number_of link side room)) tt
read_said-beside _ = tt

write_said-beside : (ws : List (List ℕ)) → IfSome (said.write_said ws) HasItsBytes
write_said-beside (link ∷ side ∷ offered ∷ word ∷ []) =
    some_then HasItsBytes (λ asked. option_and_then (λ answer. Some (entry.Write asked.0 asked.1 answer, [])) (write_of word))
    (λ asked. some_made (λ answer. 0 ≡ bytes_beside (entry.Write asked.0 asked.1 answer)) HasItsBytes
    (λ answer. (entry.Write asked.0 asked.1 answer, []))
    (λ answer none. none) (write_of word) (write_of-none asked.0 asked.1 word)) (said.end_and_number_of link side offered)
write_said-beside (link ∷ side ∷ offered ∷ word ∷ digits ∷ []) =
    some_if HasItsBytes (bytes_eq word (codes "took")) (said.took_said link side offered digits) None
    (some_then HasItsBytes
    (λ asked. option_and_then (λ bytes. Some (entry.Write asked.0 asked.1 (write.Took (length bytes)), bytes)) (lower_bytes_of digits))
    (λ asked. some_then HasItsBytes (λ bytes. Some (entry.Write asked.0 asked.1 (write.Took (length bytes)), bytes)) (λ bytes. refl)
    (lower_bytes_of digits)) (said.end_and_number_of link side offered)) tt
write_said-beside _ = tt

event_by-beside : (kind : EntryKind) (ws : List (List ℕ)) → IfSome (said.event_by kind ws) HasItsBytes
event_by-beside kind.Turn ws = alone-beside (said.turn_said ws) (turn_said-none ws)
event_by-beside kind.Poll ws = alone-beside (said.poll_said ws) (poll_said-none ws)
event_by-beside kind.Want ws = alone-beside (said.want_said ws) (want_said-none ws)
event_by-beside kind.Ready ws = alone-beside (said.ready_said ws) (ready_said-none ws)
event_by-beside kind.PollFailed ws = alone-beside (said.poll_failed_said ws) (poll_failed_said-none ws)
event_by-beside kind.Opened ws = alone-beside (said.opened_said ws) (opened_said-none ws)
event_by-beside kind.Conn ws = alone-beside (said.conn_said ws) (conn_said-none ws)
event_by-beside kind.Read ws = read_said-beside ws
event_by-beside kind.Write ws = write_said-beside ws
event_by-beside kind.Fired ws = alone-beside (said.fired_said ws) (fired_said-none ws)
event_by-beside kind.Asked ws = alone-beside (said.asked_said ws) (asked_said-none ws)
event_by-beside kind.Freed ws = alone-beside (said.freed_said ws) (freed_said-none ws)
event_by-beside kind.CloseWrite ws = alone-beside (said.close_write_said ws) (close_write_said-none ws)
event_by-beside kind.Close ws = alone-beside (said.close_said ws) (close_said-none ws)

pub event_said-beside : (ws : List (List ℕ)) → IfSome (said.event_said ws) HasItsBytes
event_said-beside [] = tt
event_said-beside (first ∷ more) =
    some_then HasItsBytes (λ kind. said.event_by kind more) (λ kind. event_by-beside kind more) (said.kind_of first)

-- what a line says has its bytes beside it
pub beside_of : (ws : List (List ℕ)) (e : Entry) (bytes : List ℕ) → Some (e, bytes) ≡ said.event_said ws → length bytes ≡ bytes_beside e
beside_of ws e bytes is = let P : Option Event → Type 0 = λ o. IfSome o HasItsBytes in subst P (sym is) (event_said-beside ws)
