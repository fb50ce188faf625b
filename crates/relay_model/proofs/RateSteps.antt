-- What a step of a turn moves is at most what the bucket of the side holds, and nothing is moved once hooks were asked.
use Rattle.std.proofs.Common.{◌≡◌, inl, inr, ℕ, ◌*◌, ◌≤◌, min, Bool, true, false, if◌then◌else◌, List, [], ◌∷◌, length, Option, Some, None}
use Rattle.std.proofs.Common.{option_map, fold, refl, sym, ◌∙◌, ap, subst, arith}
use Rattle.std.specs.Prelude.{nat_eq}
use Rattle.std.proofs.lemmas.Bool.Decides.{eqb_tells}
use Rattle.std.proofs.lemmas.List.{get_or_past}
use Rattle.token_bucket.specs.declared.limit.Dir.{Dir}
use Rattle.token_bucket.specs.declared.limit.Dir.TheVariants as dir
use Rattle.ev_types.specs.declared.side.SideId.{SideId}
use Rattle.ev_types.specs.declared.act.Act.{Act}
use Rattle.ev_types.specs.declared.act.Act.TheVariants as act
use Rattle.ev_types.specs.declared.answer.AskAnswer.{AskAnswer}
use Rattle.ev_types.specs.declared.answer.AskAnswer.TheVariants as ask
use Rattle.ev_types.specs.declared.answer.ReadAnswer.{ReadAnswer}
use Rattle.ev_types.specs.declared.answer.ReadAnswer.TheVariants as read
use Rattle.ev_types.specs.declared.answer.WriteAnswer.{WriteAnswer}
use Rattle.ev_types.specs.declared.answer.WriteAnswer.TheVariants as write
use Rattle.ev_types.specs.declared.entry.Entry.{Entry}
use Rattle.ev_types.specs.declared.entry.Entry.TheVariants as entry
use Rattle.ev_types.specs.Sides.{number, same_end}
use Rattle.ev_types.specs.Trace.{Event, Trace}
use Rattle.relay_model.specs.Settings.{Settings}
use Rattle.relay_model.specs.Due.{Reason}
use Rattle.relay_model.specs.Plain.{Plain, Standing, no_side, side_at}
use Rattle.relay_model.specs.Rates.{standing_level, moved_by}
use Rattle.relay_model.specs.Past.{Past, past}
use Rattle.relay_model.specs.Rooms.{allowance, share, at_most, within_rates, read_room, write_room, may_read, may_write}
use Rattle.relay_model.specs.Serve.{CarriesGot, CarriesTook}
use Rattle.relay_model.specs.Stages.{Fire, Halt, Stage, State, after_ask}
use Rattle.relay_model.specs.Turn.{Puts, Quietly, after_fire}
use Rattle.relay_model.specs.RatesKept.{time_by, is_rate_ask}
use Rattle.relay_model.proofs.EndLemmas.{same_end-eq}
use Rattle.relay_model.proofs.PastLemmas.{is_still}
use Rattle.relay_model.proofs.ClosingEntries.{closes, closing-closes, closes-still, still-no_time}
use Rattle.relay_model.proofs.StepLemmas.{read-called, write-called}
use Rattle.relay_model.proofs.SpellLemmas.{turn_moves-none}
use Rattle.relay_model.proofs.RatesTold.{sets_limit}

-- Rooms

pub at_most-le : (most : Option ℕ) (n : ℕ) → at_most most n ≤ n
at_most-le None n = omega arith
at_most-le (Some m) n = omega arith

pub within-allowance : (g : Settings) (p : Past) (s : Plain) (e : SideId) (d : Dir) (n : ℕ) (y : Standing) → (side_at s e).limit ≡ Some y →
    within_rates g p s e d n ≤ standing_level y d (p.turns e d) s.time
within-allowance g p s e d n y is =
    let a : allowance p s e d ≡ Some (standing_level y d (p.turns e d) s.time) = ap (λ z. option_map
    (λ x. standing_level x d (p.turns e d) s.time) z) is in
    let b = at_most-le (share g p s e d) (at_most (allowance p s e d) n) in
    let c : at_most (allowance p s e d) n ≡ min (standing_level y d (p.turns e d) s.time) n = ap (λ z. at_most z n) a in
    omega (arith, b, c)

pub room-where : (b : Bool) (n most : ℕ) → n ≤ most → (if b then n else 0) ≤ most
room-where true n most h = h
room-where false n most h = omega arith

pub read_room-allowed : (g : Settings) (p : Past) (s : Plain) (e : SideId) (y : Standing) → (side_at s e).limit ≡ Some y →
    read_room g p s e ≤ standing_level y dir.Read (p.turns e dir.Read) s.time
read_room-allowed g p s e y is = room-where (may_read s e) _ _ (within-allowance g p s e dir.Read _ y is)

pub write_room-allowed : (g : Settings) (p : Past) (s : Plain) (e : SideId) (y : Standing) → (side_at s e).limit ≡ Some y →
    write_room g p s e ≤ standing_level y dir.Write (p.turns e dir.Write) s.time
write_room-allowed g p s e y is = room-where (may_write s e) _ _ (within-allowance g p s e dir.Write _ y is)

-- What is moved

pub moved-still : (e : SideId) (d : Dir) (x : Event) → is_still x ≡ true → moved_by e d x ≡ 0
moved-still e dir.Read (entry.Read side room (read.Got n), bytes) h = cc
moved-still e dir.Read _ h = refl
moved-still e dir.Write (entry.Write side offered (write.Took n), bytes) h = cc
moved-still e dir.Write _ h = refl

-- bytes that were got are within the room, and bytes that were taken within what was offered
pub got-within : (e side : SideId) (room most : ℕ) (answer : ReadAnswer) (bytes : List ℕ) → CarriesGot answer room bytes →
    (same_end side e ≡ true → room ≤ most) →
    moved_by e dir.Read (entry.Read side room answer, bytes) ≤ most
got-within e side room most (read.Got n) bytes h within = by_name (same_end side e) refl
  where
    by_name : (b : Bool) → same_end side e ≡ b → (if b then n else 0) ≤ most
    by_name true same = let k = within same in omega (arith, k, h.2)
    by_name false other = omega arith
got-within e side room most read.Ended bytes h within = omega arith
got-within e side room most read.NotYet bytes h within = omega arith
got-within e side room most read.Failed bytes h within = omega arith

pub took-within : (e side : SideId) (offered most : ℕ) (answer : WriteAnswer) (bytes : List ℕ) → CarriesTook answer offered bytes →
    (same_end side e ≡ true → offered ≤ most) →
    moved_by e dir.Write (entry.Write side offered answer, bytes) ≤ most
took-within e side offered most (write.Took n) bytes h within = by_name (same_end side e) refl
  where
    by_name : (b : Bool) → same_end side e ≡ b → (if b then n else 0) ≤ most
    by_name true same = let k = within same in omega (arith, k, h.2)
    by_name false other = omega arith
took-within e side offered most write.NotYet bytes h within = omega arith
took-within e side offered most write.Failed bytes h within = omega arith
took-within e side offered most write.NoMemory bytes h within = absurd h

-- nothing is moved by an entry that is still
pub none-within : (e : SideId) (d : Dir) (x : Event) (most : ℕ) → is_still x ≡ true → moved_by e d x ≤ most
none-within e d x most h = let k = moved-still e d x h in omega (arith, k)

pub read_put-within : (g : Settings) (t : Trace) (s : Plain) (e side : SideId) (d : Dir) (room : ℕ) (answer : ReadAnswer)
    (bytes : List ℕ) (y : Standing) → (side_at s e).limit ≡ Some y →
    room ≡ read_room g (past g t) s side → CarriesGot answer room bytes → moved_by e d (entry.Read side room answer, bytes) ≤
    standing_level y d ((past g t).turns e d) s.time
read_put-within g t s e side dir.Read room answer bytes y is asked carries =
    got-within e side room _ answer bytes carries
    (λ same. let k = read_room-allowed g (past g t) s e y is in let q = asked ∙ ap (λ z. read_room g (past g t) s z)
    (same_end-eq side e same) in omega (arith, k, q))
read_put-within g t s e side dir.Write room answer bytes y is asked carries = omega arith

pub write_put-within : (g : Settings) (t : Trace) (s : Plain) (e side : SideId) (d : Dir) (offered : ℕ) (answer : WriteAnswer)
    (bytes : List ℕ) (y : Standing) → (side_at s e).limit ≡ Some y →
    offered ≡ write_room g (past g t) s side → CarriesTook answer offered bytes → moved_by e d
    (entry.Write side offered answer, bytes) ≤ standing_level y d ((past g t).turns e d) s.time
write_put-within g t s e side dir.Read offered answer bytes y is asked carries = omega arith
write_put-within g t s e side dir.Write offered answer bytes y is asked carries =
    took-within e side offered _ answer bytes carries
    (λ same. let k = write_room-allowed g (past g t) s e y is in let q = asked ∙ ap (λ z. write_room g (past g t) s z)
    (same_end-eq side e same) in omega (arith, k, q))

-- What an entry moves at a side with a limit is at most what its bucket holds.
pub puts-within : (g : Settings) (t : Trace) (x : Stage) (s : Plain) (e' : Entry) (bytes : List ℕ) (new : State) (e : SideId)
    (d : Dir) (y : Standing) → Puts g t x s e' bytes new →
    (side_at s e).limit ≡ Some y → moved_by e d (e', bytes) ≤ standing_level y d ((past g t).turns e d) s.time
puts-within g t Stage.Between s (entry.Turn ms) bytes new e d y h is = let k = turn_moves-none e d ms bytes in omega (arith, k)
puts-within g t Stage.Polling s (entry.Poll timeout) bytes new e d y h is = none-within e d (entry.Poll timeout, bytes) _ refl
puts-within g t (Stage.Wanting (w ∷ ws)) s (entry.Want side r w') bytes new e d y h is = none-within e d
    (entry.Want side r w', bytes) _ refl
puts-within g t (Stage.Wanting []) s entry.PollFailed bytes new e d y h is = none-within e d (entry.PollFailed, bytes) _ refl
puts-within g t (Stage.Marking (w ∷ ws) marks) s (entry.Ready side r w') bytes new e d y h is = none-within e d
    (entry.Ready side r w', bytes) _ refl
puts-within g t (Stage.Accepting n marks) s (entry.Opened link connected) bytes new e d y h is = none-within e d
    (entry.Opened link connected, bytes) _ refl
puts-within g t (Stage.Serving (m ∷ ms)) s (entry.Conn side answer) bytes new e d y h is = none-within e d
    (entry.Conn side answer, bytes) _ refl
puts-within g t (Stage.Serving (m ∷ ms)) s (entry.Read side room answer) bytes new e d y h is = let called = read-called g
    (past g t) s m room h.1 in
    read_put-within g t s e side d room answer bytes y is (called.is_room ∙ ap (λ z. read_room g (past g t) s z) (sym h.0)) h.2
puts-within g t (Stage.Serving (m ∷ ms)) s (entry.Write side offered answer) bytes new e d y h is = let called = write-called g
    (past g t) s m offered h.1 in
    write_put-within g t s e side d offered answer bytes y is (called.is_offered ∙ ap (λ z. write_room g (past g t) s z) (sym h.0)) h.2
puts-within g t (Stage.Dispatching (r ∷ rs)) s (entry.Fired side y') bytes new e d y h is = none-within e d
    (entry.Fired side y', bytes) _ refl
puts-within g t (Stage.Firing x rs) s (entry.Asked side a answer) bytes new e d y h is = none-within e d
    (entry.Asked side a answer, bytes) _ refl
puts-within g t (Stage.Freeing gone x rs) s e' bytes new e d y h is = none-within e d (e', bytes) _
    (subst (λ z. is_still (z, bytes) ≡ true) (sym h.0) refl)
puts-within g t (Stage.Closing (c ∷ cs)) s e' bytes new e d y h is = none-within e d (e', bytes) _
    (closes-still e' bytes (closing-closes g (past g t) s c e' h.0))
puts-within g t _ s e' bytes new e d y h is = absurd h

-- The time of a turn is not below the last.
pub puts-later : (g : Settings) (t : Trace) (x : Stage) (s : Plain) (e : Entry) (bytes : List ℕ) (new : State) → Puts g t x s e
    bytes new → s.time ≤ time_by s.time (e, bytes)
puts-later g t Stage.Between s (entry.Turn ms) bytes new h = h.0
puts-later g t Stage.Polling s (entry.Poll timeout) bytes new h = omega arith
puts-later g t (Stage.Wanting (w ∷ ws)) s (entry.Want side r w') bytes new h = omega arith
puts-later g t (Stage.Wanting []) s entry.PollFailed bytes new h = omega arith
puts-later g t (Stage.Marking (w ∷ ws) marks) s (entry.Ready side r w') bytes new h = omega arith
puts-later g t (Stage.Accepting n marks) s (entry.Opened link connected) bytes new h = omega arith
puts-later g t (Stage.Serving (m ∷ ms)) s (entry.Conn side answer) bytes new h = omega arith
puts-later g t (Stage.Serving (m ∷ ms)) s (entry.Read side room answer) bytes new h = omega arith
puts-later g t (Stage.Serving (m ∷ ms)) s (entry.Write side offered answer) bytes new h = omega arith
puts-later g t (Stage.Dispatching (r ∷ rs)) s (entry.Fired side y') bytes new h = omega arith
puts-later g t (Stage.Firing x rs) s (entry.Asked side a answer) bytes new h = omega arith
puts-later g t (Stage.Freeing gone x rs) s e' bytes new h = subst (λ z. s.time ≤ time_by s.time (z, bytes)) (sym h.0) (omega arith)
puts-later g t (Stage.Closing (c ∷ cs)) s e' bytes new h = let k = still-no_time (e', bytes) s.time
    (closes-still e' bytes (closing-closes g (past g t) s c e' h.0)) in omega (arith, k)
puts-later g t _ s e' bytes new h = absurd h

-- A side whose limit stands is of a link that was opened: no link that opens is its link.
pub opens-another : (s : Plain) (e : SideId) (y : Standing) → length s.sides ≡ 2 * s.opened → (side_at s e).limit ≡ Some y → nat_eq
    s.opened e.link ≡ false
opens-another s e y paired is = elim (eqb_tells s.opened e.link) [ inl same ↦ absurd (nothing same.1) | inr other ↦ other.0 ]
  where
    nothing : s.opened ≡ e.link → ⊥
    nothing same =
        let none : side_at s e ≡ no_side = get_or_past s.sides (number e) no_side (omega (arith, paired, same)) in
        let bad : None ≡ Some y = sym (ap (λ z. z.limit) none) ∙ is in
        cc

pub closes-sets_none : (e : SideId) (z : Entry) (bytes : List ℕ) → closes z ≡ true → sets_limit e (z, bytes) ≡ false
closes-sets_none e (entry.Freed side why moved given) bytes k = refl
closes-sets_none e (entry.CloseWrite side) bytes k = refl
closes-sets_none e (entry.Close side) bytes k = refl
closes-sets_none e _ bytes k = cc

pub sets-none : (g : Settings) (t : Trace) (x : Stage) (s : Plain) (e' : Entry) (bytes : List ℕ) (new : State) (e : SideId)
    (y : Standing) → length s.sides ≡ 2 * s.opened →
    Puts g t x s e' bytes new → (side_at s e).limit ≡ Some y → is_rate_ask e (e', bytes) ≡ false → sets_limit e (e', bytes) ≡ false
sets-none g t Stage.Between s (entry.Turn ms) bytes new e y paired h is not_asked = not_asked
sets-none g t Stage.Polling s (entry.Poll timeout) bytes new e y paired h is not_asked = not_asked
sets-none g t (Stage.Wanting (w ∷ ws)) s (entry.Want side r w') bytes new e y paired h is not_asked = not_asked
sets-none g t (Stage.Wanting []) s entry.PollFailed bytes new e y paired h is not_asked = not_asked
sets-none g t (Stage.Marking (w ∷ ws) marks) s (entry.Ready side r w') bytes new e y paired h is not_asked = not_asked
sets-none g t (Stage.Accepting n marks) s (entry.Opened link connected) bytes new e y paired h is not_asked = ap
    (λ k. nat_eq k e.link) h.0 ∙ opens-another s e y paired is
sets-none g t (Stage.Serving (m ∷ ms)) s (entry.Conn side answer) bytes new e y paired h is not_asked = not_asked
sets-none g t (Stage.Serving (m ∷ ms)) s (entry.Read side room answer) bytes new e y paired h is not_asked = not_asked
sets-none g t (Stage.Serving (m ∷ ms)) s (entry.Write side offered answer) bytes new e y paired h is not_asked = not_asked
sets-none g t (Stage.Dispatching (r ∷ rs)) s (entry.Fired side y') bytes new e y paired h is not_asked = not_asked
sets-none g t (Stage.Firing x rs) s (entry.Asked side a answer) bytes new e y paired h is not_asked = not_asked
sets-none g t (Stage.Freeing gone x rs) s e' bytes new e y paired h is not_asked = subst (λ z. sets_limit e (z, bytes) ≡ false)
    (sym h.0) refl
sets-none g t (Stage.Closing (c ∷ cs)) s e' bytes new e y paired h is not_asked = closes-sets_none e e' bytes
    (closing-closes g (past g t) s c e' h.0)
sets-none g t _ s e' bytes new e y paired h is not_asked = absurd h

-- Hooks are asked behind all reads and writes of a turn.

-- was a hook asked in the turn that runs
abbrev pub asked_by : Bool → Event → Bool
asked_by was (entry.Turn ms, bytes) = false
asked_by was (entry.Asked side a answer, bytes) = true
asked_by was _ = was

abbrev pub was_asked : Bool → Trace → Bool
was_asked was t = fold (λ b x. asked_by b x) was t

-- has the turn come to the hooks
abbrev pub is_late : Stage → Bool
is_late Stage.Between = true
is_late (Stage.Dispatching rs) = true
is_late (Stage.Firing x rs) = true
is_late (Stage.Freeing gone x rs) = true
is_late (Stage.Passing xs es) = true
is_late (Stage.Closing cs) = true
is_late (Stage.Over why) = true
is_late _ = false

pub late-at : (x : Stage) (s : Plain) (new : State) → new ≡ record { stage = x; plain = s } → is_late x ≡ true → is_late new.stage ≡ true
late-at x s new e k = subst (λ z. is_late z.stage ≡ true) (sym e) k

pub late-fire : (x : Fire) (rs : List Reason) → is_late (after_fire x rs) ≡ true
late-fire x rs = by_flag x.stopped
  where
    by_flag : (b : Bool) → is_late (if b then Stage.Over (Halt.StoppedBy x.side.link) else Stage.Dispatching rs) ≡ true
    by_flag true = refl
    by_flag false = refl

pub late-quietly : (g : Settings) (t : Trace) (x : Stage) (s : Plain) (new : State) → is_late x ≡ true → Quietly g t x s new →
    is_late new.stage ≡ true
late-quietly g t (Stage.Firing x rs) s new late h = late-at _ _ new h (late-fire x rs)
late-quietly g t (Stage.Dispatching []) s new late h = late-at _ _ new h refl
late-quietly g t (Stage.Passing [] (e ∷ es)) s new late h = elim h [
  | inl passed ↦ late-at _ _ new passed.1 refl
  | inr begins
      ↦ late-at _ _ new begins refl
]
late-quietly g t (Stage.Passing (x ∷ xs) (e ∷ es)) s new late h = late-at _ _ new h refl
late-quietly g t (Stage.Passing [] []) s new late h = late-at _ _ new h refl
late-quietly g t (Stage.Closing (c ∷ cs)) s new late h = late-at _ _ new h.1 refl
late-quietly g t (Stage.Closing []) s new late h = late-at _ _ new h refl
late-quietly g t (Stage.Wanting ws) s new late h = cc
late-quietly g t (Stage.Marking ws marks) s new late h = cc
late-quietly g t (Stage.Accepting n marks) s new late h = cc
late-quietly g t (Stage.Serving ms) s new late h = cc
late-quietly g t (Stage.Filtering e ms) s new late h = cc
late-quietly g t _ s new late h = absurd h

pub late-ask : (x : Fire) (rs : List Reason) (a : Act) (answer : AskAnswer) → is_late (after_ask x rs a answer) ≡ true
late-ask x rs (act.Free e) ask.Ok = refl
late-ask x rs act.Stop ask.Ok = refl
late-ask x rs _ _ = refl

-- once a hook was asked in a turn, only what comes behind hooks follows
pub late-puts : (g : Settings) (t : Trace) (x : Stage) (s : Plain) (e : Entry) (bytes : List ℕ) (new : State) (was : Bool) →
    (was ≡ true → is_late x ≡ true) →
    Puts g t x s e bytes new → asked_by was (e, bytes) ≡ true → is_late new.stage ≡ true
late-puts g t (Stage.Dispatching (r ∷ rs)) s (entry.Fired side y) bytes new was late h k = late-at _ _ new h.3 refl
late-puts g t (Stage.Firing x rs) s (entry.Asked side a answer) bytes new was late h k = late-at _ _ new h.5 (late-ask _ rs a answer)
late-puts g t (Stage.Freeing gone x rs) s e bytes new was late h k = late-at _ _ new h.2 refl
late-puts g t (Stage.Closing (c ∷ cs)) s e bytes new was late h k = late-at _ _ new h.2 refl
late-puts g t Stage.Between s (entry.Turn ms) bytes new was late h k = cc
late-puts g t Stage.Polling s (entry.Poll timeout) bytes new was late h k = absurd (let bad = late k in cc)
late-puts g t (Stage.Wanting (w ∷ ws)) s (entry.Want side r w') bytes new was late h k = absurd (let bad = late k in cc)
late-puts g t (Stage.Wanting []) s entry.PollFailed bytes new was late h k = late-at _ _ new h.1 refl
late-puts g t (Stage.Marking (w ∷ ws) marks) s (entry.Ready side r w') bytes new was late h k = absurd (let bad = late k in cc)
late-puts g t (Stage.Accepting n marks) s (entry.Opened link connected) bytes new was late h k = absurd (let bad = late k in cc)
late-puts g t (Stage.Serving (m ∷ ms)) s (entry.Conn side answer) bytes new was late h k = absurd (let bad = late k in cc)
late-puts g t (Stage.Serving (m ∷ ms)) s (entry.Read side room answer) bytes new was late h k = absurd (let bad = late k in cc)
late-puts g t (Stage.Serving (m ∷ ms)) s (entry.Write side offered answer) bytes new was late h k = absurd (let bad = late k in cc)
late-puts g t _ s e bytes new was late h k = absurd h

-- nothing is moved there
pub late-moves_none : (g : Settings) (t : Trace) (x : Stage) (s : Plain) (e' : Entry) (bytes : List ℕ) (new : State) (e : SideId)
    (d : Dir) → is_late x ≡ true → Puts g t x s e' bytes new →
    moved_by e d (e', bytes) ≡ 0
late-moves_none g t Stage.Between s (entry.Turn ms) bytes new e d late h = turn_moves-none e d ms bytes
late-moves_none g t Stage.Polling s (entry.Poll timeout) bytes new e d late h = absurd (cc)
late-moves_none g t (Stage.Wanting (w ∷ ws)) s (entry.Want side r w') bytes new e d late h = absurd (cc)
late-moves_none g t (Stage.Wanting []) s entry.PollFailed bytes new e d late h = absurd (cc)
late-moves_none g t (Stage.Marking (w ∷ ws) marks) s (entry.Ready side r w') bytes new e d late h = absurd (cc)
late-moves_none g t (Stage.Accepting n marks) s (entry.Opened link connected) bytes new e d late h = absurd (cc)
late-moves_none g t (Stage.Serving (m ∷ ms)) s (entry.Conn side answer) bytes new e d late h = absurd (cc)
late-moves_none g t (Stage.Serving (m ∷ ms)) s (entry.Read side room answer) bytes new e d late h = absurd (cc)
late-moves_none g t (Stage.Serving (m ∷ ms)) s (entry.Write side offered answer) bytes new e d late h = absurd (cc)
late-moves_none g t (Stage.Dispatching (r ∷ rs)) s (entry.Fired side y') bytes new e d late h = moved-still e d
    (entry.Fired side y', bytes) refl
late-moves_none g t (Stage.Firing x rs) s (entry.Asked side a answer) bytes new e d late h = moved-still e d
    (entry.Asked side a answer, bytes) refl
late-moves_none g t (Stage.Freeing gone x rs) s e' bytes new e d late h = moved-still e d (e', bytes)
    (subst (λ z. is_still (z, bytes) ≡ true) (sym h.0) refl)
late-moves_none g t (Stage.Closing (c ∷ cs)) s e' bytes new e d late h = moved-still e d (e', bytes)
    (closes-still e' bytes (closing-closes g (past g t) s c e' h.0))
late-moves_none g t _ s e' bytes new e d late h = absurd h
