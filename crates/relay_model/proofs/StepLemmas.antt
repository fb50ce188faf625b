-- Each step of a turn: what it leaves or changes of what closing looks at, and what the next stage names.
use Rattle.std.proofs.Common.{◌≡◌, ℕ, ◌*◌, ◌<◌, Bool, true, false, ◌&&◌, if◌then◌else◌, List, [], ◌∷◌, ◌++◌, length, refl, sym, ◌∙◌, ap}
use Rattle.std.proofs.Common.{subst, arith}
use Rattle.std.specs.Prelude.{nat_le}
use Rattle.ev_types.specs.declared.side.SideId.{SideId}
use Rattle.ev_types.specs.declared.answer.ReadAnswer.{ReadAnswer}
use Rattle.ev_types.specs.declared.answer.ReadAnswer.TheVariants as read
use Rattle.ev_types.specs.declared.why.Cause.TheVariants as cause
use Rattle.ev_types.specs.declared.entry.Entry.{Entry}
use Rattle.ev_types.specs.declared.entry.Entry.TheVariants as entry
use Rattle.ev_types.specs.Trace.{Event, Trace}
use Rattle.relay_model.specs.Settings.{Settings}
use Rattle.relay_model.specs.Plain.{Plain, is_live}
use Rattle.relay_model.specs.Past.{Past, past}
use Rattle.relay_model.specs.Rooms.{Want, is_connecting, may_read, may_write, read_room, write_room}
use Rattle.relay_model.specs.Serve.{Call, call_for}
use Rattle.relay_model.specs.Stages.{Stage, State, Between, Polling, Wanting, Marking, Accepting, Serving, Dispatching, Firing, Freeing}
use Rattle.relay_model.specs.Stages.{Closing}
use Rattle.relay_model.specs.Turn.{after_reading, Puts}
use Rattle.relay_model.specs.Told.{names, is_freeing}
use Rattle.relay_model.proofs.KeepsLemmas.{Keeps-refl}
use Rattle.relay_model.proofs.SeenLemmas.{seen}
use Rattle.relay_model.proofs.EffectLemmas.{Effect, IsIdle}
use Rattle.relay_model.proofs.PlacedLemmas.{Placed, live-there, room-read, room-write, may_read-parts, may_write-live, connecting-live}
use Rattle.relay_model.proofs.PutCases.{turn-effect, opened-effect}
use Rattle.relay_model.proofs.CloseCases.{closing-effect, asked-effect, freeing-effect}
use Rattle.relay_model.proofs.ServeCases.{named-one, conn-effect, read-effect, write-effect}
use Rattle.relay_model.proofs.PutLemmas.{IsPlainEvent, effect-keeps}

-- Entries

-- an entry by which the plain state stays as it was
same-effect : (g : Settings) (x : Stage) (s : Plain) (y : Event) (after : Stage) → IsPlainEvent y → ((e : SideId) → IsIdle e y) →
    ((e : SideId) → is_freeing after e ≡ false) → ((e : SideId) → is_freeing x e ≡ false) →
    ((e : SideId) → names e y ≡ true → e.link < s.opened) → Effect g x s y after s
same-effect g x s y after p idle still before named = effect-keeps g x s y after s (Keeps-refl seen s) p idle still before named

reading-still : (side : SideId) (answer : ReadAnswer) (ms : List Want) (e : SideId) → is_freeing (after_reading side answer ms) e ≡ false
reading-still side (read.Got n) ms e = refl
reading-still side read.Ended ms e = refl
reading-still side read.NotYet ms e = refl
reading-still side read.Failed ms e = refl

-- what a marked side is asked is asked of a live side
pub conn-live : (g : Settings) (p : Past) (s : Plain) (m : Want) → call_for g p s m ≡ Call.AskConnect → is_live s m.side ≡ true
conn-live g p s m h = go (is_connecting s m.side) refl m.write m.read h
  where
    go : (a : Bool) → is_connecting s m.side ≡ a → (b c : Bool) → (if a then (if b then Call.AskConnect else Call.Nothing)
        else (if c then (if nat_le 1 (read_room g p s m.side) then Call.AskRead (read_room g p s m.side) else Call.Nothing)
        else (if b && nat_le 1 (write_room g p s m.side) then Call.AskWrite (write_room g p s m.side) else Call.Nothing))) ≡
        Call.AskConnect → is_live s m.side ≡ true
    go true a b c h = connecting-live s m.side a
    go false a b c h = absurd (none b c (nat_le 1 (read_room g p s m.side)) (nat_le 1 (write_room g p s m.side)) h)
      where
        none : (b c d f : Bool) → (if c then (if d then Call.AskRead (read_room g p s m.side) else Call.Nothing)
            else (if b && f then Call.AskWrite (write_room g p s m.side) else Call.Nothing)) ≡ Call.AskConnect → ⊥
        none b true true f h = cc
        none b true false f h = cc
        none true false d true h = cc
        none true false d false h = cc
        none false false d f h = cc

-- what a read that is called for says of its side
pub record CalledRead (g : Settings) (p : Past) (s : Plain) (e : SideId) (room : ℕ) : Type 0 where
  pub may : may_read s e ≡ true
  pub is_room : room ≡ read_room g p s e

pub read-called : (g : Settings) (p : Past) (s : Plain) (m : Want) (room : ℕ) → call_for g p s m ≡ Call.AskRead room → CalledRead g
    p s m.side room
read-called g p s m room h = go (is_connecting s m.side) m.write m.read (nat_le 1 (read_room g p s m.side)) refl
    (nat_le 1 (write_room g p s m.side)) h
  where
    go : (a b c d : Bool) → nat_le 1 (read_room g p s m.side) ≡ d → (f : Bool) → (if a then (if b then Call.AskConnect else Call.Nothing)
        else (if c then (if d then Call.AskRead (read_room g p s m.side) else Call.Nothing)
        else (if b && f then Call.AskWrite (write_room g p s m.side) else Call.Nothing))) ≡ Call.AskRead room → CalledRead g p s m.side room
    go true true c d e f h = absurd (cc)
    go true false c d e f h = absurd (cc)
    go false b true true e f h = record { may = room-read g p s m.side e; is_room = cc }
    go false b true false e f h = absurd (cc)
    go false true false d e true h = absurd (cc)
    go false true false d e false h = absurd (cc)
    go false false false d e f h = absurd (cc)

pub record CalledWrite (g : Settings) (p : Past) (s : Plain) (e : SideId) (offered : ℕ) : Type 0 where
  pub may : may_write s e ≡ true
  pub is_offered : offered ≡ write_room g p s e

pub write-called : (g : Settings) (p : Past) (s : Plain) (m : Want) (offered : ℕ) → call_for g p s m ≡ Call.AskWrite offered →
    CalledWrite g p s m.side offered
write-called g p s m offered h = go (is_connecting s m.side) m.write m.read (nat_le 1 (read_room g p s m.side))
    (nat_le 1 (write_room g p s m.side)) refl h
  where
    go : (a b c d f : Bool) → nat_le 1 (write_room g p s m.side) ≡ f → (if a then (if b then Call.AskConnect else Call.Nothing)
        else (if c then (if d then Call.AskRead (read_room g p s m.side) else Call.Nothing)
        else (if b && f then Call.AskWrite (write_room g p s m.side) else Call.Nothing))) ≡ Call.AskWrite offered → CalledWrite g p
        s m.side offered
    go true true c d f e h = absurd (cc)
    go true false c d f e h = absurd (cc)
    go false b true true f e h = absurd (cc)
    go false b true false f e h = absurd (cc)
    go false true false d true e h = record { may = room-write g p s m.side e; is_offered = cc }
    go false true false d false e h = absurd (cc)
    go false false false d f e h = absurd (cc)

pub put-effect : (g : Settings) (t : Trace) (x : Stage) (s : Plain) (e : Entry) (bytes : List ℕ) (new : State) → length s.sides ≡ 2
    * s.opened → Placed x s → Puts g t x s e bytes new →
    Effect g x s (e, bytes) new.stage new.plain
put-effect g t Between s (entry.Turn ms) bytes new size placed h =
    subst (λ z. Effect g Between s (entry.Turn ms, bytes) z.stage z.plain) (sym h.3) (turn-effect g s ms bytes
    (past g (t ++ (entry.Turn ms, []) ∷ [])) h.0 h.1)
put-effect g t Polling s (entry.Poll timeout) bytes new size placed h =
    subst (λ z. Effect g Polling s (entry.Poll timeout, bytes) z.stage z.plain) (sym h.2)
    (same-effect g Polling s (entry.Poll timeout, bytes) _ (record { turn = refl; opens = refl; time = λ n. refl })
    (λ e. record { freed = refl; ended = refl; failed = refl; write_ended = refl; closed = refl }) (λ e. refl) (λ e. refl)
    (λ e k. absurd (cc)))
put-effect g t (Wanting (w ∷ ws)) s (entry.Want side r d) bytes new size placed h =
    let lt : side.link < s.opened = live-there s side size (ap (λ z. is_live s z) (sym (ap (λ z. z.side) h.0)) ∙ placed.0) in
    subst (λ z. Effect g (Wanting (w ∷ ws)) s (entry.Want side r d, bytes) z.stage z.plain) (sym h.2)
    (same-effect g (Wanting (w ∷ ws)) s (entry.Want side r d, bytes) _ (record { turn = refl; opens = refl; time = λ n. refl })
    (λ e. record { freed = refl; ended = refl; failed = refl; write_ended = refl; closed = refl }) (λ e. refl) (λ e. refl)
    (named-one s side lt))
put-effect g t (Wanting []) s entry.PollFailed bytes new size placed h =
    subst (λ z. Effect g (Wanting []) s (entry.PollFailed, bytes) z.stage z.plain) (sym h.1)
    (same-effect g (Wanting []) s (entry.PollFailed, bytes) _ (record { turn = refl; opens = refl; time = λ n. refl })
    (λ e. record { freed = refl; ended = refl; failed = refl; write_ended = refl; closed = refl }) (λ e. refl) (λ e. refl)
    (λ e k. absurd (cc)))
put-effect g t (Marking (w ∷ ws) marks) s (entry.Ready side r d) bytes new size placed h =
    let lt : side.link < s.opened = live-there s side size (ap (λ z. is_live s z) h.0 ∙ placed.0) in
    subst (λ z. Effect g (Marking (w ∷ ws) marks) s (entry.Ready side r d, bytes) z.stage z.plain) (sym h.3)
    (same-effect g (Marking (w ∷ ws) marks) s (entry.Ready side r d, bytes) _
    (record { turn = refl; opens = refl; time = λ n. refl })
    (λ e. record { freed = refl; ended = refl; failed = refl; write_ended = refl; closed = refl }) (λ e. refl) (λ e. refl)
    (named-one s side lt))
put-effect g t (Accepting n marks) s (entry.Opened link connected) bytes new size placed h =
    subst (λ z. Effect g (Accepting n marks) s (entry.Opened link connected, bytes) z.stage z.plain) (sym h.4)
    (opened-effect g s n marks link connected bytes size (let o = h.0 in let l = h.2 in omega arith))
put-effect g t (Serving (m ∷ ms)) s (entry.Conn side answer) bytes new size placed h =
    let lt : side.link < s.opened = live-there s side size (ap (λ z. is_live s z) h.0 ∙ conn-live g (past g t) s m h.1) in
    subst (λ z. Effect g (Serving (m ∷ ms)) s (entry.Conn side answer, bytes) z.stage z.plain) (sym h.3)
    (conn-effect g m ms s side _ size lt (λ e. refl) answer bytes)
put-effect g t (Serving (m ∷ ms)) s (entry.Read side room answer) bytes new size placed h =
    let lt : side.link < s.opened = live-there s side size
    (ap (λ z. is_live s z) h.0 ∙ (may_read-parts s m.side (read-called g (past g t) s m room h.1).may).live) in
    subst (λ z. Effect g (Serving (m ∷ ms)) s (entry.Read side room answer, bytes) z.stage z.plain) (sym h.3)
    (read-effect g m ms s side _ size lt (reading-still side answer _) room answer bytes)
put-effect g t (Serving (m ∷ ms)) s (entry.Write side offered answer) bytes new size placed h =
    let lt : side.link < s.opened = live-there s side size (ap (λ z. is_live s z) h.0 ∙ may_write-live s m.side
    (write-called g (past g t) s m offered h.1).may) in
    subst (λ z. Effect g (Serving (m ∷ ms)) s (entry.Write side offered answer, bytes) z.stage z.plain) (sym h.3)
    (write-effect g m ms s side _ size lt (λ e. refl) (past g t) offered answer bytes h.2)
put-effect g t (Dispatching (r ∷ rs)) s (entry.Fired side y) bytes new size placed h =
    subst (λ z. Effect g (Dispatching (r ∷ rs)) s (entry.Fired side y, bytes) z.stage z.plain) (sym h.3)
    (same-effect g (Dispatching (r ∷ rs)) s (entry.Fired side y, bytes) _ (record { turn = refl; opens = refl; time = λ n. refl })
    (λ e. record { freed = refl; ended = refl; failed = refl; write_ended = refl; closed = refl }) (λ e. refl) (λ e. refl)
    (named-one s side (live-there s side size h.1)))
put-effect g t (Firing x rs) s (entry.Asked side a answer) bytes new size placed h =
    subst (λ z. Effect g (Firing x rs) s (entry.Asked side a answer, bytes) z.stage z.plain) (sym h.5)
    (asked-effect g (past g t) s x rs side a answer bytes _ h.3 size (subst (λ z. z.link < s.opened) (sym h.0) placed) h.4)
put-effect g t (Freeing gone x rs) s e bytes new size placed h =
    subst (λ z. Effect g (Freeing gone x rs) s (e, bytes) z.stage z.plain) (sym h.2)
    (subst (λ z. Effect g (Freeing gone x rs) s (z, bytes) (Firing x rs) s) (sym h.0) (freeing-effect g s x rs gone cause.Hook _ _
    bytes placed.0 placed.2))
put-effect g t (Closing (c ∷ cs)) s e bytes new size placed h =
    subst (λ z. Effect g (Closing (c ∷ cs)) s (e, bytes) z.stage z.plain) (sym h.2)
    (closing-effect g (Closing (c ∷ cs)) (past g t) s _ c e bytes size placed.0 (λ z. refl) (λ z. refl) h.0)
put-effect g t _ s e bytes new size placed h = absurd h
