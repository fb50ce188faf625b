-- What the relation lets be put, the replay puts.
use Rattle.std.proofs.Common.{◌≡◌, inl, inr, ℕ, ◌+◌, ◌≤◌, Bool, true, false, ◌==◌, ◌&&◌, ◌||◌, not, nat_le, if◌then◌else◌, List, [], ◌∷◌}
use Rattle.std.proofs.Common.{length, Option, Some, None, option_map, refl, sym, ap, ◌∙◌, eq-eqb, le-leb, lt-ltb}
use Rattle.std.proofs.lemmas.Bool.{and_from}
use Rattle.ev_types.specs.declared.side.Side.{Side}
use Rattle.ev_types.specs.declared.side.Side.TheVariants.{In, Out}
use Rattle.ev_types.specs.declared.side.SideId.{SideId}
use Rattle.ev_types.specs.declared.answer.ReadAnswer.{ReadAnswer}
use Rattle.ev_types.specs.declared.answer.ReadAnswer.TheVariants as read
use Rattle.ev_types.specs.declared.answer.WriteAnswer.{WriteAnswer}
use Rattle.ev_types.specs.declared.answer.WriteAnswer.TheVariants as write
use Rattle.ev_types.specs.declared.answer.AskAnswer.{AskAnswer}
use Rattle.ev_types.specs.declared.answer.AskAnswer.TheVariants as ask
use Rattle.ev_types.specs.declared.act.Act.{Act}
use Rattle.ev_types.specs.declared.why.Cause.{Cause}
use Rattle.ev_types.specs.declared.why.Cause.TheVariants as cause
use Rattle.ev_types.specs.declared.why.Why.{Why}
use Rattle.ev_types.specs.declared.why.Why.TheVariants as why
use Rattle.ev_types.specs.declared.entry.Entry.{Entry}
use Rattle.ev_types.specs.declared.entry.Entry.TheVariants as entry
use Rattle.ev_types.specs.Sides.{same_side, same_end}
use Rattle.ev_types.specs.Trace.{Trace}
use Rattle.relay_model.specs.Settings.{Settings}
use Rattle.relay_model.specs.Plain.{Plain}
use Rattle.relay_model.specs.Past.{Past, past}
use Rattle.relay_model.specs.Rooms.{Want}
use Rattle.relay_model.specs.Asks.{most_asks, refusal, may_lack, Answered}
use Rattle.relay_model.specs.Moments.{poll_timeout}
use Rattle.relay_model.specs.Serve.{Call, call_for, CarriesGot, CarriesTook}
use Rattle.relay_model.specs.Close.{CloseStep, freed_entry, closing_entry, closed_by, steps_left}
use Rattle.relay_model.specs.Stages.{Fire, Stage, Between, Polling, Wanting, Marking, Accepting, Serving, Dispatching, Firing, Freeing}
use Rattle.relay_model.specs.Stages.{Closing, State, at, after_ask}
use Rattle.ev_types.specs.Times.{latest}
use Rattle.relay_model.specs.Turn.{most_opened, IsPartOf, Puts}
use Rattle.relay_rows.specs.Same.{is_empty, same_flag, same_number, same_cause, same_why, same_answer, same_end_of}
use Rattle.relay_rows.specs.Put.{provided, asks_connect, asks_read, asks_write, is_count_of, carries_got, carries_took, is_part_of}
use Rattle.relay_rows.specs.Put.{answered, put}

pub provided-from : {X : Type 0} (test : Bool) (x new : X) → test ≡ true → new ≡ x → provided test x ≡ Some new
provided-from true x new h e = ap Some (sym e)
provided-from false x new h e = absurd (cc)

from_empty : (xs : List ℕ) → xs ≡ [] → is_empty xs ≡ true
from_empty xs e = ap is_empty e

flag-refl : (a : Bool) → same_flag a a ≡ true
flag-refl true = refl
flag-refl false = refl

from_flag : (a b : Bool) → a ≡ b → same_flag a b ≡ true
from_flag a b e = ap (λ x. same_flag x b) e ∙ flag-refl b

number-refl : (a : Option ℕ) → same_number a a ≡ true
number-refl None = refl
number-refl (Some n) = eq-eqb n n refl

from_number : (a b : Option ℕ) → a ≡ b → same_number a b ≡ true
from_number a b e = ap (λ x. same_number x b) e ∙ number-refl b

side-refl : (a : Side) → same_side a a ≡ true
side-refl In = refl
side-refl Out = refl

end-refl : (a : SideId) → same_end a a ≡ true
end-refl a = and_from (a.link == a.link) (same_side a.side a.side) (eq-eqb a.link a.link refl) (side-refl a.side)

from_end : (a b : SideId) → a ≡ b → same_end a b ≡ true
from_end a b e = ap (λ x. same_end x b) e ∙ end-refl b

cause-refl : (a : Cause) → same_cause a a ≡ true
cause-refl cause.Hook = refl
cause-refl cause.Done = refl
cause-refl cause.PeerGone = refl
cause-refl cause.Failed = refl
cause-refl cause.Timeout = refl
cause-refl (cause.Filter n) = eq-eqb n n refl

why-refl : (a : Why) → same_why a a ≡ true
why-refl why.Connected = refl
why-refl why.Read = refl
why-refl why.Write = refl
why-refl why.Timer = refl
why-refl (why.Event n) = eq-eqb n.0 n.0 refl

from_why : (a b : Why) → a ≡ b → same_why a b ≡ true
from_why a b e = ap (λ x. same_why x b) e ∙ why-refl b

answer-refl : (a : AskAnswer) → same_answer a a ≡ true
answer-refl ask.Ok = refl
answer-refl ask.NotLive = refl
answer-refl ask.NoGroup = refl
answer-refl ask.BadValue = refl
answer-refl ask.TooManyRefs = refl
answer-refl ask.Memory = refl

-- an entry that frees a side, ends its writing or closes its end
abbrev pub is_closing : Entry → Bool
is_closing (entry.Freed side why moved given) = true
is_closing (entry.CloseWrite side) = true
is_closing (entry.Close side) = true
is_closing _ = false

closing-refl : (e : Entry) → is_closing e ≡ true → same_end_of e e ≡ true
closing-refl (entry.Freed a b c d) h =
    and_from (same_end a a && same_cause b b && c == c) (d == d)
    (and_from (same_end a a && same_cause b b) (c == c) (and_from (same_end a a) (same_cause b b) (end-refl a) (cause-refl b))
    (eq-eqb c c refl))
    (eq-eqb d d refl)
closing-refl (entry.CloseWrite a) h = end-refl a
closing-refl (entry.Close a) h = end-refl a
closing-refl _ h = absurd (cc)

module _ (s : Plain) (x : Entry) where
  from_where : (test : Bool) (e : Entry) → is_closing e ≡ true → (if test then Some e else None) ≡ Some x → is_closing x ≡ true
  from_where true e good h = ap is_closing (let same : x ≡ e = cc in same) ∙ good
  from_where false e good h = absurd (cc)

  from_fault : (e : SideId) (why : Option Cause) → option_map (freed_entry s e) why ≡ Some x → is_closing x ≡ true
  from_fault e None h = absurd (cc)
  from_fault e (Some y) h = ap is_closing (let same : x ≡ freed_entry s e y = cc in same)

  from_faulty : (test : Bool) (e : SideId) (why : Option Cause) → (if test then option_map (freed_entry s e) why else None) ≡ Some
      x → is_closing x ≡ true
  from_faulty true e why h = from_fault e why h
  from_faulty false e why h = absurd (cc)

-- what closing puts is such an entry
pub closing_entry-is : (g : Settings) (p : Past) (s : Plain) (c : CloseStep) (x : Entry) → closing_entry g p s c ≡ Some x →
    is_closing x ≡ true
closing_entry-is g p s (CloseStep.Faulty e) x h = from_faulty s x _ e _ h
closing_entry-is g p s (CloseStep.EndWriting e) x h = from_where s x _ (entry.CloseWrite e) refl h
closing_entry-is g p s (CloseStep.BothDone k) x h = from_where s x _ (freed_entry s (record { link = k; side = In }) cause.Done) refl h
closing_entry-is g p s (CloseStep.OutDone k) x h = from_where s x true (freed_entry s (record { link = k; side = Out }) cause.Done) refl h
closing_entry-is g p s (CloseStep.PeerGone e) x h = from_where s x _ (freed_entry s e cause.PeerGone) refl h
closing_entry-is g p s (CloseStep.Shut e) x h = from_where s x _ (entry.Close e) refl h

from_count : (n room : ℕ) (bytes : List ℕ) → (length bytes ≡ n) × (1 ≤ n) × (n ≤ room) → is_count_of n room bytes ≡ true
from_count n room bytes h =
    and_from (length bytes == n && nat_le 1 n) (nat_le n room)
    (and_from (length bytes == n) (nat_le 1 n) (eq-eqb (length bytes) n h.0) (le-leb 1 n h.1)) (le-leb n room h.2)

from_got : (answer : ReadAnswer) (room : ℕ) (bytes : List ℕ) → CarriesGot answer room bytes → carries_got answer room bytes ≡ true
from_got (read.Got n) room bytes h = from_count n room bytes h
from_got read.Ended room bytes h = from_empty bytes h
from_got read.NotYet room bytes h = from_empty bytes h
from_got read.Failed room bytes h = from_empty bytes h

from_took : (answer : WriteAnswer) (offered : ℕ) (bytes : List ℕ) → CarriesTook answer offered bytes → carries_took answer offered
    bytes ≡ true
from_took (write.Took n) offered bytes h = from_count n offered bytes h
from_took write.NotYet offered bytes h = from_empty bytes h
from_took write.Failed offered bytes h = from_empty bytes h
from_took write.NoMemory offered bytes h = absurd h

from_implies : (a b : Bool) → (a ≡ true → b ≡ true) → (not a || b) ≡ true
from_implies true b h = h refl
from_implies false b h = refl

from_part : (read write : Bool) (w : Want) → IsPartOf read write w → is_part_of read write w ≡ true
from_part read write w h =
    and_from ((not read || w.read) && (not write || w.write)) (read || write)
    (and_from (not read || w.read) (not write || w.write) (from_implies read w.read h.0) (from_implies write w.write h.1)) h.2

from_connect : (c : Call) → c ≡ Call.AskConnect → asks_connect c ≡ true
from_connect c e = ap asks_connect e

from_read : (room : ℕ) (c : Call) → c ≡ Call.AskRead room → asks_read room c ≡ true
from_read room c e = ap (asks_read room) e ∙ eq-eqb room room refl

from_write : (offered : ℕ) (c : Call) → c ≡ Call.AskWrite offered → asks_write offered c ≡ true
from_write offered c e = ap (asks_write offered) e ∙ eq-eqb offered offered refl

from_answered : (refused : Option AskAnswer) (g : Settings) (p : Past) (s : Plain) (a : Act) (answer : AskAnswer) (new : Plain) →
    Answered refused g p s a answer new → answered refused g p s a answer ≡ Some new
from_answered (Some refused) g p s a answer new h =
    provided-from (same_answer answer refused) s new (ap (λ x. same_answer x refused) h.0 ∙ answer-refl refused) h.1
from_answered None g p s a answer new (inl h) = ap (answered None g p s a) h.0 ∙ ap Some (sym h.1)
from_answered None g p s a answer new (inr h) = ap (answered None g p s a) h.0 ∙ provided-from (may_lack a) s new h.1 h.2

module _ (g : Settings) (t : Trace) (s : Plain) (bytes : List ℕ) (new : State) where
  asked_from : (test : Bool) (x : Fire) (rs : List (SideId × Why)) (a : Act) (answer : AskAnswer) (after : Plain) → test ≡ true →
      answered (refusal g s a) g (past g t) s a answer ≡ Some after → new ≡ at (after_ask (record x { asks = x.asks + 1 }) rs a
      answer) after →
      (if test then option_map (at (after_ask (record x { asks = x.asks + 1 }) rs a answer))
      (answered (refusal g s a) g (past g t) s a answer) else None) ≡ Some new
  asked_from true x rs a answer after h e q = ap (option_map (at (after_ask (record x { asks = x.asks + 1 }) rs a answer))) e ∙ ap
      Some (sym q)
  asked_from false x rs a answer after h e q = absurd (cc)

  closing_from : (c : CloseStep) (cs : List CloseStep) (e : Entry) → closing_entry g (past g t) s c ≡ Some e → bytes ≡ [] →
      new ≡ at (Closing (steps_left c cs)) (closed_by c s) → put g t (Closing (c ∷ cs)) s e bytes ≡ Some new
  closing_from c cs e h none q =
      ap (λ due. elim due [
        | Some x ↦ provided (same_end_of x e && is_empty bytes) (at (Closing (steps_left c cs))
            (closed_by c s))
        | None ↦ None
      ]) h
      ∙ provided-from (same_end_of e e && is_empty bytes) (at (Closing (steps_left c cs)) (closed_by c s)) new
      (and_from (same_end_of e e) (is_empty bytes) (closing-refl e (closing_entry-is g (past g t) s c e h)) (from_empty bytes none)) q

pub put-from : (g : Settings) (t : Trace) (x : Stage) (s : Plain) (e : Entry) (bytes : List ℕ) (new : State) → Puts g t x s e bytes
    new → put g t x s e bytes ≡ Some new
put-from g t Between s (entry.Turn ms) bytes new h =
    provided-from _ _ new (and_from _ _ (and_from _ _ (le-leb s.time ms h.0) (le-leb ms latest h.1)) (from_empty bytes h.2)) h.3
put-from g t Polling s (entry.Poll timeout) bytes new h =
    provided-from _ _ new (and_from _ _ (from_number timeout (poll_timeout g (past g t) s) h.0) (from_empty bytes h.1)) h.2
put-from g t (Wanting (w ∷ ws)) s (entry.Want side read write) bytes new h =
    provided-from _ _ new
    (and_from _ _
    (and_from _ _ (and_from _ _ (from_end w.side side (ap (λ x. x.side) h.0)) (from_flag w.read read (ap (λ x. x.read) h.0)))
    (from_flag w.write write (ap (λ x. x.write) h.0)))
    (from_empty bytes h.1))
    h.2
put-from g t (Wanting []) s entry.PollFailed bytes new h = provided-from _ _ new (from_empty bytes h.0) h.1
put-from g t (Marking (w ∷ ws) marks) s (entry.Ready side read write) bytes new h =
    provided-from _ _ new (and_from _ _ (and_from _ _ (from_end side w.side h.0) (from_part read write w h.1)) (from_empty bytes h.2)) h.3
put-from g t (Accepting n marks) s (entry.Opened link connected) bytes new h =
    provided-from _ _ new
    (and_from _ _ (and_from _ _ (and_from _ _ (eq-eqb link s.opened h.0) (lt-ltb n most_opened h.1)) (lt-ltb link g.links h.2))
    (from_empty bytes h.3)) h.4
put-from g t (Serving (m ∷ ms)) s (entry.Conn side answer) bytes new h =
    provided-from _ _ new (and_from _ _ (and_from _ _ (from_end side m.side h.0) (from_connect (call_for g (past g t) s m) h.1))
    (from_empty bytes h.2)) h.3
put-from g t (Serving (m ∷ ms)) s (entry.Read side room answer) bytes new h =
    provided-from _ _ new (and_from _ _ (and_from _ _ (from_end side m.side h.0) (from_read room (call_for g (past g t) s m) h.1))
    (from_got answer room bytes h.2)) h.3
put-from g t (Serving (m ∷ ms)) s (entry.Write side offered answer) bytes new h =
    provided-from _ _ new (and_from _ _ (and_from _ _ (from_end side m.side h.0) (from_write offered (call_for g (past g t) s m)
    h.1)) (from_took answer offered bytes h.2)) h.3
put-from g t (Dispatching (r ∷ rs)) s (entry.Fired side y) bytes new h =
    provided-from _ _ new
    (and_from _ _ (and_from _ _ (and_from _ _ (from_end r.0 side (ap (λ x. x.0) h.0)) (from_why r.1 y (ap (λ x. x.1) h.0))) h.1)
    (from_empty bytes h.2)) h.3
put-from g t (Firing x rs) s (entry.Asked side a answer) bytes new h =
    asked_from g t s bytes new _ x rs a answer h.3
    (and_from _ _ (and_from _ _ (from_end side x.side h.0) (lt-ltb x.asks most_asks h.1)) (from_empty bytes h.2))
    (from_answered (refusal g s a) g (past g t) s a answer h.3 h.4) h.5
put-from g t (Freeing gone x rs) s e bytes new h =
    provided-from _ _ new
    (and_from _ _ (ap (λ y. same_end_of y (freed_entry s gone cause.Hook)) h.0 ∙ closing-refl (freed_entry s gone cause.Hook) refl)
    (from_empty bytes h.1)) h.2
put-from g t (Closing (c ∷ cs)) s e bytes new h = closing_from g t s bytes new c cs e h.0 h.1 h.2
put-from g t _ s _ bytes new h = absurd h
