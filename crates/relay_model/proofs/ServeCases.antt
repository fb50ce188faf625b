-- The effect of what a marked side is asked, and of the asks of hooks.
use Rattle.std.proofs.Common.{◌≡◌, ℕ, ◌*◌, ◌<◌, true, false, List, ◌∷◌, length, refl, sym, ◌∙◌, ap, subst}
use Rattle.ev_types.specs.declared.side.SideId.{SideId}
use Rattle.ev_types.specs.declared.answer.ConnAnswer.{ConnAnswer}
use Rattle.ev_types.specs.declared.answer.ConnAnswer.TheVariants as conn
use Rattle.ev_types.specs.declared.answer.ReadAnswer.{ReadAnswer}
use Rattle.ev_types.specs.declared.answer.ReadAnswer.TheVariants as read
use Rattle.ev_types.specs.declared.answer.WriteAnswer.{WriteAnswer}
use Rattle.ev_types.specs.declared.answer.WriteAnswer.TheVariants as write
use Rattle.ev_types.specs.declared.why.Why.TheVariants as why
use Rattle.ev_types.specs.declared.entry.Entry.TheVariants as entry
use Rattle.ev_types.specs.Sides.{same_end, peer}
use Rattle.ev_types.specs.Trace.{Event}
use Rattle.relay_model.specs.Settings.{Settings}
use Rattle.relay_model.specs.Trace.{ended_by, write_closed_by}
use Rattle.relay_model.specs.Reasons.{happened, end_flag, error_flag}
use Rattle.token_bucket.specs.declared.limit.Dir.TheVariants as dir
use Rattle.relay_model.specs.Plain.{Plain, PlainSide, side_at, put_side}
use Rattle.relay_model.specs.Past.{Past}
use Rattle.relay_model.specs.Rooms.{Want}
use Rattle.relay_model.specs.Serve.{after_conn, after_read, after_write, CarriesTook}
use Rattle.relay_model.specs.Stages.{Stage, Serving}
use Rattle.relay_model.specs.Told.{names, freed_by, failed_by, end_closed_by, is_freeing}
use Rattle.relay_model.proofs.EndLemmas.{same_end-eq, same_end-refl}
use Rattle.relay_model.proofs.KeepsLemmas.{Keeps, Keeps-refl, Keeps-trans, Keeps-raise, Keeps-raise_write, Keeps-flow, Keeps-put}
use Rattle.relay_model.proofs.SeenLemmas.{seen}
use Rattle.relay_model.proofs.EffectLemmas.{SideEffect, Effect, or_no, or_yes, and_no}
use Rattle.relay_model.proofs.PutLemmas.{IsPlainEvent, effect-keeps, effect-at}

-- a side that an entry names
pub named-one : (s : Plain) (side : SideId) → side.link < s.opened → (e : SideId) → same_end side e ≡ true → e.link < s.opened
named-one s side lt e h = subst (λ z. z.link < s.opened) (same_end-eq side e h) lt

-- an end fails
failed-effect : (g : Settings) (x : Stage) (s : Plain) (y : Event) (after : Stage) (side : SideId) (changed : PlainSide)
    (new : Plain) → Keeps seen (put_side side changed s) new →
    seen changed ≡ record (seen (side_at s side)) { failed = true } → IsPlainEvent y → length s.sides ≡ 2 * s.opened → side.link <
    s.opened → ((e : SideId) → is_freeing after e ≡ false) →
    ((e : SideId) → is_freeing x e ≡ false) → ((e : SideId) → names e y ≡ same_end side e) →
    ((e : SideId) → failed_by e y ≡ same_end side e) →
    ((e : SideId) → (freed_by e y ≡ false) × (ended_by e y ≡ false) × (write_closed_by e y ≡ false) × (end_closed_by e y ≡ false))
    → Effect g x s y after new
failed-effect g x s y after side changed new k c p size lt still before named fails idle =
    effect-at g x s y after new side changed k p size lt here
    (λ e q. (
      record {
        freed = (idle e).0;
        ended = (idle e).1;
        failed = fails e ∙ q;
        write_ended = (idle e).2;
        closed = (idle e).3;
      },
      still e,
    ))
    before (λ e h. named-one s side lt e (sym (named e) ∙ h))
  where
    here : SideEffect side y after (seen (side_at s side)) (seen changed)
    here = record {
      live = ap (λ z. z.live) c ∙ and_no (side_at s side).live (freed_by side y) (is_freeing after side) (idle side).0 (still side);
      ended = ap (λ z. z.ended) c ∙ or_no (side_at s side).ended (ended_by side y) (idle side).1;
      failed = ap (λ z. z.failed) c ∙ or_yes (side_at s side).failed (failed_by side y) (fails side ∙ same_end-refl side);
      write_ended = ap (λ z. z.write_ended) c ∙ or_no (side_at s side).write_ended (write_closed_by side y) (idle side).2;
      closed = ap (λ z. z.closed) c ∙ or_no (side_at s side).closed (end_closed_by side y) (idle side).3;
      bad = ap (λ z. z.bad) c;
      expired = λ b. ap (λ z. z.expired) c;
    }

-- an end ends
ended-effect : (g : Settings) (x : Stage) (s : Plain) (room : ℕ) (bytes : List ℕ) (after : Stage) (side : SideId)
    (changed : PlainSide) (new : Plain) → Keeps seen (put_side side changed s) new →
    seen changed ≡ record (seen (side_at s side)) { ended = true } → length s.sides ≡ 2 * s.opened → side.link < s.opened →
    ((e : SideId) → is_freeing after e ≡ false) →
    ((e : SideId) → is_freeing x e ≡ false) → Effect g x s (entry.Read side room read.Ended, bytes) after new
ended-effect g x s room bytes after side changed new k c size lt still before =
    effect-at g x s y after new side changed k (record { turn = refl; opens = refl; time = λ n. refl }) size lt here
    (λ e q. (record { freed = refl; ended = q; failed = refl; write_ended = refl; closed = refl }, still e))
    before (λ e h. named-one s side lt e h)
  where
    y : Event
    y = (entry.Read side room read.Ended, bytes)

    here : SideEffect side y after (seen (side_at s side)) (seen changed)
    here = record {
      live = ap (λ z. z.live) c ∙ and_no (side_at s side).live false (is_freeing after side) refl (still side);
      ended = ap (λ z. z.ended) c ∙ or_yes (side_at s side).ended (same_end side side) (same_end-refl side);
      failed = ap (λ z. z.failed) c ∙ or_no (side_at s side).failed false refl;
      write_ended = ap (λ z. z.write_ended) c ∙ or_no (side_at s side).write_ended false refl;
      closed = ap (λ z. z.closed) c ∙ or_no (side_at s side).closed false refl;
      bad = ap (λ z. z.bad) c;
      expired = λ b. ap (λ z. z.expired) c;
    }

-- What a marked side is asked

module _ (g : Settings) (m : Want) (ms : List Want) (s : Plain) (side : SideId) (after : Stage)
    (size : length s.sides ≡ 2 * s.opened) (lt : side.link < s.opened) (still : (e : SideId) → is_freeing after e ≡ false) where
  abbrev x : Stage
  x = Serving (m ∷ ms)

  pub conn-effect : (answer : ConnAnswer) (bytes : List ℕ) → Effect g x s (entry.Conn side answer, bytes) after (after_conn g side answer s)
  conn-effect conn.Connected bytes =
      effect-keeps g x s (entry.Conn side conn.Connected, bytes) after _ (Keeps-trans seen s _ _ (Keeps-put seen side _ s refl)
      (Keeps-raise seen g side why.Connected _))
      (record { turn = refl; opens = refl; time = λ n. refl })
      (λ e. record { freed = refl; ended = refl; failed = refl; write_ended = refl; closed = refl }) still (λ e. refl)
      (named-one s side lt)
  conn-effect conn.Pending bytes =
      effect-keeps g x s (entry.Conn side conn.Pending, bytes) after s (Keeps-refl seen s)
      (record { turn = refl; opens = refl; time = λ n. refl })
      (λ e. record { freed = refl; ended = refl; failed = refl; write_ended = refl; closed = refl }) still (λ e. refl)
      (named-one s side lt)
  conn-effect conn.Failed bytes =
      failed-effect g x s (entry.Conn side conn.Failed, bytes) after side _ _ (Keeps-raise seen g side
      (happened dir.Write error_flag) _) refl
      (record { turn = refl; opens = refl; time = λ n. refl }) size lt still (λ e. refl) (λ e. refl) (λ e. refl)
      (λ e. (refl, refl, refl, refl))

  pub read-effect : (room : ℕ) (answer : ReadAnswer) (bytes : List ℕ) → Effect g x s (entry.Read side room answer, bytes) after
      (after_read g side answer s)
  read-effect room (read.Got n) bytes =
      effect-keeps g x s (entry.Read side room (read.Got n), bytes) after _ (Keeps-put seen side _ s refl)
      (record { turn = refl; opens = refl; time = λ n. refl })
      (λ e. record { freed = refl; ended = refl; failed = refl; write_ended = refl; closed = refl }) still (λ e. refl)
      (named-one s side lt)
  read-effect room read.Ended bytes = ended-effect g x s room bytes after side _ _ (Keeps-raise seen g side
      (happened dir.Read end_flag) _) refl size lt still (λ e. refl)
  read-effect room read.NotYet bytes =
      effect-keeps g x s (entry.Read side room read.NotYet, bytes) after s (Keeps-refl seen s)
      (record { turn = refl; opens = refl; time = λ n. refl })
      (λ e. record { freed = refl; ended = refl; failed = refl; write_ended = refl; closed = refl }) still (λ e. refl)
      (named-one s side lt)
  read-effect room read.Failed bytes =
      failed-effect g x s (entry.Read side room read.Failed, bytes) after side _ _ (Keeps-raise seen g side
      (happened dir.Read error_flag) _) refl
      (record { turn = refl; opens = refl; time = λ n. refl }) size lt still (λ e. refl) (λ e. refl) (λ e. refl)
      (λ e. (refl, refl, refl, refl))

  pub write-effect : (p : Past) (offered : ℕ) (answer : WriteAnswer) (bytes : List ℕ) → CarriesTook answer offered bytes → Effect g
      x s (entry.Write side offered answer, bytes) after (after_write g p side answer s)
  write-effect p offered (write.Took n) bytes h =
      effect-keeps g x s (entry.Write side offered (write.Took n), bytes) after _
      (Keeps-trans seen s _ _ (Keeps-trans seen s _ _ (Keeps-flow seen (peer side) _ s) (Keeps-put seen side _ _ refl))
      (Keeps-raise_write seen g p side _))
      (record { turn = refl; opens = refl; time = λ n. refl })
      (λ e. record { freed = refl; ended = refl; failed = refl; write_ended = refl; closed = refl }) still (λ e. refl)
      (named-one s side lt)
  write-effect p offered write.NotYet bytes h =
      effect-keeps g x s (entry.Write side offered write.NotYet, bytes) after s (Keeps-refl seen s)
      (record { turn = refl; opens = refl; time = λ n. refl })
      (λ e. record { freed = refl; ended = refl; failed = refl; write_ended = refl; closed = refl }) still (λ e. refl)
      (named-one s side lt)
  write-effect p offered write.Failed bytes h =
      failed-effect g x s (entry.Write side offered write.Failed, bytes) after side _ _ (Keeps-raise seen g side
      (happened dir.Write error_flag) _) refl
      (record { turn = refl; opens = refl; time = λ n. refl }) size lt still (λ e. refl) (λ e. refl) (λ e. refl)
      (λ e. (refl, refl, refl, refl))
  write-effect p offered write.NoMemory bytes h = absurd h
