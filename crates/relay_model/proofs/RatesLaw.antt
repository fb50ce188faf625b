-- The trace tells the limit and the group of each side.
use Rattle.std.proofs.Common.{◌≡◌, inl, inr, ℕ, ◌+◌, ◌*◌, ◌≤◌, Bool, true, false, if◌then◌else◌, List, [], ◌∷◌, ◌++◌, length, Option, Some}
use Rattle.std.proofs.Common.{None, option_map, refl, sym, ◌∙◌, ap, subst, arith}
use Rattle.std.specs.Prelude.{⊤}
use Rattle.ev_types.specs.declared.side.Side.TheVariants.{In, Out}
use Rattle.ev_types.specs.declared.side.SideId.{SideId}
use Rattle.ev_types.specs.declared.act.Act.{Act}
use Rattle.ev_types.specs.declared.act.Act.TheVariants as act
use Rattle.ev_types.specs.declared.answer.AskAnswer.{AskAnswer}
use Rattle.ev_types.specs.declared.answer.AskAnswer.TheVariants as ask
use Rattle.ev_types.specs.declared.why.Cause.{Cause}
use Rattle.ev_types.specs.declared.why.Cause.TheVariants as cause
use Rattle.ev_types.specs.declared.answer.ReadAnswer.{ReadAnswer}
use Rattle.ev_types.specs.declared.answer.ReadAnswer.TheVariants as read
use Rattle.ev_types.specs.declared.entry.Entry.{Entry}
use Rattle.ev_types.specs.declared.entry.Entry.TheVariants as entry
use Rattle.ev_types.specs.Sides.{same_end}
use Rattle.ev_types.specs.Trace.{Event, Trace}
use Rattle.relay_model.specs.Settings.{Settings}
use Rattle.relay_model.specs.Due.{Reason}
use Rattle.relay_model.specs.Plain.{Plain, Standing, side_at, is_live, freed}
use Rattle.relay_model.specs.Past.{Past, past}
use Rattle.relay_model.specs.Rooms.{Want}
use Rattle.relay_model.specs.Asks.{Answered, refusal, done}
use Rattle.relay_model.specs.Close.{CloseStep, entry_where, closing_entry, closed_by, freed_entry, fault}
use Rattle.relay_model.specs.Stages.{Fire, Halt, Stage, State, after_ask}
use Rattle.relay_model.specs.Turn.{Puts, Quietly, Reaches, turned_to, after_reading, after_fire}
use Rattle.relay_model.specs.RatesKept.{limit_after}
use Rattle.relay_model.specs.Groups.{group_after}
use Rattle.relay_model.specs.TurnLaws.{ShapeIsTold, RatesAreTold, TraceTellsRates}
use Rattle.relay_model.proofs.QuietSteps.{kept-quietly}
use Rattle.relay_model.proofs.Frames.{frame-same, frame-change, frame-time_passed, frame-conn, frame-read, frame-write}
use Rattle.relay_model.proofs.Shapes.{shape-puts}
use Rattle.relay_model.proofs.ReachLemmas.{reaches-holds, shape-begins, shape-goes, shape-put}
use Rattle.relay_model.proofs.RatesTold.{cfg_of, refusal-not_ok, IsBegun, RatesBy, IsNeutral, rates-neutral, freed-group, rates-freed}
use Rattle.relay_model.proofs.RatesTold.{rates-opened, rates-answered, limit_after-push, group_after-push}

-- where a free is to be recorded, the freed side is in no group
abbrev pub StageFits : Stage → Plain → Type 0
StageFits (Stage.Freeing gone x rs) s = (a : SideId) → same_end gone a ≡ true → (side_at s a).group ≡ None
StageFits _ s = ⊤

pub fits-at : (x : Stage) (s : Plain) (new : State) → new ≡ record { stage = x; plain = s } → StageFits x s → StageFits new.stage new.plain
fits-at x s new e k = subst (λ z. StageFits z.stage z.plain) (sym e) k

pub fits-fire : (x : Fire) (rs : List Reason) (s : Plain) → StageFits (after_fire x rs) s
fits-fire x rs s = by_flag x.stopped
  where
    by_flag : (b : Bool) → StageFits (if b then Stage.Over (Halt.StoppedBy x.side.link) else Stage.Dispatching rs) s
    by_flag true = tt
    by_flag false = tt

pub fits-quietly : (g : Settings) (t : Trace) (x : Stage) (s : Plain) (new : State) → Quietly g t x s new → StageFits new.stage new.plain
fits-quietly g t (Stage.Wanting []) s new h = fits-at _ _ new h tt
fits-quietly g t (Stage.Marking (w ∷ ws) marks) s new h = fits-at _ _ new h tt
fits-quietly g t (Stage.Marking [] marks) s new h = fits-at _ _ new h tt
fits-quietly g t (Stage.Accepting n marks) s new h = fits-at _ _ new h tt
fits-quietly g t (Stage.Serving (m ∷ ms)) s new h = fits-at _ _ new h.1 tt
fits-quietly g t (Stage.Filtering e ms) s new h = fits-at _ _ new h tt
fits-quietly g t (Stage.Serving []) s new h = fits-at _ _ new h tt
fits-quietly g t (Stage.Firing x rs) s new h = fits-at _ _ new h (fits-fire x rs s)
fits-quietly g t (Stage.Dispatching []) s new h = fits-at _ _ new h tt
fits-quietly g t (Stage.Passing [] (e ∷ es)) s new h = elim h [
  | inl passed ↦ fits-at _ _ new passed.1 tt
  | inr begins ↦ fits-at _ _
      new begins tt
]
fits-quietly g t (Stage.Passing (x ∷ xs) (e ∷ es)) s new h = fits-at _ _ new h tt
fits-quietly g t (Stage.Passing [] []) s new h = fits-at _ _ new h tt
fits-quietly g t (Stage.Closing (c ∷ cs)) s new h = fits-at _ _ new h.1 tt
fits-quietly g t (Stage.Closing []) s new h = fits-at _ _ new h tt
fits-quietly g t _ s new h = absurd h

-- an ask that is answered Ok did what it does
pub answered-ok : (r : Option AskAnswer) (g : Settings) (p : Past) (s : Plain) (a : Act) (new : Plain) → refusal g s a ≡ r →
    Answered r g p s a ask.Ok new → new ≡ done g p s a
answered-ok (Some refused) g p s a new is h = absurd (refusal-not_ok g s a refused is (sym h.0))
answered-ok None g p s a new is h = elim h [ inl ok ↦ ok.1 | inr lacks ↦ let bad : ask.Ok ≡ ask.Memory = lacks.0 in cc ]

pub fits-ask : (g : Settings) (p : Past) (s : Plain) (x : Fire) (rs : List Reason) (a : Act) (answer : AskAnswer) (after : Plain) →
    Answered (refusal g s a) g p s a answer after → StageFits (after_ask x rs a answer) after
fits-ask g p s x rs (act.Free e) ask.Ok after h =
    let is = answered-ok (refusal g s (act.Free e)) g p s (act.Free e) after refl h in
    λ a same. ap (λ (z : Plain). (side_at z a).group) is ∙ freed-group e a s ∙ ap (λ b. if b then None else (side_at s a).group) same
fits-ask g p s x rs act.Stop ask.Ok after h = tt
fits-ask g p s x rs _ _ after h = tt

pub fits-reading : (e : SideId) (answer : ReadAnswer) (ms : List Want) (s : Plain) → StageFits (after_reading e answer ms) s
fits-reading e (read.Got n) ms s = tt
fits-reading e _ ms s = tt

pub fits-puts : (g : Settings) (t : Trace) (x : Stage) (s : Plain) (e : Entry) (bytes : List ℕ) (new : State) → Puts g t x s e
    bytes new → StageFits new.stage new.plain
fits-puts g t Stage.Between s (entry.Turn ms) bytes new h = fits-at _ _ new h.3 tt
fits-puts g t Stage.Polling s (entry.Poll timeout) bytes new h = fits-at _ _ new h.2 tt
fits-puts g t (Stage.Wanting (w ∷ ws)) s (entry.Want side r w') bytes new h = fits-at _ _ new h.2 tt
fits-puts g t (Stage.Wanting []) s entry.PollFailed bytes new h = fits-at _ _ new h.1 tt
fits-puts g t (Stage.Marking (w ∷ ws) marks) s (entry.Ready side r w') bytes new h = fits-at _ _ new h.3 tt
fits-puts g t (Stage.Accepting n marks) s (entry.Opened link connected) bytes new h = fits-at _ _ new h.4 tt
fits-puts g t (Stage.Serving (m ∷ ms)) s (entry.Conn side answer) bytes new h = fits-at _ _ new h.3 tt
fits-puts g t (Stage.Serving (m ∷ ms)) s (entry.Read side room answer) bytes new h = fits-at _ _ new h.3 (fits-reading side answer _ _)
fits-puts g t (Stage.Serving (m ∷ ms)) s (entry.Write side offered answer) bytes new h = fits-at _ _ new h.3 tt
fits-puts g t (Stage.Dispatching (r ∷ rs)) s (entry.Fired side y) bytes new h = fits-at _ _ new h.3 tt
fits-puts g t (Stage.Firing x rs) s (entry.Asked side a answer) bytes new h =
    fits-at _ _ new h.5 (fits-ask g (past g t) s (record x { asks = x.asks + 1 }) rs a answer h.3 h.4)
fits-puts g t (Stage.Freeing gone x rs) s e bytes new h = fits-at _ _ new h.2 tt
fits-puts g t (Stage.Closing (c ∷ cs)) s e bytes new h = fits-at _ _ new h.2 tt
fits-puts g t _ s e bytes new h = absurd h

-- What closing puts

abbrev pub ClosesRates : Settings → SideId → Plain → Plain → Option Entry → Type 0
ClosesRates g a s new None = ⊤
ClosesRates g a s new (Some e) = (bytes : List ℕ) → RatesBy g a (e, bytes) s new

pub closing-free : (g : Settings) (a e : SideId) (why : Cause) (s : Plain) → ClosesRates g a s (freed e s) (Some (freed_entry s e why))
closing-free g a e why s = λ bytes. rates-freed g e a (freed_entry s e why, bytes) s (λ was. refl) (λ was. refl)

pub closing-rates_where : (g : Settings) (a : SideId) (s new : Plain) (holds : Bool) (e : Entry) → ClosesRates g a s new (Some e) →
    ClosesRates g a s new (entry_where holds e)
closing-rates_where g a s new true e is = is
closing-rates_where g a s new false e is = tt

pub closing-faulty : (g : Settings) (a e : SideId) (s : Plain) (live : Bool) (why : Option Cause) → ClosesRates g a s (freed e s)
    (if live then option_map (freed_entry s e) why else None)
closing-faulty g a e s true None = tt
closing-faulty g a e s true (Some why) = closing-free g a e why s
closing-faulty g a e s false why = tt

pub closing-rates : (g : Settings) (p : Past) (a : SideId) (s : Plain) (c : CloseStep) → ClosesRates g a s (closed_by c s)
    (closing_entry g p s c)
closing-rates g p a s (CloseStep.Faulty e) = closing-faulty g a e s (is_live s e) (fault (side_at s e))
closing-rates g p a s (CloseStep.EndWriting e) =
    closing-rates_where g a s (closed_by (CloseStep.EndWriting e) s) _ (entry.CloseWrite e)
    (λ bytes. rates-neutral g a (entry.CloseWrite e, bytes) s _ (record { limit = λ was. refl; group = λ was. refl })
    (frame-change e (λ x. record x { write_ended = true }) s (λ x. refl)))
closing-rates g p a s (CloseStep.BothDone k) =
    let i : SideId = record { link = k; side = In } in
    closing-rates_where g a s (freed i s) _ (freed_entry s i cause.Done) (closing-free g a i cause.Done s)
closing-rates g p a s (CloseStep.OutDone k) = closing-free g a (record { link = k; side = Out }) cause.Done s
closing-rates g p a s (CloseStep.PeerGone e) = closing-rates_where g a s (freed e s) _ (freed_entry s e cause.PeerGone)
    (closing-free g a e cause.PeerGone s)
closing-rates g p a s (CloseStep.Shut e) =
    closing-rates_where g a s (closed_by (CloseStep.Shut e) s) _ (entry.Close e)
    (λ bytes. rates-neutral g a (entry.Close e, bytes) s _ (record { limit = λ was. refl; group = λ was. refl })
    (frame-change e (λ x. record x { closed = true }) s (λ x. refl)))

-- A free by a hook is recorded behind its ask, and the group is gone already.
pub rates-recorded : (g : Settings) (a gone : SideId) (s : Plain) (bytes : List ℕ) → ((b : SideId) → same_end gone b ≡ true →
    (side_at s b).group ≡ None) →
    RatesBy g a (freed_entry s gone cause.Hook, bytes) s s
rates-recorded g a gone s bytes fits = record {
  limit = λ was h. h;
  group = λ was h. by_name was h (same_end gone a) refl;
  begun =
      λ h. h;
  stays = λ h. refl;
}
  where
    by_name : (was : Option ℕ) → (side_at s a).group ≡ was → (b : Bool) → same_end gone a ≡ b → (side_at s a).group ≡
        (if same_end gone a then None else was)
    by_name was h true same = fits a same ∙ sym (ap (λ b. if b then None else was) same)
    by_name was h false other = h ∙ sym (ap (λ b. if b then None else was) other)

pub rates-still : (g : Settings) (a : SideId) (x : Event) (s : Plain) → IsNeutral g a x → RatesBy g a x s s
rates-still g a x s neutral = rates-neutral g a x s s neutral (frame-same s)

-- a limit that was set in a turn that was begun is so in a later one
pub begun_later : (turn : ℕ) (old new : Option Standing) → new ≡ old → IsBegun turn old → (later : ℕ) → turn ≤ later → IsBegun later new
begun_later turn old new same begun later le = subst (λ z. IsBegun later z) (sym same) (by_case old begun)
  where
    by_case : (x : Option Standing) → IsBegun turn x → IsBegun later x
    by_case None h = tt
    by_case (Some x) h = omega arith

pub rates-at : (g : Settings) (a : SideId) (x : Event) (s after : Plain) (stage : Stage) (new : State) → new ≡
    record { stage = stage; plain = after } → RatesBy g a x s after → RatesBy g a x s new.plain
rates-at g a x s after stage new e k = subst (λ z. RatesBy g a x s z.plain) (sym e) k

pub rates-puts : (g : Settings) (t : Trace) (x : Stage) (s : Plain) (e : Entry) (bytes : List ℕ) (new : State) (a : SideId) →
    length s.sides ≡ 2 * s.opened → StageFits x s → Puts g t x s e bytes new → RatesBy g a (e, bytes) s new.plain
rates-puts g t Stage.Between s (entry.Turn ms) bytes new a paired fits h =
    rates-at g a (entry.Turn ms, bytes) s _ _ new h.3
    (let same = frame-time_passed g (past g (t ++ (entry.Turn ms, []) ∷ [])) (turned_to ms s) in
    record {
      limit = λ was h. ap (λ z. cfg_of z.0) (same.rates a) ∙ h;
      group = λ was h. ap (λ z. z.1) (same.rates a) ∙ h;
      begun = λ h. begun_later s.turn (side_at s a).limit _ (ap (λ z. z.0) (same.rates a)) h _ (omega (arith, same.shape.turn));
      stays = λ h. ap (λ z. z.0) (same.rates a);
    })
rates-puts g t Stage.Polling s (entry.Poll timeout) bytes new a paired fits h = rates-at g a _ s s _ new h.2
    (rates-still g a (entry.Poll timeout, bytes) s (record { limit = λ was. refl; group = λ was. refl }))
rates-puts g t (Stage.Wanting (w ∷ ws)) s (entry.Want side r w') bytes new a paired fits h = rates-at g a _ s s _ new h.2
    (rates-still g a (entry.Want side r w', bytes) s (record { limit = λ was. refl; group = λ was. refl }))
rates-puts g t (Stage.Wanting []) s entry.PollFailed bytes new a paired fits h = rates-at g a _ s s _ new h.1
    (rates-still g a (entry.PollFailed, bytes) s (record { limit = λ was. refl; group = λ was. refl }))
rates-puts g t (Stage.Marking (w ∷ ws) marks) s (entry.Ready side r w') bytes new a paired fits h =
    rates-at g a _ s s _ new h.3 (rates-still g a (entry.Ready side r w', bytes) s (record { limit = λ was. refl; group = λ was. refl }))
rates-puts g t (Stage.Accepting n marks) s (entry.Opened link connected) bytes new a paired fits h = rates-at g a _ s _ _ new h.4
    (rates-opened g a link connected bytes s paired h.0)
rates-puts g t (Stage.Serving (m ∷ ms)) s (entry.Conn side answer) bytes new a paired fits h =
    rates-at g a _ s _ _ new h.3 (rates-neutral g a (entry.Conn side answer, bytes) s _
    (record { limit = λ was. refl; group = λ was. refl }) (frame-conn g side answer s))
rates-puts g t (Stage.Serving (m ∷ ms)) s (entry.Read side room answer) bytes new a paired fits h =
    rates-at g a _ s _ _ new h.3 (rates-neutral g a (entry.Read side room answer, bytes) s _
    (record { limit = λ was. refl; group = λ was. refl }) (frame-read g side answer s))
rates-puts g t (Stage.Serving (m ∷ ms)) s (entry.Write side offered answer) bytes new a paired fits h =
    rates-at g a _ s _ _ new h.3 (rates-neutral g a (entry.Write side offered answer, bytes) s _
    (record { limit = λ was. refl; group = λ was. refl }) (frame-write g (past g t) side answer s))
rates-puts g t (Stage.Dispatching (r ∷ rs)) s (entry.Fired side y) bytes new a paired fits h = rates-at g a _ s s _ new h.3
    (rates-still g a (entry.Fired side y, bytes) s (record { limit = λ was. refl; group = λ was. refl }))
rates-puts g t (Stage.Firing x rs) s (entry.Asked side ask' answer) bytes new a paired fits h =
    rates-at g a _ s h.3 _ new h.5 (rates-answered g (past g t) s side a bytes (refusal g s ask') ask' answer h.3 refl h.4)
rates-puts g t (Stage.Freeing gone x rs) s e bytes new a paired fits h =
    subst (λ z. RatesBy g a (z, bytes) s new.plain) (sym h.0) (rates-at g a _ s s _ new h.2 (rates-recorded g a gone s bytes fits))
rates-puts g t (Stage.Closing (c ∷ cs)) s e bytes new a paired fits h =
    rates-at g a _ s _ _ new h.2 (subst (ClosesRates g a s (closed_by c s)) h.0 (closing-rates g (past g t) a s c) bytes)
rates-puts g t _ s e bytes new a paired fits h = absurd h

-- what holds of every state that is reached
pub record Rated (g : Settings) (t : Trace) (s : State) : Type 0 where
  pub shape : ShapeIsTold t s.plain
  pub fits : StageFits s.stage s.plain
  pub told : (e : SideId) → RatesAreTold g t s.plain e
  pub begun : (e : SideId) → IsBegun s.plain.turn (side_at s.plain e).limit

pub rated-goes : (g : Settings) (t : Trace) (s new : State) → Rated g t s → Quietly g t s.stage s.plain new → Rated g t new
rated-goes g t s new h q =
    let k = kept-quietly g t s.stage s.plain new q in
    record {
      shape = shape-goes t s.plain new.plain h.shape k;
      fits = fits-quietly g t s.stage s.plain new q;
      told = λ e. record {
        limit = ap (λ z. cfg_of z.limit) (k.sides e) ∙ (h.told e).limit;
        group = ap (λ z. z.group) (k.sides e) ∙
            (h.told e).group;
      };
      begun = λ e. begun_later s.plain.turn (side_at s.plain e).limit _ (ap (λ z. z.limit) (k.sides e)) (h.begun e) _
          (omega (arith, k.turn));
    }

pub rated-puts : (g : Settings) (t : Trace) (s new : State) (e : Entry) (bytes : List ℕ) → Rated g t s → Puts g t s.stage s.plain e
    bytes new → Rated g (t ++ (e, bytes) ∷ []) new
rated-puts g t s new e bytes h p =
    let step : (a : SideId) → RatesBy g a (e, bytes) s.plain new.plain = λ a. rates-puts g t s.stage s.plain e bytes new a
    h.shape.sides h.fits p in
    record {
      shape = shape-put t (e, bytes) s.plain new.plain h.shape (shape-puts g t s.stage s.plain e bytes new p);
      fits = fits-puts g t s.stage s.plain e bytes new p;
      told = λ a. record {
        limit = (step a).limit (limit_after g a t) (h.told a).limit ∙ sym (limit_after-push g a t (e, bytes));
        group = (step a).group (group_after g a t) (h.told a).group ∙ sym (group_after-push g a t (e, bytes));
      };
      begun = λ a. (step a).begun (h.begun a);
    }

pub rated : (g : Settings) {t : Trace} {s : State} → Reaches g t s → Rated g t s
rated g r =
    reaches-holds g (Rated g) (record {
      shape = shape-begins;
      fits = tt;
      told = λ e. record { limit = refl; group = refl };
      begun =
          λ e. tt;
    })
    (rated-goes g) (rated-puts g) r

pub rates-are_told : TraceTellsRates
rates-are_told g t s r e = (rated g r).told e
