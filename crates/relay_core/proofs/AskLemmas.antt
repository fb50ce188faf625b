-- Asks that are refused, and what is recorded of them.
use Rattle.std.proofs.Common.{◌≡◌, ◌≢◌, ◌<◌, Bool, true, false, ◌||◌, if◌then◌else◌, [], ◌∷◌, ◌++◌, Some, None, Err}
use Rattle.std.proofs.Common.{refl, sym, ◌∙◌, ap, subst}
use Rattle.ev_types.specs.AskNumbers.{IsAct}
use Rattle.ev_types.specs.declared.act.Act.{Act}
use Rattle.ev_types.specs.declared.act.Act.TheVariants as act
use Rattle.ev_types.specs.declared.answer.AskAnswer.{AskAnswer}
use Rattle.ev_types.specs.declared.answer.AskAnswer.TheVariants as ask
use Rattle.ev_types.specs.declared.entry.Entry.TheVariants as entry
use Rattle.ev_types.specs.declared.side.SideId.{SideId}
use Rattle.relay_model.specs.Settings.{Settings}
use Rattle.relay_model.specs.Plain.{Plain}
use Rattle.relay_model.specs.Asks.{most_asks, names_no_live, has_bad_value, names_no_group, has_too_many, refusal}
use Rattle.relay_state.specs.State.{State}
use Rattle.relay_state.specs.Asking.{Answered, ask_events, stops}
use Rattle.relay_core.specs.Fires.{AsksOnce, IsRecorded, Recorded, answer_of, fault_of}
use Rattle.relay_core.specs.RelayValue.{RelayValue}

some-of : (a b : AskAnswer) → Some a ≡ Some b → a ≡ b
some-of a b h = cc h

-- a refusal is one of four
refused-told : (a b c d : Bool) (r : AskAnswer) →
    (if a then Some ask.NotLive else
    (if b then Some ask.BadValue else (if c then Some ask.NoGroup else (if d then Some ask.TooManyRefs else None)))) ≡ Some r →
    (answer_of (Err (fault_of r)) ≡ Some r) × (r ≢ ask.Ok)
refused-told true b c d r h =
    subst (λ z. (answer_of (Err (fault_of z)) ≡ Some z) × (z ≢ ask.Ok)) (some-of ask.NotLive r h) (refl, λ e. absurd (cc e))
refused-told false true c d r h =
    subst (λ z. (answer_of (Err (fault_of z)) ≡ Some z) × (z ≢ ask.Ok)) (some-of ask.BadValue r h) (refl, λ e. absurd (cc e))
refused-told false false true d r h =
    subst (λ z. (answer_of (Err (fault_of z)) ≡ Some z) × (z ≢ ask.Ok)) (some-of ask.NoGroup r h) (refl, λ e. absurd (cc e))
refused-told false false false true r h =
    subst (λ z. (answer_of (Err (fault_of z)) ≡ Some z) × (z ≢ ask.Ok)) (some-of ask.TooManyRefs r h) (refl, λ e. absurd (cc e))
refused-told false false false false r h = absurd (cc h)

pub refusal-told : (g : Settings) (p : Plain) (a : Act) (r : AskAnswer) → refusal g p a ≡ Some r →
    (answer_of (Err (fault_of r)) ≡ Some r) × (r ≢ ask.Ok)
refusal-told g p a r h = refused-told (names_no_live p a) (has_bad_value p a) (names_no_group g a) (has_too_many p a) r h

-- an answer other than Ok leaves one event
refused-event : (me : SideId) (s : State) (a : Act) (r : AskAnswer) → r ≢ ask.Ok → ask_events me s a r ≡ (entry.Asked me a r, []) ∷ []
refused-event me s a ask.Ok h = absurd (h refl)
refused-event me s (act.Free e) r h = refl
refused-event me s a r h = refl

-- and stops no run
refused-goes_on : (a : Act) (r : AskAnswer) → r ≢ ask.Ok → stops (a, r) ≡ false
refused-goes_on a ask.Ok h = absurd (h refl)
refused-goes_on act.Stop r h = refl
refused-goes_on a r h = refl

or-false : (b c : Bool) → c ≡ false → b ≡ (b || c)
or-false true c h = refl
or-false false c h = sym h

-- A refused ask was recorded.
pub recorded-refused : (old new : RelayValue) (a : Act) (r : AskAnswer) → IsAct a → old.asks < most_asks →
    refusal old.state.settings old.state.plain a ≡ Some r → IsRecorded a r old new → AsksOnce old a (answer_of (Err (fault_of r))) new
recorded-refused old new a r fits few is h =
    let told = refusal-told old.state.settings old.state.plain a r is in
    let recorded : Recorded old a r new = record {
      few = few;
      does = record {
        fits = fits;
        answered = subst (λ o. Answered o old.state a r new.state) (sym is) (refl, h.state);
        entries = refl;
      };
      log = h.log ∙ ap (λ z. old.log ++ z) (sym (refused-event old.me old.state a r told.1));
      asks = h.asks;
      me = h.me;
      stopped = h.stopped ∙ or-false old.stopped (stops (a, r)) (refused-goes_on a r told.1);
    } in
    subst (λ o. AsksOnce old a o new) (sym told.0) recorded
