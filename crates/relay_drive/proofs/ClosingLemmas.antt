-- What a step of closing puts and leaves as it is.
use Rattle.std.proofs.Common.{◌≡◌, ℕ, zero, suc, ◌<◌, Bool, true, false, if◌then◌else◌, Option, Some, None, sym, [], ◌∷◌, ◌++◌, length}
use Rattle.std.proofs.Common.{get_or, refl, ap, subst, arith, append_assoc, option_map, append-nil}
use Rattle.ev_types.specs.declared.side.SideId.{SideId}
use Rattle.ev_types.specs.declared.entry.Entry.{Entry}
use Rattle.ev_types.specs.declared.why.Cause.{Cause}
use Rattle.ev_types.specs.declared.why.Cause.TheVariants as cause
use Rattle.ev_types.specs.Trace.{Event, Trace}
use Rattle.ev_port.specs.Vouching.{LongerBy}
use Rattle.std.specs.List.{list_all}
use Rattle.ev_types.specs.Sides.{same_end}
use Rattle.relay_model.specs.Plays.{is_served}
use Rattle.ev_types.specs.Told.{EndTold, PortTold, Stays}
use Rattle.ev_port.specs.EndSteps.{EndStep, no_step, EndWent, EndsWent, AllWent, PortStays}
use Rattle.ev_port.specs.Calls.{IsUnheard}
use Rattle.ev_port.proofs.StepLemmas.{EndWent-none}
use Rattle.relay_drive.proofs.EndNames.{same_end-true, same_end-false}
use Rattle.relay_drive.proofs.CalmLemmas.{Same}
use Rattle.relay_drive.proofs.TiedLemmas.{step_of, close_write_says, close_says}
use Rattle.relay_core.specs.declared.close.Closing.{Closing}
use Rattle.relay_core.specs.declared.close.Closing.TheVariants as closing
use Rattle.relay_state.specs.State.{State}
use Rattle.relay_state.specs.Closing.{in_side, out_side}
use Rattle.relay_core.specs.Steps.{link_of_step, steps_of, after_closing, entry_events}
use Rattle.relay_drive.specs.Phases.{closing_events, told_events, told_step}
use Rattle.relay_model.specs.Plain.{side_at}
use Rattle.relay_model.specs.Close.{fault, freed_entry}
use Rattle.relay_model.specs.Told.{has_failed}
use Rattle.relay_drive.specs.Advances.{has_poll_failed}

-- what is put of a faulty side, whatever its fault is
faulty : (s : State) (e : SideId) (P : Trace → Type 0) → P [] → ((why : Cause) → P ((freed_entry s.plain e why, []) ∷ [])) →
    P (entry_events (option_map (freed_entry s.plain e) (fault (side_at s.plain e))))
faulty s e P none some = go (fault (side_at s.plain e))
  where
    go : (o : Option Cause) → P (entry_events (option_map (freed_entry s.plain e) o))
    go None = none
    go (Some why) = some why

pub closing_served : (s : State) (step : Closing) → list_all is_served (closing_events s step) ≡ true
closing_served s (closing.Faulty e) = faulty s e (λ z. list_all is_served z ≡ true) refl (λ why. refl)
closing_served s (closing.EndWriting e) = refl
closing_served s (closing.BothDone k) = refl
closing_served s (closing.PeerGone e) = refl
closing_served s (closing.Shut e) = refl

pub closing_same : (s : State) (step : Closing) → Same s (after_closing s step)
closing_same s (closing.Faulty e) = record { time = refl; opened = refl; settings = refl }
closing_same s (closing.EndWriting e) = record { time = refl; opened = refl; settings = refl }
closing_same s (closing.BothDone k) = record { time = refl; opened = refl; settings = refl }
closing_same s (closing.PeerGone e) = record { time = refl; opened = refl; settings = refl }
closing_same s (closing.Shut e) = record { time = refl; opened = refl; settings = refl }

-- what the entries of a step say of each end is what the end heard of it
pub closing_says : (s : State) (step : Closing) (e : SideId) → step_of e (closing_events s step) ≡ told_step step e
closing_says s (closing.Faulty end) e = faulty s end (λ z. step_of e z ≡ no_step) refl (λ why. refl)
closing_says s (closing.EndWriting end) e = close_write_says end e
closing_says s (closing.BothDone k) e = refl
closing_says s (closing.PeerGone end) e = refl
closing_says s (closing.Shut end) e = close_says end e

-- a step of which no end hears
pub tells_none : (ends : SideId → EndTold) → AllWent ends ends (λ e. no_step)
tells_none ends = λ e. EndWent-none (ends e)

-- and one that one end hears
pub tells_one : (ends ends' : SideId → EndTold) (end : SideId) (step : EndStep) → EndsWent ends ends' end step →
    AllWent ends ends' (λ e. if same_end end e then step else no_step)
tells_one ends ends' end step h = λ e. go e (same_end end e) refl
  where
    go : (e : SideId) (b : Bool) → same_end end e ≡ b → EndWent (ends e) (ends' e) (if b then step else no_step)
    go e true k = subst (λ z. EndWent (ends z) (ends' z) step) (sym (same_end-true end e k)) h.own
    go e false k = h.others e (same_end-false end e k)

stays-same : {T : Type 0} (a : Option T) → Stays a a
stays-same None = tt
stays-same (Some x) = refl

pub port_stays : (told : PortTold) → PortStays told told
port_stays told = record {
  accept_polls = stays-same told.accept_polls;
  timeout = stays-same told.timeout;
  links = stays-same told.links;
  accepting = stays-same told.accepting;
  readings = stays-same told.readings;
  reading = stays-same told.reading;
  started = stays-same told.started;
}

pub closing_unfailed : (s : State) (step : Closing) (e : SideId) → has_failed e (closing_events s step) ≡ false
closing_unfailed s (closing.Faulty x) e = faulty s x (λ z. has_failed e z ≡ false) refl (λ why. refl)
closing_unfailed s (closing.EndWriting x) e = refl
closing_unfailed s (closing.BothDone k) e = refl
closing_unfailed s (closing.PeerGone x) e = refl
closing_unfailed s (closing.Shut x) e = refl

pub closing_polls : (s : State) (step : Closing) → has_poll_failed (closing_events s step) ≡ false
closing_polls s (closing.Faulty e) = faulty s e (λ z. has_poll_failed z ≡ false) refl (λ why. refl)
closing_polls s (closing.EndWriting e) = refl
closing_polls s (closing.BothDone k) = refl
closing_polls s (closing.PeerGone e) = refl
closing_polls s (closing.Shut e) = refl

-- a port vouches for what it heard, and for frees
pub closing_vouched : {Plan : Type 0} (v w : Plan → Trace → Type 0) (s : State) (step : Closing) →
    LongerBy v w (told_events step) → ((e : Entry) → IsUnheard e → LongerBy w w ((e, []) ∷ [])) → LongerBy v w (closing_events s step)
closing_vouched v w s (closing.Faulty e) h law =
    faulty s e (λ z. LongerBy v w z) (λ plan t k. h plan t k)
    (λ why plan t k. subst (w plan) (ap (λ z. z ++ (freed_entry s.plain e why, []) ∷ []) (append-nil t))
    (law _ tt plan (t ++ []) (h plan t k)))
closing_vouched v w s (closing.EndWriting e) h law = h
closing_vouched v w s (closing.BothDone k) h law = λ plan t p.
    let one : Event = (freed_entry s.plain (in_side k) cause.Done, []) in
    let first = subst (w plan) (ap (λ z. z ++ one ∷ []) (append-nil t)) (law _ tt plan (t ++ []) (h plan t p)) in
    subst (w plan) (append_assoc t (one ∷ []) ((freed_entry s.plain (out_side k) cause.Done, []) ∷ []))
    (law _ tt plan (t ++ one ∷ []) first)
closing_vouched v w s (closing.PeerGone e) h law =
    λ plan t k. subst (w plan) (ap (λ z. z ++ (freed_entry s.plain e cause.PeerGone, []) ∷ []) (append-nil t))
    (law _ tt plan (t ++ []) (h plan t k))
closing_vouched v w s (closing.Shut e) h law = h

-- each step of closing a link is of that link
pub closing_link : (k i : ℕ) (d : Closing) → i < length (steps_of k) → link_of_step (get_or (steps_of k) i d) ≡ k
closing_link k zero d h = refl
closing_link k (suc zero) d h = refl
closing_link k (suc (suc zero)) d h = refl
closing_link k (suc (suc (suc zero))) d h = refl
closing_link k (suc (suc (suc (suc zero)))) d h = refl
closing_link k (suc (suc (suc (suc (suc zero))))) d h = refl
closing_link k (suc (suc (suc (suc (suc (suc zero)))))) d h = refl
closing_link k (suc (suc (suc (suc (suc (suc (suc zero))))))) d h = refl
closing_link k (suc (suc (suc (suc (suc (suc (suc (suc zero)))))))) d h = refl
closing_link k (suc (suc (suc (suc (suc (suc (suc (suc (suc n))))))))) d h = absurd (omega arith)
