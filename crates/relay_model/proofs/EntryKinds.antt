-- How the entries of one sort are put: those that free a side, end writing or close an end, and those that open a link.
use Rattle.std.proofs.Common.{◌≡◌, ℕ, ◌+◌, ◌<◌, Bool, true, false, List, [], ◌∷◌, Some, if◌then◌else◌, refl, arith}
use Rattle.ev_types.specs.declared.side.SideId.{SideId}
use Rattle.ev_types.specs.declared.why.Cause.TheVariants as cause
use Rattle.ev_types.specs.declared.entry.Entry.{Entry}
use Rattle.ev_types.specs.declared.entry.Entry.TheVariants as entry
use Rattle.ev_types.specs.Trace.{Event, Trace}
use Rattle.relay_model.specs.Settings.{Settings}
use Rattle.relay_model.specs.Due.{Reason}
use Rattle.relay_model.specs.Plain.{Plain, with_link}
use Rattle.relay_model.specs.Past.{Past, past}
use Rattle.relay_model.specs.Rooms.{Want}
use Rattle.relay_model.specs.Close.{CloseStep, freed_entry, closing_entry, closed_by, steps_left}
use Rattle.relay_model.specs.Stages.{Stage, Fire, State, at, Accepting, Firing, Freeing, Closing}
use Rattle.relay_model.specs.Told.{end_closed_by}
use Rattle.relay_model.specs.Totals.{is_opened}
use Rattle.relay_model.proofs.KindLemmas.{ClosedKind, closed-kind, PutKind}

-- does an entry free a side, end writing or close an end
abbrev pub is_ending : Entry → Bool
is_ending (entry.Freed side why moved given) = true
is_ending (entry.CloseWrite side) = true
is_ending (entry.Close side) = true
is_ending _ = false

-- a fire in which a free was asked for puts such an entry, or closing
pub data EndKind (g : Settings) (t : Trace) (s : Plain) : Stage → Event → State → Type 0 where
  recorded : {gone : SideId} {x : Fire} {rs : List Reason} → EndKind g t s (Freeing gone x rs) (freed_entry s gone cause.Hook, [])
      (at (Firing x rs) s)
  closed : {c : CloseStep} {cs : List CloseStep} {e : Entry} → closing_entry g (past g t) s c ≡ Some e → EndKind g t s
      (Closing (c ∷ cs)) (e, []) (at (Closing (steps_left c cs)) (closed_by c s))

pub end-kind : (g : Settings) (t : Trace) (s : Plain) (x : Stage) (y : Event) (new : State) → PutKind g t s x y new →
    is_ending y.0 ≡ true → EndKind g t s x y new
end-kind g t s x y new (PutKind.turned a b) h = absurd (cc)
end-kind g t s x y new (PutKind.polled) h = absurd (cc)
end-kind g t s x y new (PutKind.wanted a) h = absurd (cc)
end-kind g t s x y new (PutKind.poll_failed) h = absurd (cc)
end-kind g t s x y new (PutKind.readied a) h = absurd (cc)
end-kind g t s x y new (PutKind.opened) h = absurd (cc)
end-kind g t s x y new (PutKind.checked a) h = absurd (cc)
end-kind g t s x y new (PutKind.was_read left a b) h = absurd (cc)
end-kind g t s x y new (PutKind.written a b c) h = absurd (cc)
end-kind g t s x y new (PutKind.fired a) h = absurd (cc)
end-kind g t s x y new (PutKind.frees a same) h = absurd (cc)
end-kind g t s x y new (PutKind.asked same k l) h = absurd (cc)
end-kind g t s x y new (PutKind.recorded) h = EndKind.recorded
end-kind g t s x y new (PutKind.closed a) h = EndKind.closed a

-- an end is closed by such an entry
pub closes-ends : (z : SideId) (y : Event) → end_closed_by z y ≡ true → is_ending y.0 ≡ true
closes-ends z (entry.Close side, bytes) h = refl
closes-ends z _ h = absurd (cc)

-- closing puts no other
pub closed-ends : (g : Settings) (p : Past) (s : Plain) (c : CloseStep) (e : Entry) → closing_entry g p s c ≡ Some e →
    is_ending e ≡ false → ⊥
closed-ends g p s c e a other = go c e (closed-kind g p s c e a) other
  where
    go : (c : CloseStep) (e : Entry) → ClosedKind g p s c e → is_ending e ≡ false → ⊥
    go c e (ClosedKind.faulty a b) h = cc
    go c e (ClosedKind.write_ended a b) h = cc
    go c e (ClosedKind.in_done a b d f) h = cc
    go c e (ClosedKind.out_done) h = cc
    go c e (ClosedKind.peer_gone a b d) h = cc
    go c e (ClosedKind.shut a b) h = cc

-- the next link is opened
pub data OpenKind (g : Settings) (s : Plain) : Event → State → Type 0 where
  opens : (n : ℕ) {marks : List Want} {connected : Bool} → OpenKind g s (entry.Opened s.opened connected, [])
      (at (Accepting (n + 1) marks) (with_link g connected s))

pub open-kind : (g : Settings) (t : Trace) (s : Plain) (x : Stage) (y : Event) (new : State) → PutKind g t s x y new →
    is_opened y ≡ true → OpenKind g s y new
open-kind g t s x y new (PutKind.turned a b) h = absurd (cc)
open-kind g t s x y new (PutKind.polled) h = absurd (cc)
open-kind g t s x y new (PutKind.wanted a) h = absurd (cc)
open-kind g t s x y new (PutKind.poll_failed) h = absurd (cc)
open-kind g t s x y new (PutKind.readied a) h = absurd (cc)
open-kind g t s x y new (PutKind.opened {n = n}) h = OpenKind.opens n
open-kind g t s x y new (PutKind.checked a) h = absurd (cc)
open-kind g t s x y new (PutKind.was_read left a b) h = absurd (cc)
open-kind g t s x y new (PutKind.written a b c) h = absurd (cc)
open-kind g t s x y new (PutKind.fired a) h = absurd (cc)
open-kind g t s x y new (PutKind.frees a same) h = absurd (cc)
open-kind g t s x y new (PutKind.asked same k l) h = absurd (cc)
open-kind g t s x y new (PutKind.recorded) h = absurd (cc)
open-kind g t s x y new (PutKind.closed {c = c} {e = e} a) h = absurd (closed-ends g (past g t) s c e a (other (e, []) h))
  where
    other : (y : Event) → is_opened y ≡ true → is_ending y.0 ≡ false
    other (entry.Opened link connected, bytes) h = refl
    other _ h = absurd (cc)

-- where more links are open, one was opened
pub more-opened : (g : Settings) (t : Trace) (s : Plain) (x : Stage) (y : Event) (new : State) → PutKind g t s x y new →
    new.plain.opened ≡ s.opened + (if is_opened y then 1 else 0) → s.opened < new.plain.opened → OpenKind g s y new
more-opened g t s x y new kind o more = go (is_opened y) refl o
  where
    go : (q : Bool) → is_opened y ≡ q → new.plain.opened ≡ s.opened + (if q then 1 else 0) → OpenKind g s y new
    go true h o = open-kind g t s x y new kind h
    go false h o = absurd (omega (arith, o, more))
