-- Whether a poll asks the kernel, how long it may wait, and what it was told.
use Rattle.std.specs.Prelude.{◌≡◌, ◌≤◌, ℕ, ◌-◌, Bool, true, false, ◌&&◌, ◌||◌, not, List, Option, Some, None, IsSomeAnd, option_map}
use Rattle.mio.specs.Events.{items}
use Rattle.ev_port.specs.declared.port.Polled.{Polled}
use Rattle.ev_port.specs.Polling.{is_failed_poll}
use Rattle.mio_port.specs.declared.acceptor.Acceptor.{Acceptor}
use Rattle.mio_port.specs.declared.end.End.{End}
use Rattle.mio_port.specs.declared.kernel.Kernel.{Kernel}
use Rattle.mio_port.specs.declared.mio_port.MioPort.{MioPort}
use Rattle.mio_port.specs.Acceptor.{after_time, is_open}
use Rattle.mio_port.specs.EndPlaces.{all_handed_on}
use Rattle.mio_port.specs.Reports.{AsReported}
use Rattle.mio_port.specs.Waiting.{looks_after, is_due, longest_wait}

-- the kernel was not asked: a poll more went by, its watch stays, and nothing was told
pub record WasPassed (was : Kernel) (now_kernel : Option Kernel) (old new : List (Option End)) (ready now_ready worked : Bool) : Type 0 where
  pub kernel : IsSomeAnd now_kernel (λ k. (k.poll ≡ was.poll) × (k.skipped ≡ looks_after was.skipped) × (k.most ≡ was.most)
      × (k.spare ≡ was.spare))
  pub ends : new ≡ old
  pub listener : now_ready ≡ ready
  pub succeeded : worked ≡ true

-- It was asked, for at most so long, and it says whether that worked; where it did its reports tell what is new, and else nothing is. The
-- descriptor that is kept stays.
pub record WasAsked (longest : Option ℕ) (was kernel : Kernel) (old new : List (Option End)) (ready now_ready worked : Bool) : Type 0 where
  pub skipped : kernel.skipped ≡ 0
  pub most : kernel.most ≡ longest
  pub answered : kernel.worked ≡ worked
  pub spare : kernel.spare ≡ was.spare
  pub told : worked ≡ true → AsReported (items kernel.events) old new ready now_ready
  pub untold : worked ≡ false → (new ≡ old) × (now_ready ≡ ready)

-- the kernel was passed by, or was asked
abbrev pub PassedOrAsked : Bool → Option ℕ → Kernel → Option Kernel → List (Option End) → List (Option End) → Bool → Bool → Bool → Type 0
PassedOrAsked true most was now_kernel old new ready now_ready worked = WasPassed was now_kernel old new ready now_ready worked
PassedOrAsked false most was now_kernel old new ready now_ready worked =
    IsSomeAnd now_kernel (λ k. WasAsked most was k old new ready now_ready worked)

-- It is asked where nothing that is asked for is ready, and at each 16th poll where something is. Before the first start there is none.
abbrev pub Looked : Bool → Option ℕ → Option Kernel → Option Kernel → List (Option End) → List (Option End) → Bool → Bool → Bool → Type 0
Looked is_any most None now_kernel old new ready now_ready worked =
    (now_kernel ≡ None) × (new ≡ old) × (now_ready ≡ ready) × (worked ≡ false)
Looked is_any most (Some was) now_kernel old new ready now_ready worked =
    PassedOrAsked (is_any && not (is_due was.skipped)) most was now_kernel old new ready now_ready worked

-- A poll of wants, of which one can be done or none: from the time at which it began, after what was pending was handed to the system.
pub record PollLooked {R : Type 0} (any_ready accept : Bool) (timeout : Option ℕ) (old new : MioPort R) (answer : Polled) : Type 0 where
  pub time : ℕ
  pub later : old.clock.last ≤ time
  pub looked : let acceptor : Acceptor = after_time old.acceptor time in
      let is_any : Bool = any_ready || (accept && is_open acceptor) in
      Looked is_any (longest_wait is_any accept timeout (option_map (λ to. to - time) acceptor.paused_to)) old.kernel new.kernel
      (all_handed_on old.ends.ends.items) new.ends.ends.items old.acceptor.ready new.acceptor.ready (not (is_failed_poll answer))
