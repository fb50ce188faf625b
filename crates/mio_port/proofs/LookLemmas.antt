-- Whether a poll asks the kernel: from the parts of a poll.
use Rattle.std.proofs.Common.{◌≡◌, ◌≤◌, ◌∙◌, ℕ, ◌-◌, Bool, ◌&&◌, ◌||◌, not, List, Option, option_map, sym, ap}
use Rattle.std.proofs.Math.Path.{transport}
use Rattle.ev_port.specs.declared.port.Polled.{Polled}
use Rattle.ev_port.specs.Polling.{is_failed_poll}
use Rattle.mio_port.specs.declared.acceptor.Acceptor.{Acceptor}
use Rattle.mio_port.specs.declared.end.End.{End}
use Rattle.mio_port.specs.declared.kernel.Kernel.{Kernel}
use Rattle.mio_port.specs.declared.mio_port.MioPort.{MioPort}
use Rattle.mio_port.specs.Acceptor.{after_time, is_open}
use Rattle.mio_port.specs.Asking.{Looked, PollLooked}
use Rattle.mio_port.specs.EndPlaces.{all_handed_on}
use Rattle.mio_port.specs.Waiting.{longest_wait}

-- A poll that handed on what was pending, read this time, found this ready, and looked so. What came behind the look left the kernel, the
-- ends and the ready bit.
pub looked-at : {R : Type 0} (any accept : Bool) (timeout : Option ℕ) (old mid new : MioPort R) (answer : Polled) (time : ℕ) (is_any : Bool)
    (pause most : Option ℕ) (kernel : Option Kernel) (ends : List (Option End)) (ready worked : Bool) → old.clock.last ≤ time → mid.kernel ≡ old.kernel
    → mid.ends.ends.items ≡ all_handed_on old.ends.ends.items → mid.acceptor ≡ after_time old.acceptor time
    → pause ≡ option_map (λ to. to - time) mid.acceptor.paused_to
    → is_any ≡ (any || (accept && is_open mid.acceptor)) → most ≡ longest_wait is_any accept timeout pause
    → Looked is_any most mid.kernel kernel mid.ends.ends.items ends mid.acceptor.ready ready worked
    → new.kernel ≡ kernel → new.ends.ends.items ≡ ends → new.acceptor.ready ≡ ready → worked ≡ not (is_failed_poll answer)
    → PollLooked any accept timeout old new answer
looked-at {R} any accept timeout old mid new answer time is_any pause most kernel ends ready worked later same_kernel same_ends acceptor pause_is any_is
    most_is looked kernel_is ends_is ready_is worked_is =
    let paused : Acceptor → Option ℕ = λ d. option_map (λ to. to - time) d.paused_to in
    let any_by : is_any ≡ (any || (accept && is_open (after_time old.acceptor time))) = any_is ∙ ap (λ (d : Acceptor). any || (accept && is_open d)) acceptor in
    let most_by : most ≡ longest_wait (any || (accept && is_open (after_time old.acceptor time))) accept timeout (paused (after_time old.acceptor time)) =
    most_is ∙ (λ i. longest_wait (any_by i) accept timeout ((pause_is ∙ ap paused acceptor) i)) in
    record {
      time = time;
      later = later;
      looked = transport (λ i. Looked (any_by i) (most_by i) (same_kernel i) (sym kernel_is i) (same_ends i) (sym ends_is i)
          ((ap (λ (d : Acceptor). d.ready) acceptor) i) (sym ready_is i) (worked_is i)) looked;
    }
