-- How the code keeps what waits in a relay.
use Rattle.std.specs.Prelude.{◌≡◌, ℕ, ◌+◌, ◌≤◌, ◌<◌, ◌^◌, Bool, true, false, nat_eq, List, [], length, slice_index_or}
use Rattle.std.specs.List.{AllByRecursion, IsDistinct}
use Rattle.std.specs.Map.{keys_of}
use Rattle.deferred_cb.specs.DueCalls.{Entry, Call}
use Rattle.deferred_cb.specs.DueValue.{DueValue}
use Rattle.relay_waits.specs.DueSides.{dues, left_to_call}
use Rattle.relay_waits.specs.WaitsValue.{WaitsValue, hooks_of}
use Rattle.relay_waits.specs.declared.waits.Waits.TheInside as waits

abbrev pub waits_value : waits.Inside → WaitsValue
waits_value w = record {
  hooks = hooks_of w.hooked.items;
  due = dues w.waiting.pending;
  batch = left_to_call w.firing.batch;
  timers = w.timers;
}

-- the number is that of a side with a hook
abbrev pub HasHook : List Bool → ℕ → Type 0
HasHook hooked n = (slice_index_or hooked n false ≡ true) × (n < 2 ^ 33)

-- Only sides with a hook have entries and reasons, and each of them has room for an entry, in what is pending and in what is
-- fired. The one has no batch, and in the other nothing is pending.
pub record AreDue (hooked : List Bool) (waiting firing : DueValue) : Type 0 where
  pub distinct : IsDistinct nat_eq (keys_of waiting.pending)
  pub entries : AllByRecursion (λ (e : Entry). HasHook hooked e.0) waiting.pending
  pub calls : AllByRecursion (λ (call : Call). HasHook hooked call.0) firing.batch
  pub no_batch : waiting.batch ≡ []
  pub none_pending : firing.pending ≡ []
  pub room : length hooked ≤ length waiting.pending + waiting.spare
  pub next_room : length hooked ≤ firing.spare

abbrev pub KeepsDue : waits.Inside → Type 0
KeepsDue w = AreDue w.hooked.items w.waiting w.firing
