-- Which call of a port is counted as which kind of fault, and that no other call is.
use Rattle.std.specs.Prelude.{◌≡◌, ◌≢◌, ℕ, Bool}
use Rattle.ev_port.specs.FaultCounts.{Counted}
use Rattle.ev_types.specs.declared.side.SideId.{SideId}

-- how often each kind of fault was met
pub record Faults : Type 0 where
  pub ends : SideId → ℕ
  pub polling : ℕ
  pub listener : ℕ

-- no call but the one that is answered Failed counts, and none counts elsewhere
pub record FaultsStay (old new : Faults) : Type 0 where
  pub ends : (e : SideId) → new.ends e ≡ old.ends e
  pub polling : new.polling ≡ old.polling
  pub listener : new.listener ≡ old.listener

pub record EndFaults (old new : Faults) (end : SideId) (is_fault : Bool) : Type 0 where
  pub own : Counted (old.ends end) (new.ends end) is_fault
  pub others : (e : SideId) → e ≢ end → new.ends e ≡ old.ends e
  pub polling : new.polling ≡ old.polling
  pub listener : new.listener ≡ old.listener

pub record PollFaults (old new : Faults) (is_fault : Bool) : Type 0 where
  pub ends : (e : SideId) → new.ends e ≡ old.ends e
  pub polling : Counted old.polling new.polling is_fault
  pub listener : new.listener ≡ old.listener

pub record ListenerFaults (old new : Faults) (is_fault : Bool) : Type 0 where
  pub ends : (e : SideId) → new.ends e ≡ old.ends e
  pub polling : new.polling ≡ old.polling
  pub listener : Counted old.listener new.listener is_fault
