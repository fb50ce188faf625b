-- What a port answers that wraps a script port and fails at one call of one kind, and what it counts of faults.
use Rattle.std.specs.Prelude.{◌≡◌, ℕ, ◌-◌, ◌==◌, length, Bool, true, false, ◌&&◌, if◌then◌else◌, List}
use Rattle.ev_types.specs.declared.side.SideId.{SideId}
use Rattle.ev_types.specs.Sides.{same_end}
use Rattle.ev_types.specs.declared.answer.WriteAnswer.{WriteAnswer}
use Rattle.ev_types.specs.declared.answer.WriteAnswer.TheVariants as write
use Rattle.ev_types.specs.Trace.{Trace}
use Rattle.script_port.specs.ScriptPlan.{ScriptPlan}
use Rattle.script_port.specs.declared.fail_port.FailPlan.{FailPlan}
use Rattle.script_port.specs.declared.fail_port.FailPlan.TheVariants.{Left, AtPoll, AtAccept, AtEnd}
use Rattle.script_port.specs.declared.fail_port.FailPort.{FailPort}
use Rattle.script_port.specs.declared.fail_port.PortCall.{PortCall}
use Rattle.script_port.specs.declared.fail_port.PortCall.TheVariants as call
use Rattle.ev_port.specs.Counting.{counted}
use Rattle.script_port.specs.EndTallies.{once}
use Rattle.ev_port.specs.Faults.{Faults}
use Rattle.script_port.specs.FailedCalls.{failed_write}
use Rattle.script_port.specs.ScriptState.{EndState, PortState}
use Rattle.script_port.specs.ScriptLinks.{at_end, WroteAt}
use Rattle.script_port.specs.ScriptTold.{script_faults}

-- Which call fails

abbrev pub same_call : PortCall → PortCall → Bool
same_call call.Poll call.Poll = true
same_call call.Accept call.Accept = true
same_call call.ConnectState call.ConnectState = true
same_call call.Read call.Read = true
same_call call.Write call.Write = true
same_call _ _ = false

-- is the next call of its kind the one that fails
abbrev pub is_last : FailPlan → Bool
is_last (Left calls) = calls == 1
is_last _ = false

abbrev pub one_less : FailPlan → FailPlan
one_less (Left calls) = Left (calls - 1)
one_less plan = plan

-- does a call of this kind fail now
abbrev pub is_failing : FailPort → PortCall → Bool
is_failing p kind = same_call p.kind kind && is_last p.plan

-- a call of this kind was made that doesn't fail
abbrev pub after_call : FailPort → PortCall → FailPort
after_call p kind = record p { plan = if same_call p.kind kind then one_less p.plan else p.plan }

-- such a call was made, and this came of the inner port
abbrev pub passed : FailPort → PortCall → PortState → FailPort
passed p kind inner = record (after_call p kind) { inner = inner }

-- a call on this end failed: it is counted there, and nothing else changed
abbrev pub failed_at : FailPort → SideId → (EndState → EndState) → FailPort
failed_at p e counts = record p { inner = record p.inner { links = at_end e counts p.inner.links }; plan = AtEnd e }

-- a write failed, or else did what the inner port's does
abbrev pub WroteOrFailed : Bool → FailPort → FailPort → SideId → List ℕ → WriteAnswer → Type 0
WroteOrFailed true old new e from answer = (answer ≡ write.Failed) × (new ≡ failed_at old e (failed_write (length from)))
WroteOrFailed false old new e from answer =
    WroteAt old.inner.links new.inner.links e from answer
    × (new ≡ passed old call.Write (record old.inner { links = new.inner.links }))

-- Faults

-- how often its own failing call was a poll, an accept or a call on an end: once at most
abbrev pub poll_failed : FailPlan → ℕ
poll_failed AtPoll = 1
poll_failed _ = 0

abbrev pub accept_failed : FailPlan → ℕ
accept_failed AtAccept = 1
accept_failed _ = 0

abbrev pub end_failed : FailPlan → SideId → ℕ
end_failed (AtEnd side) e = once (same_end side e)
end_failed _ e = 0

-- the inner port's faults and its own
abbrev pub fail_faults : FailPort → Faults
fail_faults p =
    let inner : Faults = script_faults p.inner in
    record {
      ends = λ e. counted (inner.ends e) (end_failed p.plan e);
      polling = counted inner.polling (poll_failed p.plan);
      listener = counted inner.listener (accept_failed p.plan);
    }

-- it vouches for nothing, since no script answers as its failing call does
abbrev pub vouches_nothing : FailPort → ScriptPlan → Trace → Type 0
vouches_nothing p plan t = ⊥
