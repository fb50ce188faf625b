-- Which calls of a port that fails at one call are counted as faults.
use Rattle.std.proofs.Common.{◌≡◌, ◌≢◌, ℕ, Bool, true, false, if◌then◌else◌, List, Option, refl, sym, ap, subst, arith, inl, inr}
use Rattle.std.proofs.lemmas.Bool.{and_parts}
use Rattle.ev_port.specs.FaultCounts.{Counted}
use Rattle.ev_types.specs.declared.side.SideId.{SideId}
use Rattle.ev_types.specs.Sides.{same_end}
use Rattle.ev_port.specs.declared.port.Want.{Want}
use Rattle.script_port.specs.declared.fail_port.FailPlan.{FailPlan}
use Rattle.script_port.specs.declared.fail_port.FailPlan.TheVariants.{Left, AtPoll, AtAccept, AtEnd}
use Rattle.script_port.specs.declared.fail_port.FailPort.{FailPort}
use Rattle.script_port.specs.declared.fail_port.PortCall.{PortCall}
use Rattle.ev_port.specs.Faults.{EndFaults, PollFaults}
use Rattle.ev_port.specs.Counting.{counted}
use Rattle.script_port.specs.ScriptState.{EndState, PortState}
use Rattle.script_port.specs.ScriptPort.{failed_poll}
use Rattle.script_port.specs.ScriptTold.{script_faults}
use Rattle.script_port.specs.FailPort.{same_call, is_last, one_less, is_failing, after_call, passed, failed_at, end_failed, poll_failed}
use Rattle.script_port.specs.FailPort.{fail_faults}
use Rattle.script_port.proofs.ToldLemmas.{other_number, same_end_tells}
use Rattle.script_port.proofs.FaultLemmas.{faults_at, faults-at_end, faults-wants}
use Rattle.script_port.proofs.ScriptTraceLemmas.{same_self}

-- one fault more, and the same fault beside others
one_more : (n : ℕ) → Counted (counted n 0) (counted n 1) true
one_more n = record { later = omega arith; fault = λ _. omega arith; none = λ h. absurd (cc) }

beside : (a b o : ℕ) (is_fault : Bool) → Counted a b is_fault → Counted (counted a o) (counted b o) is_fault
beside a b o is_fault h = record {
  later = let later = h.later in omega (arith, later);
  fault = λ q. let rose = h.fault q in omega (arith, rose);
  none = λ q. ap (λ n. counted n o) (h.none q);
}

other_end : (e x : SideId) → x ≢ e → same_end e x ≡ false
other_end e x differs = elim (same_end_tells e x) [ inl same ↦ absurd (other_number x e differs (sym same.1)) | inr other ↦ other.0 ]

-- The call that fails

pub end_failing : (p : FailPort) (call : PortCall) (e : SideId) (f : EndState → EndState) → is_failing p call ≡ true →
    ((s : EndState) → (f s).tally.faults ≡ s.tally.faults) →
    EndFaults (fail_faults p) (fail_faults (failed_at p e f)) e true
end_failing p call e f fails same = by_plan p.plan (and_parts (same_call p.kind call) (is_last p.plan) fails).1
  where
    by_plan : (plan : FailPlan) → is_last plan ≡ true → EndFaults (fail_faults (record p { plan = plan }))
        (fail_faults (failed_at p e f)) e true
    by_plan (Left calls) h =
        let here = faults-at_end p.inner.links e f same in
        let own = same_self e in
        record {
          own = rw (here, own) (one_more (faults_at p.inner.links e));
          others = λ x differs. (let other = other_end e x differs in rw (here, other) refl);
          polling = refl;
          listener = refl;
        }
    by_plan AtPoll h = absurd (cc)
    by_plan AtAccept h = absurd (cc)
    by_plan (AtEnd side) h = absurd (cc)

pub poll_failing : (p : FailPort) (call : PortCall) (ws : List Want) (accept : Bool) (timeout : Option ℕ) → is_failing p call ≡ true →
    PollFaults (fail_faults p) (fail_faults (record p { inner = failed_poll p.inner ws accept timeout; plan = AtPoll })) true
poll_failing p call ws accept timeout fails = by_plan p.plan (and_parts (same_call p.kind call) (is_last p.plan) fails).1
  where
    by_plan : (plan : FailPlan) → is_last plan ≡ true → PollFaults (fail_faults (record p { plan = plan }))
        (fail_faults (record p { inner = failed_poll p.inner ws accept timeout; plan = AtPoll })) true
    by_plan (Left calls) h = record {
      ends = λ e. ap (λ n. counted n 0) (faults-wants ws p.inner.links e);
      polling = one_more p.inner.tally.poll_faults;
      listener = refl;
    }
    by_plan AtPoll h = absurd (cc)
    by_plan AtAccept h = absurd (cc)
    by_plan (AtEnd side) h = absurd (cc)

-- Every other call

-- what failed stays
passed_by : (p : FailPort) (kind : PortCall) (new : PortState) (e : SideId) (is_fault : Bool) → EndFaults (script_faults p.inner)
    (script_faults new) e is_fault →
    EndFaults (fail_faults p) (fail_faults (passed p kind new)) e is_fault
passed_by p kind new e is_fault h = by_plan p.plan (same_call p.kind kind)
  where
    kept : (plan : FailPlan) → EndFaults (fail_faults (record p { plan = plan })) (fail_faults
        (record p { inner = new; plan = plan })) e is_fault
    kept plan = record {
      own = beside ((script_faults p.inner).ends e) ((script_faults new).ends e) (end_failed plan e) is_fault h.own;
      others = λ x differs. ap (λ n. counted n (end_failed plan x)) (h.others x differs);
      polling = ap (λ n. counted n (poll_failed plan)) h.polling;
      listener = refl;
    }

    by_plan : (plan : FailPlan) (same : Bool) → EndFaults (fail_faults (record p { plan = plan }))
        (fail_faults (record p { inner = new; plan = if same then one_less plan else plan })) e is_fault
    by_plan plan false = kept plan
    by_plan (Left calls) true = let h = kept (Left calls) in record {
      own = h.own;
      others = h.others;
      polling = h.polling;
      listener
          = h.listener;
    }
    by_plan AtPoll true = kept AtPoll
    by_plan AtAccept true = kept AtAccept
    by_plan (AtEnd side) true = kept (AtEnd side)

-- a call that was counted, and that the inner port answered
pub end_passed : (p : FailPort) (kind : PortCall) (counts : FailPort) (new : PortState) (e : SideId) (is_fault : Bool) → counts ≡
    after_call p kind → EndFaults (script_faults counts.inner) (script_faults new) e is_fault →
    EndFaults (fail_faults p) (fail_faults (record counts { inner = new })) e is_fault
end_passed p kind counts new e is_fault is h =
    subst (λ (m : FailPort). EndFaults (script_faults m.inner) (script_faults new) e is_fault → EndFaults (fail_faults p)
    (fail_faults (record m { inner = new })) e is_fault) (sym is) (passed_by p kind new e is_fault) h
