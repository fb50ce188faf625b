-- Whether a port was told that no more links will be asked for.
use Rattle.std.proofs.Common.{◌≡◌, ◌==◌, ◌||◌, ℕ, nat_lt, Bool, true, false, not, List, Result, Ok, Err, refl, sym, ◌∙◌, subst, arith}
use Rattle.std.proofs.lemmas.Bool.Decides.{nat_tests}
use Rattle.std.proofs.lemmas.Bool.{and_parts, eqb-true}
use Rattle.ev_types.specs.declared.status.Status.{Status}
use Rattle.ev_types.specs.declared.status.Status.TheVariants as status
use Rattle.ev_port.specs.declared.port.Port as port
use Rattle.relay_drive.specs.declared.fault.DriveFault.{DriveFault}
use Rattle.relay_drive.specs.declared.fault.DriveFault.TheVariants as fault
use Rattle.relay_state.specs.Counting.{open_below}
use Rattle.relay_state.specs.State.{State}
use Rattle.relay_serve.specs.Seen.{Drained, WasStopped}
use Rattle.relay_serve.specs.Underway.{Reported, ended_as, is_served_out}
use Rattle.relay_serve.specs.declared.run.ServeEnd.{ServeEnd}
use Rattle.relay_serve.specs.declared.run.ServeEnd.TheVariants as serve_end

-- it was if it was before, or if no more links are asked for now
pub stopped-after : {P : Type 0} (p : port.Ghosts P) (accepts was told : Bool) (old new : P) → (was ≡ true → WasStopped p) →
    told ≡ (was || not accepts) → (accepts ≡ false → was ≡ false → p.stops old new) → told ≡ true → WasStopped p
stopped-after p accepts true told old new before is stops so = before refl
stopped-after p false false told old new before is stops so = (old, new, stops refl refl)
stopped-after p true false told old new before is stops so = absurd (let e = sym is ∙ so in cc)

-- it is from then on at which none is asked for
pub told-when : (accepts was told : Bool) → told ≡ (was || not accepts) → accepts ≡ false → told ≡ true
told-when false true told is none = is
told-when false false told is none = is
told-when true was told is none = absurd (cc)

-- once all was served no link more is asked for
pub none-more : (s : State) (links : ℕ) → is_served_out s links ≡ true → nat_lt s.plain.opened links ≡ false
none-more s links out =
    let same = eqb-true s.plain.opened links (and_parts (s.plain.opened == links) (not (nat_lt 0 (open_below s s.plain.opened))) out).0 in
    grind (arith, nat_tests, same)

-- a run that is to end so was served out
served-well : (ended : Result ServeEnd DriveFault) → ended_as ended ≡ status.Ok → ended ≡ Ok serve_end.ServedOut
served-well (Ok serve_end.ServedOut) is = refl
served-well (Ok (serve_end.Stopped link turn)) is = absurd (cc)
served-well (Err fault.Memory) is = absurd (cc)
served-well (Err fault.PollFault) is = absurd (cc)
served-well (Err fault.OpenFault) is = absurd (cc)
served-well (Err fault.Spent) is = absurd (cc)

-- and so was one whose report says that it ended well
pub reported-well : (ended : Result ServeEnd DriveFault) (result : Status) (text : List ℕ) (before after : Drained) →
    Reported (ended_as ended) result text before after → result ≡ status.Ok → ended ≡ Ok serve_end.ServedOut
reported-well ended result text before after reported is =
    served-well ended (sym (subst (λ (z : Status). Reported (ended_as ended) z text before after) is reported).0)
