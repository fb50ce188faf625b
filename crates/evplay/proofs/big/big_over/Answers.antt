use Rattle.std.proofs.Common.{◌≡◌, ap, ◌∙◌, Result, Ok, Err, IfOk, sym}
use Rattle.relay_core.specs.GivenGroups.{settings_given}
use Rattle.relay_model.specs.Script.{closing_step}
use Rattle.relay_drive.specs.declared.fault.DriveFault.TheVariants as fault
use Rattle.relay_drive.specs.DriveValue.{DriveValue}
use Rattle.relay_drive.specs.Seats.{seated_sides, telling}
use Rattle.relay_laws.specs.Report.{lines_below}
use Rattle.big_script.specs.BigScript.{big_script_of}
use Rattle.evplay.specs.Big.{no_hooks, IsBigText}
use Rattle.evplay.proofs.BigLemmas.{big-text, none-seated}
use Rattle.evplay.proofs.RunLemmas.{err-then}
use Rattle.evplay.proofs.big.big_over.Goals as goal

ok-each : {A : Type 0} {E : Type 0} (P Q : A → Type 0) (r : Result A E) → IfOk r P → ((a : A) → P a → Q a) → IfOk r Q
ok-each P Q (Ok a) p f = f a p
ok-each P Q (Err e) p f = tt

pub make_turns-ended-requires-clause-step : goal.make_turns-ended-requires-clause-step
make_turns-ended-requires-clause-step g c =
    c.closing_step-step.ensures (seated_sides c.args.seats.now.hooks.items)
    ∙ sym (ap (λ (d : DriveValue). closing_step d.state.settings) c.in_ok-drive.ensures.value)

pub returns-clause-text : goal.returns-clause-text
returns-clause-text g c =
    let n = c.args.links in
    let tells = telling (λ h. (goal.Hook-dyn g (h.vtable, h.value)).heard h.value)
    (λ h. (goal.Hook-dyn g (h.vtable, h.value)).asked h.value) (λ h. (goal.Hook-dyn g (h.vtable, h.value)).planned h.value) in
    let began = ap (λ (d : DriveValue). d.state.settings) c.in_ok-drive.ensures.value
    ∙ ap (λ hooks. settings_given c.args.settings c.args.given (seated_sides hooks)) c.requires.no_hooks ∙ c.requires.settings in
    let made = c.make_turns-ended.ensures.made (big_script_of n) no_hooks began
    (none-seated tells n c.args.seats.now.hooks.items c.requires.no_hooks) in
    let s = c.make_turns-ended.new.drive.state in
    let t = c.make_turns-ended.new.scribe.trace in
    ok-each _ (λ text. IsBigText n text.items) c.told_of.result c.told_of.ensures.text
    (λ text told. big-text n c.make_turns-ended.result t (lines_below s s.plain.opened) c.args.port.now text.items c.requires.script made
    told.0 told.1)

pub returns-clause-only_memory : goal.returns-clause-only_memory
returns-clause-only_memory g c =
    err-then (λ f. f ≡ fault.Memory) c.make_turns-ended.result c.told_of.result c.make_turns-ended.ensures.only_memory
    c.told_of.ensures.refused
