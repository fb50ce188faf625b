use Rattle.std.proofs.Common.{◌≡◌, ap, ◌∙◌, subst, Result, Ok, Err, IfOk, sym}
use Rattle.relay_drive.specs.declared.fault.DriveFault.TheVariants as fault
use Rattle.relay_drive.specs.DriveValue.{DriveValue}
use Rattle.relay_drive.specs.Seats.{seated_sides}
use Rattle.relay_model.specs.Script.{closing_step}
use Rattle.relay_laws.specs.Report.{lines_below}
use Rattle.evplay.specs.Headline.{IsRun}
use Rattle.evplay.specs.Play.{IsRunText}
use Rattle.evplay.specs.Run.{answer_of, script_over, TellsTurn}
use Rattle.evplay.proofs.RunLemmas.{err-then}
use Rattle.evplay.proofs.run.run_over.Goals as goal

-- What holds of an answer holds of the one that it is, and a fact of that gives one of what was made of it.
ok-then : {A B E : Type 0} (P : A → Type 0) (Q R : B → Type 0) (of : B → A) (ended : Result A E) (r : Result B E) → IfOk ended P →
    IfOk r (λ b. (ended ≡ Ok (of b)) × Q b) → ((b : B) → P (of b) → Q b → R b) → IfOk r R
ok-then P Q R of ended (Ok b) p q f = f b (subst (λ z. IfOk z P) q.0 p) q.1
ok-then P Q R of ended (Err e) p q f = tt

pub returns-clause-text : goal.returns-clause-text
returns-clause-text g c = λ script handed on seats.
    let over = script_over script c.args.port.now in
    let began = ap (λ (d : DriveValue). d.state.settings) c.in_ok-drive.ensures.value in
    let s = c.make_turns-ended.new.drive.state in
    let t = c.make_turns-ended.new.scribe.trace in
    ok-then (λ end. IsRun over c.args.how handed (answer_of end) t (lines_below s s.plain.opened) × TellsTurn end t) _
    (λ ran. IsRunText over c.args.how handed ran.1 ran.0.items)
    (λ ran. ran.1) c.make_turns-ended.result c.text_of.result
    (c.make_turns-ended.ensures.made script handed (began ∙ on) seats) c.text_of.ensures.text
    (λ ran made is. (t, lines_below s s.plain.opened, made.0, made.1, is))

pub returns-clause-only_memory : goal.returns-clause-only_memory
returns-clause-only_memory g c =
    err-then (λ f. f ≡ fault.Memory) c.make_turns-ended.result c.text_of.result c.make_turns-ended.ensures.only_memory
    c.text_of.ensures.refused

pub make_turns-ended-requires-clause-step : goal.make_turns-ended-requires-clause-step
make_turns-ended-requires-clause-step g c =
    c.closing_step-step.ensures (seated_sides c.args.seats.now.hooks.items)
    ∙ sym (ap (λ (d : DriveValue). closing_step d.state.settings) c.in_ok-drive.ensures.value)
