use Rattle.std.proofs.Common.{List, sym, ◌∙◌, subst}
use Rattle.ev_port.specs.StreamBytes.{TookOn}
use Rattle.program_end.specs.Complains.{TookPart}
use Rattle.evrelay.specs.RingWants.{last_entries}
use Rattle.evrelay.proofs.ProgramLemmas.{says-cut, says-behind, says-line}
use Rattle.evrelay.proofs.program.say.Goals as goal

pub returns-then-not-shows-clause-said : goal.returns-then-not-shows-clause-said
returns-then-not-shows-clause-said g c =
    says-line c.args.ended (last_entries c.args.ring.now.told.trace) _ _ _ _ (sym c.shows.ensures ∙
    c.if-not-shows.true) c.finish.ensures.line

pub returns-in-Ok-clause-said : goal.returns-in-Ok-clause-said
returns-in-Ok-clause-said g c =
    let taken = g.E.Sink.taken in
    let faults = g.E.Sink.faults in
    says-behind c.args.ended (last_entries c.args.ring.now.told.trace) (taken c.args.errors.now) (taken c.write_text.new.sink)
    (taken c.finish-in-Ok.new.errors)
    (faults c.args.errors.now) (faults c.write_text.new.sink) (faults c.finish-in-Ok.new.errors) (sym c.shows.ensures ∙
    c.if-not-shows.false)
    (subst (λ text. TookOn (taken c.args.errors.now) (taken c.write_text.new.sink) text) (c.deref.ensures.value ∙
    c.spell.ensures.text) c.in-Ok.ensures.whole)
    c.in-Ok.ensures.calm c.finish-in-Ok.ensures.line

pub returns-in-Err-clause-said : goal.returns-in-Err-clause-said
returns-in-Err-clause-said g c =
    let taken = g.E.Sink.taken in
    let faults = g.E.Sink.faults in
    says-cut c.args.ended (last_entries c.args.ring.now.told.trace) (taken c.args.errors.now) (taken c.write_text.new.sink)
    (faults c.args.errors.now) (faults c.write_text.new.sink) (sym c.shows.ensures ∙ c.if-not-shows.false)
    (subst (λ text. TookPart (taken c.args.errors.now) (taken c.write_text.new.sink) text) (c.deref.ensures.value ∙
    c.spell.ensures.text) c.in-Err.ensures.prefix)
    c.in-Err.ensures.fault
