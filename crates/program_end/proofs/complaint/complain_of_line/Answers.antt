use Rattle.std.proofs.Common.{[], ◌∷◌, ◌++◌, codes, refl}
use Rattle.std.specs.Fmt.{decimal}
use Rattle.ev_types.specs.declared.status.Status.TheVariants.{BadScript}
use Rattle.program_end.specs.EndStatus.{complaint}
use Rattle.program_end.proofs.ComplaintLemmas.{ok-join, err-join, on-err, part-first}
use Rattle.program_end.proofs.complaint.complain_of_line.Goals as goal

pub returns-clause-whole : goal.returns-clause-whole
returns-clause-whole g c =
    let taken = g.E.Sink.taken in
    ok-join c.write_text.result (taken c.args.errors.now) (taken c.write_number.new.errors) (taken c.write_text.new.sink)
    (codes "bad script: line " ++ decimal c.args.line) (10 ∷ []) (complaint (BadScript c.args.line))
    c.in_ok-write_number.ensures.whole refl c.write_text.ensures.whole

pub returns-in_err-write_number-clause-prefix : goal.returns-in_err-write_number-clause-prefix
returns-in_err-write_number-clause-prefix g c =
    let taken = g.E.Sink.taken in
    on-err c.from_residual.result (part-first (taken c.args.errors.now) (taken c.write_number.new.errors)
    (codes "bad script: line " ++ decimal c.args.line) (10 ∷ []) c.in_err-write_number.ensures.prefix)

pub returns-clause-prefix : goal.returns-clause-prefix
returns-clause-prefix g c =
    let taken = g.E.Sink.taken in
    err-join c.write_text.result (taken c.args.errors.now) (taken c.write_number.new.errors) (taken c.write_text.new.sink)
    (codes "bad script: line " ++ decimal c.args.line) (10 ∷ []) (complaint (BadScript c.args.line))
    c.in_ok-write_number.ensures.whole refl c.write_text.ensures.prefix
