use Rattle.std.proofs.Common.{◌≡◌, ◌++◌, refl}
use Rattle.std.specs.Fmt.{decimal}
use Rattle.program_end.proofs.ComplaintLemmas.{err-join}
use Rattle.program_end.proofs.complaint.write_number.Goals as goal

pub returns-clause-prefix : goal.returns-clause-prefix
returns-clause-prefix g c =
    let taken = g.E.Sink.taken in
    let both : c.as_bytes.result.now ++ c.as_bytes-2.result.now ≡ c.args.text.now ++ decimal c.args.number =
    rw (c.as_bytes.ensures.value, c.as_bytes-2.ensures.value, c.format.ensures.text) refl in
    err-join c.write_text-2.result (taken c.args.errors.now) (taken c.write_text.new.sink) (taken c.write_text-2.new.sink)
    c.as_bytes.result.now c.as_bytes-2.result.now (c.args.text.now ++ decimal c.args.number)
    c.in_ok-write_text.ensures.whole both c.write_text-2.ensures.prefix
