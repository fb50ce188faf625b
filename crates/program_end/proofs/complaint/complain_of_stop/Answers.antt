use Rattle.std.proofs.Common.{[], ◌∷◌, ◌++◌, codes, refl}
use Rattle.std.specs.Fmt.{decimal}
use Rattle.ev_types.specs.declared.status.Status.TheVariants.{Stopped}
use Rattle.ev_port.proofs.StreamLemmas.{TookOn-join}
use Rattle.program_end.specs.EndStatus.{complaint}
use Rattle.program_end.proofs.ComplaintLemmas.{ok-join, err-join, on-err, part-first, part-second}
use Rattle.program_end.proofs.complaint.complain_of_stop.Goals as goal

pub returns-clause-whole : goal.returns-clause-whole
returns-clause-whole g c =
    let taken = g.E.Sink.taken in
    let link = codes "stopped: link " ++ decimal c.args.link in
    let turn = codes " turn " ++ decimal c.args.turn in
    let both = TookOn-join (taken c.args.errors.now) (taken c.write_number.new.errors) (taken c.write_number-2.new.errors) link turn
    c.in_ok-write_number.ensures.whole c.in_ok-write_number-2.ensures.whole in
    ok-join c.write_text.result (taken c.args.errors.now) (taken c.write_number-2.new.errors) (taken c.write_text.new.sink)
    (link ++ turn) (10 ∷ []) (complaint (Stopped c.args.link c.args.turn)) both refl c.write_text.ensures.whole

pub returns-in_err-write_number-clause-prefix : goal.returns-in_err-write_number-clause-prefix
returns-in_err-write_number-clause-prefix g c =
    let told = g.E.Sink.taken c.args.errors.now in
    let now_told = g.E.Sink.taken c.write_number.new.errors in
    let link = codes "stopped: link " ++ decimal c.args.link in
    let turn = codes " turn " ++ decimal c.args.turn in
    on-err c.from_residual.result (part-first told now_told (link ++ turn) (10 ∷ [])
    (part-first told now_told link turn c.in_err-write_number.ensures.prefix))

pub returns-in_err-write_number-2-clause-prefix : goal.returns-in_err-write_number-2-clause-prefix
returns-in_err-write_number-2-clause-prefix g c =
    let taken = g.E.Sink.taken in
    let told = taken c.args.errors.now in
    let now_told = taken c.write_number-2.new.errors in
    let link = codes "stopped: link " ++ decimal c.args.link in
    let turn = codes " turn " ++ decimal c.args.turn in
    on-err c.from_residual-in_err-write_number-2.result (part-first told now_told (link ++ turn) (10 ∷ [])
    (part-second told (taken c.write_number.new.errors) now_told link turn c.in_ok-write_number.ensures.whole c.in_err-write_number-2.ensures.prefix))

pub returns-clause-prefix : goal.returns-clause-prefix
returns-clause-prefix g c =
    let taken = g.E.Sink.taken in
    let link = codes "stopped: link " ++ decimal c.args.link in
    let turn = codes " turn " ++ decimal c.args.turn in
    let both = TookOn-join (taken c.args.errors.now) (taken c.write_number.new.errors) (taken c.write_number-2.new.errors) link turn
    c.in_ok-write_number.ensures.whole c.in_ok-write_number-2.ensures.whole in
    err-join c.write_text.result (taken c.args.errors.now) (taken c.write_number-2.new.errors) (taken c.write_text.new.sink)
    (link ++ turn) (10 ∷ []) (complaint (Stopped c.args.link c.args.turn)) both refl c.write_text.ensures.prefix
