use Rattle.std.proofs.Common.{ap, arith, length}
use Rattle.relay_drive.proofs.SeatLemmas.{fire-bare, fire-most, events-length}
use Rattle.relay_drive.proofs.dispatch.call_hook.Goals as goal

pub put_all-requires-clause-room : goal.put_all-requires-clause-room
put_all-requires-clause-room g c =
    let log = c.fired.result.now in
    let same = ap length c.fired.ensures in
    let many = fire-most c.args.side c.args.run.now.relay c.fire-answer.new.self c.fire-answer.ensures.step in
    let long = events-length log in
    let room = c.put.ensures.room in
    let enough = c.requires.entries in
    omega (arith, same, many, long, room, enough)

pub put_all-requires-clause-beside : goal.put_all-requires-clause-beside
put_all-requires-clause-beside g c =
    fire-bare c.args.side c.args.run.now.relay c.fire-answer.new.self c.fired.result.now c.fire-answer.ensures.step c.fired.ensures
