use Rattle.ev_types.proofs.Pairs.{paired-push}
use Rattle.ev_types.proofs.tape.Tape.put.Goals as goal

pub returns-clause-trace : goal.returns-clause-trace
returns-clause-trace c =
    let joined = paired-push c.self.inside.entries.items c.args.entry c.self.inside.bytes.items c.args.bytes.now
    c.self.invariant c.requires.beside in
    rw (← c.self.view_is, c.push.ensures.items, c.unwrap.ensures, c.extend_from_slice.ensures.items, c.unwrap-2.ensures) joined
