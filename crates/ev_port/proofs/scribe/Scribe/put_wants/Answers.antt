use Rattle.std.proofs.Common.{[], ◌∷◌, arith}
use Rattle.ev_types.specs.declared.entry.Entry.TheVariants as entry
use Rattle.ev_types.specs.Trace.{Trace}
use Rattle.ev_port.specs.Polling.{want_events}
use Rattle.ev_port.specs.Table.{named_before}
use Rattle.ev_port.proofs.PutLemmas.{events-next, grew_twice, length-next, length-next_within}
use Rattle.ev_port.proofs.scribe.Scribe.put_wants.Goals as goal

pub put-requires-clause-room : goal.put-requires-clause-room
put-requires-clause-room g c =
    let more = length-next_within c.args.wants.now c.loop-want.from c.in-Some.want c.in-Some.ensures in
    omega (arith, more, c.requires.room, c.loop-want.invariant.entries)

pub loop-want-preserved : goal.loop-want-preserved
loop-want-preserved g c =
    let t = c.args.wants.now in
    let w = c.in-Some.want in
    let n = c.number-from.result in
    let is = c.number-from.ensures in
    let put : Trace = (entry.Want w.side w.read w.write, []) ∷ [] in
    let next = events-next t c.loop-want.from w c.in-Some.ensures n is in
    let more = length-next t c.loop-want.from w c.in-Some.ensures n is in
    let within = c.in-Some.ensures.within in
    record {
      within = omega (arith, is, within);
      trace = rw next (grew_twice (g.Self.Scribe.trace c.args.self.now) (g.Self.Scribe.trace c.loop-want.self)
          (g.Self.Scribe.trace c.put.new.self) (want_events (named_before t c.loop-want.from)) put
          c.loop-want.invariant.trace c.put.ensures.trace);
      entries = omega (arith, more, c.loop-want.invariant.entries, c.put.ensures.entries);
      bytes = omega (arith, c.loop-want.invariant.bytes, c.put.ensures.bytes);
    }
