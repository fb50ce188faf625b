use Rattle.std.proofs.Common.{List, map, string_bytes, refl, [], subst, sym, ◌∙◌}
use Rattle.ev_types.specs.Trace.{Trace}
use Rattle.ev_types.specs.declared.side.SideId.{SideId}
use Rattle.ev_types.specs.declared.status.Status.TheVariants as status
use Rattle.command_words.specs.ServeGrammar.{serve_words_of}
use Rattle.command_words.specs.declared.fault.WordsFault.TheVariants as words
use Rattle.relay_drive.specs.Seats.{seated_sides}
use Rattle.relay_serve.specs.Seen.{drained}
use Rattle.relay_serve.specs.Served.{DidWith}
use Rattle.relay_serve.proofs.EndLemmas.{words-ended}
use Rattle.evrelay.specs.Program.{seen_by}
use Rattle.evrelay.proofs.ProgramLemmas.{none-seated, says-line}
use Rattle.program_end.proofs.StatusLemmas.{ended-well}
use Rattle.evrelay.proofs.program.relay_by.Goals as goal

-- There is no memory for the ring, and nothing was done.
pub returns-in_default : goal.returns-in_default
returns-in_default g c = record {
  served = (
    status.Memory,
    [],
    c.finish.ensures.number,
    words-ended (serve_words_of (map string_bytes c.args.words.now)) [] words.Memory (seen_by g.P.Port c.args.port.now [])
        (drained g.K.Sink c.args.sink.now) (λ e. absurd (cc)),
    ((λ e. refl), (λ e. refl)),
    says-line status.Memory [] _ _ _ _ refl c.finish.ensures.line,
    (λ e. absurd (cc)),
  );
  stopped = λ zero. absurd (let e = sym c.finish.ensures.number ∙ zero in cc);
}

-- The ring began with no entry, no side had a hook, and what the ring shows are the last entries of the trace that it was told.
pub returns : goal.returns
returns g c =
    let port = g.P.Port in
    let ended = c.serve-ended.result in
    let ring = c.serve-ended.new.scribe in
    let route = serve_words_of (map string_bytes c.args.words.now) in
    let hooks = seated_sides c.new-2.result.items in
    let now = seen_by port c.serve-ended.new.port ring.told.trace in
    let before = drained g.K.Sink c.args.sink.now in
    let after = drained g.K.Sink c.serve-ended.new.sink in
    record {
      served = (
        ended,
        ring.told.trace,
        c.say.ensures.number,
        subst (λ (sides : List SideId). DidWith route sides ended (seen_by port c.args.port.now []) now before after)
            (none-seated c.new-2.result.items c.new-2.ensures.items)
            (subst (λ (t : Trace). DidWith route hooks ended (seen_by port c.args.port.now t) now before after)
            c.in-Ok.ensures c.serve-ended.ensures.did),
        (c.serve-ended.ensures.unwritten, c.serve-ended.ensures.write_calm),
        c.say.ensures.said,
        (λ e. let left = c.serve-ended.ensures.untouched e in (left.0, left.2)),
      );
      stopped = λ zero. c.serve-ended.ensures.stopped (ended-well ended (sym c.say.ensures.number ∙ zero));
    }
