use Rattle.std.proofs.Common.{map, string_bytes, sym, subst}
use Rattle.command_words.specs.ServeGrammar.{serve_words_of}
use Rattle.relay_drive.specs.Seats.{telling, seated_sides}
use Rattle.relay_serve.specs.Seen.{seen, drained}
use Rattle.relay_serve.specs.Served.{DidWith}
use Rattle.relay_serve.proofs.EndLemmas.{words-ended}
use Rattle.relay_serve.proofs.TurnsLemmas.{asked-nothing}
use Rattle.relay_serve.proofs.top.serve.Goals as goal

-- The words are not in the grammar, or memory ran out.
pub returns-in-Err-clause-did : goal.returns-in-Err-clause-did
returns-in-Err-clause-did g c =
    let old = seen g.P.Port g.S.Scribe (c.args.port.now, c.args.scribe.now) in
    let before = drained g.K.Sink c.args.sink.now in
    let hooks = seated_sides c.args.hooks.items in
    let given = serve_words_of (map string_bytes c.args.words.now) in
    subst (λ ended. DidWith given hooks ended old old before before) (sym c.status.ensures)
    (words-ended given hooks c.in-Err.fault old before c.in-Err.ensures.refused)

pub returns-in-Err-clause-asked : goal.returns-in-Err-clause-asked
returns-in-Err-clause-asked g c = asked-nothing
    (telling (λ h. (goal.Hook-dyn g (h.vtable, h.value)).heard h.value) (λ h. (goal.Hook-dyn g (h.vtable, h.value)).asked h.value)
    (λ h. (goal.Hook-dyn g (h.vtable, h.value)).planned h.value))
    _ c.args.hooks.items (g.S.Scribe.trace c.args.scribe.now)
