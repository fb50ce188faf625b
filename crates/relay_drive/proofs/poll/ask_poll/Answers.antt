use Rattle.std.proofs.Common.{◌≡◌, ◌+◌, List, [], ◌∷◌, ◌++◌, length, refl, sym, ◌∙◌, ap, subst, arith, length-append, nat_lt}
use Rattle.ev_types.specs.declared.entry.Entry.TheVariants as entry
use Rattle.ev_types.specs.Trace.{Trace}
use Rattle.ev_types.specs.Growth.{Grew}
use Rattle.std.proofs.lemmas.Result.{err_from_is_err_and}
use Rattle.ev_port.specs.declared.port.Polled.TheVariants as polled
use Rattle.ev_port.specs.declared.port.Want.{Want}
use Rattle.ev_port.specs.Counting.{counted}
use Rattle.ev_port.specs.Polling.{want_events, ready_events, poll_events, poll_step}
use Rattle.ev_port.specs.Table.{named}
use Rattle.ev_port.proofs.PutLemmas.{listed-opened}
use Rattle.relay_drive.proofs.GoesLemmas.{Grew-join, goes_some, goes_nowhere}
use Rattle.relay_drive.specs.Known.{IsInStep}
use Rattle.relay_drive.proofs.CalmLemmas.{same}
use Rattle.relay_drive.proofs.TiedLemmas.{all_ends, poll_says}
use Rattle.relay_drive.proofs.KnownLemmas.{poll_still, known_ready, known_failed}
use Rattle.relay_drive.proofs.LinkParts.{ready_events-filter}
use Rattle.relay_drive.proofs.PollLemmas.{want_events-marked, length-want_events, length-marked, Heard-poll, Heard-failed_poll}
use Rattle.relay_drive.proofs.PollLemmas.{counted_three}
use Rattle.relay_drive.proofs.poll.ask_poll.Goals as goal

pub returns-in-Ready-clause-went : goal.returns-in-Ready-clause-went
returns-in-Ready-clause-went g c =
    let l0 = g.S.Scribe.trace c.args.scribe.now in
    let s = c.args.run.now.relay.state in
    let timeout = c.poll_timeout-timeout.result in
    let asks = c.can_open-can_open.result in
    let asked = λ (t : Trace) (fits : IsInStep t s). c.can_open-can_open.ensures ∙ ap (λ n. nat_lt n s.settings.links) (sym fits.opened) in
    let told = c.in-Ready.ensures in
    let ws : List Want = named c.args.wants.now in
    let ms : List Want = told.went.marked in
    let names : want_events ms ≡ want_events ws = want_events-marked ws ms told.went.many told.went.marks in
    let listed : ready_events c.list.result.now ≡ ready_events ms = ap ready_events (c.list.ensures ∙ told.went.list)
    ∙ ready_events-filter ms in
    let events = poll_events timeout ms (polled.Ready c.in-Ready.accept) in
    let one : Trace = (entry.Poll timeout, []) ∷ [] in
    let first = Grew-join l0 (g.S.Scribe.trace c.reserve.new.self) (g.S.Scribe.trace c.put.new.scribe) [] one
    c.reserve.ensures.trace c.put.ensures.list in
    let second = Grew-join l0 (g.S.Scribe.trace c.put.new.scribe) (g.S.Scribe.trace c.put_wants.new.self) one (want_events ws)
    first c.put_wants.ensures.trace in
    let third = Grew-join l0 (g.S.Scribe.trace c.put_wants.new.self) (g.S.Scribe.trace c.put_marks.new.scribe)
    (one ++ want_events ws) (ready_events ms) second
    (subst (Grew (g.S.Scribe.trace c.put_wants.new.self) (g.S.Scribe.trace c.put_marks.new.scribe)) listed c.put_marks.ensures.list) in
    let size : length events ≡ 1 + (length (want_events ws) + length (ready_events ms)) = let h1 =
    length-append (want_events ms) (ready_events ms) in let h2 = ap length names in omega (arith, h1, h2) in
    let many = length-want_events ws in
    let readies = ap length listed in
    goes_some l0 (g.S.Scribe.trace c.put_marks.new.scribe) (g.P.Port.faults c.args.port.now) (g.P.Port.faults c.poll_table.new.self)
    events (poll_still timeout ms (polled.Ready c.in-Ready.accept)) (
      ms,
      told.went.list,
      record {
        marks = rw (c.requires) at told.went.marks;
        many = told.went.many ∙ ap length c.requires;
        asked = λ h. sym c.can_open-can_open.ensures ∙ told.asked h;
        entries = ap (λ o. poll_events o ms (polled.Ready c.in-Ready.accept)) c.poll_timeout-timeout.ensures;
        state = refl;
      },
    ) (same s s refl)
    (counted_three c.args.run.now.entries c.put.new.entries c.saturating_add-run.result c.put_marks.new.entries 1
    (length (want_events ws)) (length (ready_events ms)) c.put.ensures.counted
    (omega (arith, c.saturating_add-run.ensures, c.count-count.ensures, many)) (omega (arith, c.put_marks.ensures.counted, readies))
    ∙ ap (λ n. counted c.args.run.now.entries n) (sym size))
    (rw (names) third)
    (λ t fits. known_ready s.settings (g.P.Port.vouches c.args.port.now) (g.P.Port.vouches c.poll_table.new.self) g.P.Port.none_waits
    (g.P.Port.told c.args.port.now) (g.P.Port.told c.poll_table.new.self) (g.P.Port.ends c.args.port.now)
    (g.P.Port.ends c.poll_table.new.self) t timeout ms asks c.in-Ready.accept told.told (asked t fits) told.went.vouched
    (all_ends (g.P.Port.ends c.args.port.now) (g.P.Port.ends c.poll_table.new.self) (poll_step ms (polled.Ready c.in-Ready.accept))
    events (λ e. poll_says e timeout ms (polled.Ready c.in-Ready.accept)) told.went.ends) told.waiting)
    (Heard-poll (g.P.Port.faults c.args.port.now) (g.P.Port.faults c.poll_table.new.self) timeout ms c.in-Ready.accept told.cause)

pub returns-in-Failed-clause-went : goal.returns-in-Failed-clause-went
returns-in-Failed-clause-went g c =
    let l0 = g.S.Scribe.trace c.args.scribe.now in
    let s = c.args.run.now.relay.state in
    let timeout = c.poll_timeout-timeout.result in
    let asks = c.can_open-can_open.result in
    let asked = λ (t : Trace) (fits : IsInStep t s). c.can_open-can_open.ensures ∙ ap (λ n. nat_lt n s.settings.links) (sym fits.opened) in
    let told = c.in-Failed.ensures in
    let ws : List Want = named c.args.wants.now in
    let ms : List Want = told.went.marked in
    let names : want_events ms ≡ want_events ws = want_events-marked ws ms told.went.many told.went.marks in
    let events = poll_events timeout ms polled.Failed in
    let one : Trace = (entry.Poll timeout, []) ∷ [] in
    let last : Trace = (entry.PollFailed, []) ∷ [] in
    let first = Grew-join l0 (g.S.Scribe.trace c.reserve.new.self) (g.S.Scribe.trace c.put.new.scribe) [] one
    c.reserve.ensures.trace c.put.ensures.list in
    let second = Grew-join l0 (g.S.Scribe.trace c.put.new.scribe) (g.S.Scribe.trace c.put_wants.new.self) one (want_events ws)
    first c.put_wants.ensures.trace in
    let third = Grew-join l0 (g.S.Scribe.trace c.put_wants.new.self) (g.S.Scribe.trace c.put-in-Failed.new.scribe)
    (one ++ want_events ws) last second c.put-in-Failed.ensures.list in
    let size : length events ≡ 1 + (length (want_events ws) + 1) = let h1 = length-append (want_events ms) last in
    let h2 = ap length names in omega (arith, h1, h2) in
    let many = length-want_events ws in
    goes_some l0 (g.S.Scribe.trace c.put-in-Failed.new.scribe) (g.P.Port.faults c.args.port.now) (g.P.Port.faults c.poll_table.new.self)
    events (poll_still timeout ms polled.Failed)
    (record {
      named = ms;
      marks = rw (c.requires) at told.went.marks;
      many = told.went.many ∙ ap length c.requires;
      entries = ap (λ o. poll_events o ms polled.Failed) c.poll_timeout-timeout.ensures;
      state = refl;
    })
    (same s s refl)
    (counted_three c.args.run.now.entries c.put.new.entries c.saturating_add-run.result c.put-in-Failed.new.entries 1
    (length (want_events ws)) 1 c.put.ensures.counted (omega (arith, c.saturating_add-run.ensures, c.count-count.ensures, many))
    (omega (arith, c.put-in-Failed.ensures.counted)) ∙ ap (λ n. counted c.args.run.now.entries n) (sym size))
    (rw (names) third)
    (λ t fits. known_failed s.settings (g.P.Port.vouches c.args.port.now) (g.P.Port.vouches c.poll_table.new.self) g.P.Port.none_waits
    (g.P.Port.told c.args.port.now) (g.P.Port.told c.poll_table.new.self) (g.P.Port.ends c.args.port.now)
    (g.P.Port.ends c.poll_table.new.self) t timeout ms asks told.told (asked t fits) told.went.vouched
    (all_ends (g.P.Port.ends c.args.port.now) (g.P.Port.ends c.poll_table.new.self) (poll_step ms polled.Failed) events
    (λ e. poll_says e timeout ms polled.Failed) told.went.ends))
    (Heard-failed_poll (g.P.Port.faults c.args.port.now) (g.P.Port.faults c.poll_table.new.self) timeout ms told.cause)

pub returns-in-Ready-clause-opened : goal.returns-in-Ready-clause-opened
returns-in-Ready-clause-opened g c = listed-opened c.in-Ready.ensures.went

pub returns-in_err-reserve-clause-went : goal.returns-in_err-reserve-clause-went
returns-in_err-reserve-clause-went g c =
    let p = err_from_is_err_and c.from_residual.result c.from_residual.ensures.1 in
    rw (p.1, p.2) (goes_nowhere refl refl c.reserve.ensures.trace (λ s t x k. (k.0, tt)))

pub put_wants-requires : goal.put_wants-requires
put_wants-requires g c = record {
  room = omega (arith, c.most_entries.ensures, c.in_ok-reserve.ensures.entries, c.put.ensures.room);
}

pub put_marks-requires : goal.put_marks-requires
put_marks-requires g c =
    let listed = ap length (c.list.ensures ∙ c.in-Ready.ensures.went.list) in
    let few = length-marked c.in-Ready.ensures.went.marked in
    omega (
      arith,
      listed,
      few,
      c.in-Ready.ensures.went.many,
      c.put_wants.ensures.entries,
      c.most_entries.ensures,
      c.in_ok-reserve.ensures.entries,
      c.put.ensures.room,
    )

pub put-requires-in-Failed-clause-room : goal.put-requires-in-Failed-clause-room
put-requires-in-Failed-clause-room g c =
    omega (arith, c.put_wants.ensures.entries, c.most_entries.ensures, c.in_ok-reserve.ensures.entries, c.put.ensures.room)
