use Rattle.std.proofs.Common.{◌≡◌, ℕ, ◌<◌, not, ◌&&◌, Bool, true, false, refl, sym, ap, ◌∙◌, subst, arith}
use Rattle.number_set.specs.Numbers.{NumberSetValue}
use Rattle.token_bucket.specs.declared.limit.Dir.{Dir}
use Rattle.ev_types.specs.declared.side.SideId.{SideId}
use Rattle.relay_core.specs.RelayValue.{RelayValue}
use Rattle.relay_core.specs.Timeless.{is_still_link}
use Rattle.relay_state.specs.State.{State}
use Rattle.relay_drive.specs.Agenda.{TouchedEach, IsKept, IsNamed}
use Rattle.relay_drive.specs.Links.{WantsAsSeen, at_time}
use Rattle.relay_drive.specs.declared.naming.Naming.{Naming}
use Rattle.relay_drive.proofs.AgendaLemmas.{kept-each, kept-later, kept-beside_wants, names-begun, named-same, both-out, names-out}
use Rattle.relay_drive.proofs.ClockLemmas.{begun-grouped, begun-many, free-alike}
use Rattle.relay_drive.proofs.WantLemmas.{wants-seen, named-later, named-noted}
use Rattle.relay_drive.proofs.turn.clock.Goals as goal

pub note_halts-same-requires : goal.note_halts-same-requires
note_halts-same-requires g c =
    let st = c.requires.stands in
    let q = c.in_ok-read_clock.ensures.went in
    c.in_ok-known.ensures.len
    ∙ sym (begun-many st.0 c.args.run.now.relay.state c.read_clock.new.run.relay.state q.added st.1 q.does)

pub returns-clause-kept : goal.returns-clause-kept
returns-clause-kept g c =
    let old = c.args.run.now.relay.state in
    let new = c.read_clock.new.run.relay.state in
    let set = c.watched.result.now in
    let mid = c.touch_each.new.self in
    let agenda = c.name_each_where.new.self in
    let done = c.in_ok-read_clock.ensures in
    let timeless = λ (n : ℕ) (lt : n < new.plain.opened) (out : set.has n ≡ false) (e : SideId) (here : e.link ≡ n).
    c.watched.ensures.beside e (omega (arith, here, lt)) (subst (λ m. set.has m ≡ false) (sym here) out) in
    let touched = subst (λ n. TouchedEach set n c.args.agenda.now mid) c.opened-opened.ensures.count c.touch_each.ensures in
    subst (λ (r : RelayValue). IsKept agenda r.state) (sym c.forget_timeless.ensures.rest)
    (kept-beside_wants mid agenda new c.name_each_where.ensures.same
    (kept-each set c.args.agenda.now mid (at_time new.plain.time old) new done.opened touched
    (λ n lt out. done.still n (timeless n lt out)) (kept-later c.args.agenda.now new.plain.time old c.requires.kept)))

pub returns-clause-seen : goal.returns-clause-seen
returns-clause-seen g c =
    let st = c.requires.stands in
    let q = c.in_ok-read_clock.ensures.went in
    let new = c.read_clock.new.run.relay.state in
    let seen = c.note_halts-same.new.seen.items in
    subst (λ (r : RelayValue). WantsAsSeen seen r.state) (sym c.forget_timeless.ensures.rest)
    (wants-seen seen new c.note_halts-same.ensures.shares
    (begun-grouped st.0 c.args.run.now.relay.state new q.added st.1 q.does).member)

pub returns-clause-named : goal.returns-clause-named
returns-clause-named g c =
    let old = c.args.run.now.relay.state in
    let new = c.read_clock.new.run.relay.state in
    let set = c.watched.result.now in
    let mid = c.touch_each.new.self in
    let agenda = c.name_each_where.new.self in
    let naming = c.args.naming.now in
    let now : Naming = record { table = naming.table; seen = c.note_halts-same.new.seen } in
    let st = c.requires.stands in
    let done = c.in_ok-read_clock.ensures in
    let grouped = begun-grouped st.0 old new done.went.added st.1 done.went.does in
    let link = λ (xs : NumberSetValue) (n : ℕ) (out : xs.has n ≡ false) (e : SideId) (here : e.link ≡ n).
    subst (λ m. xs.has m ≡ false) (sym here) out in
    let touched = subst (λ n. TouchedEach set n c.args.agenda.now mid) c.opened-opened.ensures.count c.touch_each.ensures in
    subst (λ (r : RelayValue). IsNamed agenda now r.state) (sym c.forget_timeless.ensures.rest)
    (names-begun c.args.agenda.now agenda naming now old new done.opened refl (λ n lt out.
    let one = names-out (not (c.in_ok-known.known && c.note_halts-same.result)) c.grouped.result.now c.opened-opened.result mid agenda
    c.name_each_where.ensures n (subst (λ m. n < m) (sym c.opened-opened.ensures.count) lt) out in
    let both = both-out set new.plain.opened c.args.agenda.now.to_name mid.to_name touched.to_name n lt one.1 in
    let timeless = λ (e : SideId) (here : e.link ≡ n). c.watched.ensures.beside e (omega (arith, here, lt)) (link set n both.0 e here) in
    let alike = λ (e : SideId) (here : e.link ≡ n). done.alike e (omega (arith, here, lt, done.opened))
    (ap (λ (z : NumberSetValue). z.has e.link) (sym c.watched.ensures.set) ∙ link set n both.0 e here) in
    let free = λ (e : SideId) (here : e.link ≡ n) (d : Dir).
    free-alike c.in_ok-known.known c.note_halts-same.result naming.seen.items c.note_halts-same.new.seen.items c.grouped.result.now new e d
    (λ known same. c.note_halts-same.ensures.same same ∙ c.in_ok-known.ensures.known known)
    (λ told. link c.grouped.result.now n (one.0 told) e here)
    (λ none. c.grouped.ensures.beside e (omega (arith, here, lt)) none) (grouped.member e) in (
      both.1,
      λ right. named-noted naming now n new refl free
          (named-same naming n (at_time new.plain.time old) new (done.still n timeless)
          (named-later naming new.plain.time n old alike right)),
    )) c.requires.named)

and-not : (a b : Bool) → (a && not b) ≡ true → b ≡ false
and-not a false h = refl
and-not false true h = absurd (cc)
and-not true true h = absurd (cc)

pub returns-clause-rests : goal.returns-clause-rests
returns-clause-rests g c = λ n lt has.
    let s = c.read_clock.new.run.relay.state in
    let state : c.forget_timeless.new.self.state ≡ s = ap (λ (r : RelayValue). r.state) c.forget_timeless.ensures.rest in
    subst (λ z. is_still_link z n ≡ false) (sym state)
    (and-not (c.read_clock.new.run.relay.watched.has n) (is_still_link s n)
    (sym (c.forget_timeless.ensures.forgotten.0 n (subst (λ (z : State). n < z.plain.opened) state lt)) ∙ has))
