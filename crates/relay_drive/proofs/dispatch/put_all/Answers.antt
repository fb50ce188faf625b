use Rattle.std.proofs.Common.{◌≡◌, ◌+◌, ◌<◌, ◌∷◌, [], ℕ, List, length, drop, sym, ◌∙◌, ap, subst, arith, get_or}
use Rattle.std.proofs.lemmas.List.{drop_more, drop_all}
use Rattle.std.specs.List.{All}
use Rattle.std.proofs.lemmas.List.Elements.{All-head, All-tail}
use Rattle.ev_types.specs.declared.entry.Entry.{Entry}
use Rattle.ev_types.specs.Growth.{Grew}
use Rattle.ev_types.specs.Trace.{bytes_beside}
use Rattle.relay_core.specs.Fires.{events_of}
use Rattle.relay_drive.proofs.GoesLemmas.{Grew-none, Grew-join}
use Rattle.relay_drive.proofs.dispatch.put_all.Goals as goal

-- the entry at hand is the first that is left
left : (log : List Entry) (i : ℕ) (x : Entry) → i < length log → x ≡ get_or log i x → drop i log ≡ x ∷ drop (i + 1) log
left log i x lt is = drop_more log i x lt ∙ ap (λ y. y ∷ drop (i + 1) log) (sym is)

pub put-requires-clause-room : goal.put-requires-clause-room
put-requires-clause-room g c =
    let more = ap length (left c.args.log.now c.loop-entry.entry-index c.entry-item.result c.loop-entry-test.true c.entry-item.is) in
    let room = c.loop-entry.invariant.room in
    omega (arith, more, room)

pub put-requires-clause-beside : goal.put-requires-clause-beside
put-requires-clause-beside g c =
    let log = c.args.log.now in
    let i = c.loop-entry.entry-index in
    let x = c.entry-item.result in
    sym (All-head (λ e. bytes_beside e ≡ 0) x (drop (i + 1) log)
    (subst (All (λ e. bytes_beside e ≡ 0)) (left log i x c.loop-entry-test.true c.entry-item.is) c.loop-entry.invariant.beside))

pub loop-entry-preserved : goal.loop-entry-preserved
loop-entry-preserved g c =
    let log = c.args.log.now in
    let i = c.loop-entry.entry-index in
    let x = c.entry-item.result in
    let inv = c.loop-entry.invariant in
    let put = c.put.ensures in
    let all = left log i x c.loop-entry-test.true c.entry-item.is in
    let more = ap length all in
    record {
      room = (let a = inv.room in let b = put.room in omega (arith, a, b, more));
      beside = All-tail (λ e. bytes_beside e ≡ 0) x (drop (i + 1) log) (subst (All (λ e. bytes_beside e ≡ 0)) all inv.beside);
      list = λ z h.
          inv.list z (subst (λ xs. Grew (g.S.Scribe.trace c.loop-entry.scribe) z (events_of xs)) (sym all)
          (Grew-join (g.S.Scribe.trace c.loop-entry.scribe) (g.S.Scribe.trace c.put.new.scribe) z ((x, []) ∷ [])
          (events_of (drop (i + 1) log)) put.list h));
      counted = (let a = inv.counted in let b = put.counted in omega (arith, a, b, more));
    }

pub returns-clause-list : goal.returns-clause-list
returns-clause-list g c =
    let none = drop_all c.loop-entry.entry-index c.args.log.now c.loop-entry-test.false in
    c.loop-entry.invariant.list (g.S.Scribe.trace c.loop-entry.scribe)
    (subst (λ xs. Grew (g.S.Scribe.trace c.loop-entry.scribe) (g.S.Scribe.trace c.loop-entry.scribe) (events_of xs)) (sym none)
    (Grew-none (g.S.Scribe.trace c.loop-entry.scribe)))
