use Rattle.std.proofs.Common.{◌^◌, ◌<◌, ◌≤◌, length, map, ap, ◌∙◌, arith}
use Rattle.std.proofs.lemmas.List.{length-map}
use Rattle.script_port.specs.ScriptState.{LinksKept}
use Rattle.script_port.specs.ScriptLinks.{links_of}
use Rattle.script_port.specs.ScriptKept.{with_links, with_all_bytes}
use Rattle.ev_types.specs.ScriptTurn.{lines_of}
use Rattle.script_port.proofs.TurnLemmas.{shown_turn}
use Rattle.script_port.proofs.ListLemmas.{part_at}
use Rattle.script_port.proofs.ScriptLemmas.{links_step, links_done, all_to_come}
use Rattle.script_port.proofs.ScriptTurnLemmas.{closes_first, new_from}
use Rattle.script_port.proofs.script_port.ScriptPort.new.Goals as goal

pub loop-lines-preserved : goal.loop-lines-preserved
loop-lines-preserved c =
    let items = c.deref-lines-items.result.now in
    let i = c.loop-lines.lines-index in
    let turn = shown_turn c.loop-lines-item.result in
    let within : i < length (map shown_turn items) = omega (arith, length-map items shown_turn) in
    let listed = part_at shown_turn items i c.loop-lines-item.result turn (omega arith) c.loop-lines-item.is in
    let added = rw c.deref.ensures.value at c.in_ok-add_links.ensures in
    links_step (map shown_turn items) i turn c.loop-lines.links c.add_links.new.self _ within listed added c.loop-lines.invariant

pub invariant_of-result : goal.invariant_of-result
invariant_of-result c =
    let items = c.script.inside.turns.items in
    let turns = map shown_turn items in
    let xs = lines_of turns in
    let first = rw c.deref-lines-items.ensures.value at c.loop-lines.invariant in
    let past : length turns ≤ c.loop-lines.lines-index = omega (
      arith,
      length-map items shown_turn,
      ap length
          c.deref-lines-items.ensures.value,
    ) in
    let all_links = links_done turns c.loop-lines.lines-index c.loop-lines.links _ past first ∙ ap (with_links (links_of xs))
    c.new-links.ensures in
    let as_long = ap length c.deref-lines-items.ensures.value in
    let fits : length turns < 2 ^ 64 = omega (arith, length-map items shown_turn, c.deref-lines-items.ensures.len, as_long) in
    let kept = rw (← c.script.view_is) at c.in_ok-turns.ensures in
    rw kept.turns (
      (all_to_come xs c.keep.new.links
          (ap (λ (l : LinksKept). l.to_open) kept.links ∙ ap (λ (l : LinksKept). l.to_open) all_links)
          (ap (λ (l : LinksKept). l.state.ends) kept.links ∙ ap (λ (l : LinksKept). l.state.ends) all_links)
          (ap (λ (l : LinksKept). l.to_come) kept.links ∙ ap (λ (l : LinksKept). with_all_bytes xs l.to_come) all_links)),
      closes_first (length turns) fits,
    )

pub returns-clause-vouched : goal.returns-clause-vouched
returns-clause-vouched c =
    let items = c.script.inside.turns.items in
    let turns = map shown_turn items in
    let xs = lines_of turns in
    let first = rw c.deref-lines-items.ensures.value at c.loop-lines.invariant in
    let past : length turns ≤ c.loop-lines.lines-index = omega (
      arith,
      length-map items shown_turn,
      ap length
          c.deref-lines-items.ensures.value,
    ) in
    let all_links = links_done turns c.loop-lines.lines-index c.loop-lines.links _ past first ∙ ap (with_links (links_of xs))
    c.new-links.ensures in
    let kept = rw (← c.script.view_is) at c.in_ok-turns.ensures in
    let links = ap (λ (l : LinksKept). l.state) kept.links ∙ ap (λ (l : LinksKept). l.state) all_links in
    λ step. rw (← c.script.view_is) (new_from turns _ (rw (kept.turns, links, c.new.ensures)) step)
