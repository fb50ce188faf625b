use Rattle.std.proofs.Common.{◌∙◌, map, sym, ap, subst}
use Rattle.std.specs.Prelude.{filter}
use Rattle.ev_port.specs.Table.{is_marked, named}
use Rattle.mio_port.specs.declared.turn.Turn.{Turn}
use Rattle.mio_port.specs.ReadTurns.{TurnWent, in_turn}
use Rattle.mio_port.proofs.TableMarkLemmas.{in_turn-ends, marked-left, marked-turn}
use Rattle.mio_port.proofs.TurnLemmas.{went-peer}
use Rattle.mio_port.proofs.ends.Ends.mark_table.Goals as goal

pub returns-then-is_read_first-clause-listed : goal.returns-then-is_read_first-clause-listed
returns-then-is_read_first-clause-listed c =
    let ends = c.args.self.now in
    let wants = c.args.wants.now in
    let next = c.next-next.result in
    let turn : Turn = record { who = next.who; left = next.left; peer_drains = c.drains_now.result } in
    let may = sym c.is_read_first.ensures ∙ c.if-is_read_first.true in
    let same = marked-turn ends.ends.items ends.ready.prompt ends.ready.bulky ends.ready.writable turn ends.prompts ends.bulks ends.writes
    may in
    record {
      went = subst (λ takes. TurnWent takes c.args.turn turn) (in_turn-ends wants ends.ends.items ends.ready.bulky ends.bulks)
          (went-peer (in_turn wants ends.ready.bulky) c.args.turn next c.drains_now.result c.next-next.ensures);
      drains = c.drains_now.ensures;
      list = c.mark_with.ensures.list ∙ ap (λ mark. filter is_marked (map mark (named wants))) same;
    }

pub returns-else-is_read_first-clause-listed : goal.returns-else-is_read_first-clause-listed
returns-else-is_read_first-clause-listed c =
    let ends = c.args.self.now in
    let wants = c.args.wants.now in
    let next = c.next-next.result in
    let turn : Turn = record { who = next.who; left = next.left; peer_drains = c.drains_now.result } in
    let may = sym c.is_read_first.ensures ∙ c.if-is_read_first.false in
    let same = marked-left ends.ends.items ends.ready.prompt ends.ready.bulky ends.ready.writable turn ends.prompts ends.bulks ends.writes
    may in
    record {
      went = subst (λ takes. TurnWent takes c.args.turn turn) (in_turn-ends wants ends.ends.items ends.ready.bulky ends.bulks)
          (went-peer (in_turn wants ends.ready.bulky) c.args.turn next c.drains_now.result c.next-next.ensures);
      drains = c.drains_now.ensures;
      list = c.mark_ready.ensures.list ∙ ap (λ mark. filter is_marked (map mark (named wants))) same;
    }
