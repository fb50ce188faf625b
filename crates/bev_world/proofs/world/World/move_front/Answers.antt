use Rattle.std.proofs.Common.{◌∙◌, length, ap, arith}
use Rattle.bev_core.specs.BevValue.{BevValue}
use Rattle.bev_world.specs.declared.slot.Slot.{Slot}
use Rattle.bev_world.specs.WorldValue.{WorldValue, slot_at}
use Rattle.bev_world.specs.WorldView.{world_of}
use Rattle.bev_world.proofs.HalvesLemmas.{went_as_before}
use Rattle.bev_world.proofs.MoveLemmas.{restored}
use Rattle.bev_world.proofs.WentLemmas.{read_slot, went_then}
use Rattle.bev_world.proofs.world.World.move_front.Goals as goal

pub returns-in-Err-clause-err : goal.returns-in-Err-clause-err
returns-in-Err-clause-err c =
    let many = ap (λ (v : WorldValue). length v.slots) c.self.view_is in
    restored c.args.self.now c.append_all.new.self c.put_back.new.self c.args.from c.index.result.now.room c.append_all.new.carrier.output
    c.requires.there (c.in-Err.ensures.err ∙ c.take_input-carrier.ensures.after)
    (ap (λ (b : BevValue). b.output) (c.in-Err.ensures.kept ∙ c.take_input-carrier.ensures.taken))
    (ap (λ (s : Slot). s.room) (read_slot (world_of c.self.inside) c.args.from _ c.index.result.now
    (omega (arith, c.requires.there, many)) c.index.ensures)
    ∙ ap (λ (v : WorldValue). (slot_at v c.args.from).room) c.self.view_is)
    c.put_back.ensures

pub returns-in-Err-clause-went : goal.returns-in-Err-clause-went
returns-in-Err-clause-went c = went_as_before c.args.self.now c.put_back.new.self (returns-in-Err-clause-err c)

pub returns-clause-went : goal.returns-clause-went
returns-clause-went c = went_then _ _ _ c.take_input-carrier.ensures.went c.append_all.ensures.went
