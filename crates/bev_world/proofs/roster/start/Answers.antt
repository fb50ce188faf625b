use Rattle.bev_world.proofs.Calls.{called-once}
use Rattle.bev_world.proofs.roster.start.Goals as goal

pub returns-clause-called : goal.returns-clause-called
returns-clause-called g c =
    called-once _ _ _ _ _ _ _ _ _ _ _ _ _ c.is_live-live.result c.call_box-answer.result
    c.take_box-call.ensures.taken c.call_box-answer.ensures.went c.call_box-answer.ensures.did
    c.call_box-answer.ensures.heard c.is_live-live.ensures
    c.take_box-call.ensures.left c.put_back.ensures.serving c.put_back.ensures.retired
