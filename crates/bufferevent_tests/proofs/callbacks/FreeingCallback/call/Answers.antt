use Rattle.bev_world.proofs.WentLemmas.{went_none, went_then}
use Rattle.bufferevent_tests.proofs.callbacks.FreeingCallback.call.Goals as goal

pub returns-clause-went : goal.returns-clause-went
returns-clause-went c =
    went_then _ _ _ (went_then _ _ _ c.free-first.ensures.went c.free-second.ensures.went) c.write-noted.ensures.went

pub returns-in_err-push-clause-went : goal.returns-in_err-push-clause-went
returns-in_err-push-clause-went c = went_none _

pub returns-clause-did : goal.returns-clause-did
returns-clause-did c = returns-clause-went c

pub returns-in_err-push-clause-did : goal.returns-in_err-push-clause-did
returns-in_err-push-clause-did c = went_none _
