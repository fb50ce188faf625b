-- A hook that asks once has made its step.
use Rattle.std.proofs.Common.{◌≡◌, arith, Option}
use Rattle.ev_types.specs.declared.act.Act.{Act}
use Rattle.ev_types.specs.declared.answer.AskAnswer.{AskAnswer}
use Rattle.relay_core.specs.Fires.{AsksOnce, Steps}
use Rattle.relay_core.specs.RelayValue.{RelayValue}
use Rattle.relay_core.proofs.FireLemmas.{steps-asked, steps-none}

pub asked-once : (old new : RelayValue) (a : Act) (r : Option AskAnswer) → old.asks ≡ 0 → AsksOnce old a r new → Steps old new
asked-once old new a r none h = steps-asked old old new a r (steps-none old (omega (arith, none))) h
