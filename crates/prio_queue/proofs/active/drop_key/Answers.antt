-- Every key but the given one stays.
use Rattle.std.proofs.Common.{rules, ◌==◌, not}
use Rattle.std.proofs.lemmas.Fn.{filter_same}
use Rattle.prio_queue.proofs.active.drop_key.Goals as goal

pub returns : goal.returns
returns c = filter_same _ (λ other. not (other == c.args.key)) _ (λ x b f' k. search rules) _ _ c.retain.ensures.filtered
