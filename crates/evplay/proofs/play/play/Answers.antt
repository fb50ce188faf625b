use Rattle.std.proofs.Common.{map, string_bytes}
use Rattle.evplay.proofs.ModeLemmas.{few-links}
use Rattle.evplay.proofs.play.play.Goals as goal

pub outcome_of-requires-clause-few : goal.outcome_of-requires-clause-few
outcome_of-requires-clause-few g c = few-links (map string_bytes c.args.words.now) _ c.in-Ok.ensures.read
