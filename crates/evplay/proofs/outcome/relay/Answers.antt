use Rattle.script_port.proofs.ScriptSpelledLemmas.{spelled_names_opened}
use Rattle.evplay.proofs.BroughtLemmas.{brings-fit}
use Rattle.evplay.proofs.PlanLemmas.{plans-low}
use Rattle.evplay.proofs.ScriptLemmas.{links-usual}
use Rattle.evplay.proofs.SizeLemmas.{are-small, none-behind}
use Rattle.evplay.proofs.SettingLemmas.{timeouts-fit, holds-some}
use Rattle.evplay.proofs.outcome.relay.Goals as goal

pub run-requires-clause-small : goal.run-requires-clause-small
run-requires-clause-small g c = are-small c.args.text.now c.in-Ok.script c.in-Ok.ensures.script c.requires.short c.in-Ok.ensures.bytes

pub run-requires-clause-names : goal.run-requires-clause-names
run-requires-clause-names g c = spelled_names_opened c.args.text.now c.in-Ok.script c.in-Ok.ensures.script

pub run-requires-clause-brings : goal.run-requires-clause-brings
run-requires-clause-brings g c = brings-fit c.args.text.now c.in-Ok.script c.in-Ok.ensures.script c.requires.short c.in-Ok.ensures.bytes

pub run-requires-clause-links : goal.run-requires-clause-links
run-requires-clause-links g c = links-usual c.args.text.now c.in-Ok.script c.in-Ok.ensures.script

pub run-requires-clause-timeouts : goal.run-requires-clause-timeouts
run-requires-clause-timeouts g c = timeouts-fit c.args.text.now c.in-Ok.script c.in-Ok.ensures.script

pub run-requires-clause-holds : goal.run-requires-clause-holds
run-requires-clause-holds g c = holds-some c.args.text.now c.in-Ok.script c.in-Ok.ensures.script

pub run-requires-clause-planned : goal.run-requires-clause-planned
run-requires-clause-planned g c = plans-low c.args.text.now c.in-Ok.script c.in-Ok.ensures.script

pub run-requires-clause-ordered : goal.run-requires-clause-ordered
run-requires-clause-ordered g c = none-behind c.args.text.now c.in-Ok.script c.in-Ok.ensures.script
