-- The number is the place, or how many there are.
use Rattle.base_mode.proofs.RunLemmas.{number_of-position}
use Rattle.base_mode.proofs.acts.number_in.Goals as goal

pub returns-in-Some : goal.returns-in-Some
returns-in-Some c = rw (← c.in-Some.ensures) at (number_of-position c.args.event c.args.names.now)

pub returns-in-None : goal.returns-in-None
returns-in-None c = rw (← c.in-None.ensures) at (number_of-position c.args.event c.args.names.now)
