use Rattle.min_timer.specs.declared.timer.Timer.{Timer}
use Rattle.min_timer.proofs.SeatLemmas.{seated-exchanged, slab_len-exchanged}
use Rattle.min_timer.proofs.sift.exchange.Goals as goal

-- the timer that an index out of range would give
abbrev none : Timer
none = record { deadline = 0; key = 0; handle = record { slot = 0; stamp = 0 } }

pub returns-clause-seated : goal.returns-clause-seated
returns-clause-seated c =
    seated-exchanged c.args.timers.now c.swap.new.self c.args.places.now c.args.a c.args.b c.requires.seated c.requires.bounds.0
    c.requires.bounds.1 c.swap.ensures.after none

pub returns-clause-count : goal.returns-clause-count
returns-clause-count c =
    slab_len-exchanged c.args.timers.now c.swap.new.self c.args.places.now c.args.a c.args.b c.requires.seated c.requires.bounds.0
    c.requires.bounds.1 c.swap.ensures.after none
