-- A port of one's own that never fails and is always ready.
use Rattle.ev_port.specs.Faults.{Faults}
use Rattle.ev_port.specs.declared.port.Want.{Want}

-- a want of which all that is wanted can be done
abbrev pub marked : Want → Want
marked want = record want { can_read = want.read; can_write = want.write }

-- it never fails
abbrev pub no_fault : Faults
no_fault = record { ends = λ _. 0; polling = 0; listener = 0 }
