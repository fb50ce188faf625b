-- How the program ends where a text is no script. When each status comes stands on `play`.
use Rattle.ev_types.specs.declared.status.Status.{Status}
use Rattle.ev_types.specs.declared.status.Status.TheVariants as status
use Rattle.script_text.specs.declared.script.ScriptFault.{ScriptFault}
use Rattle.script_text.specs.declared.script.ScriptFault.TheVariants as script
use Rattle.buffers_mode.specs.declared.fault.ModeFault.{ModeFault}
use Rattle.buffers_mode.specs.declared.fault.ModeFault.TheVariants as buffers

-- the status where a text is no script
abbrev pub bad_status : ScriptFault → Status
bad_status script.Memory = status.Memory
bad_status (script.BadLine line) = status.BadScript line

-- the status where a script of buffers is not played to its end
abbrev pub buffers_status : ModeFault → Status
buffers_status buffers.Memory = status.Memory
buffers_status (buffers.BadLine line) = status.BadScript line
buffers_status buffers.Spent = status.Spent
