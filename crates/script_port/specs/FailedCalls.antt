-- What calls make of an end of a script port that are answered Failed with nothing asked of the script: they are counted, and
-- nothing else changes. Whose fault that is, and who counts it, stands elsewhere.
use Rattle.std.specs.Prelude.{ℕ}
use Rattle.ev_types.specs.declared.answer.ConnAnswer.TheVariants as conn
use Rattle.ev_types.specs.declared.answer.ReadAnswer.TheVariants as read
use Rattle.script_port.specs.EndTallies.{with_read, with_write, with_check}
use Rattle.script_port.specs.ScriptState.{EndState}

abbrev pub failed_read : ℕ → EndState → EndState
failed_read room s = record s { tally = with_read read.Failed room s.tally }

abbrev pub failed_write : ℕ → EndState → EndState
failed_write offer s = record s { tally = with_write offer s.tally }

abbrev pub failed_check : EndState → EndState
failed_check s = record s { tally = with_check conn.Failed s.tally }
