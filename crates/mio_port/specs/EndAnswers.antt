-- What is answered for an end whose connection isn't open: nothing is there to do, or it failed.
use Rattle.std.specs.Prelude.{◌≡◌, ⊤, List, Option, Some, None, slice_index_or, option_map}
use Rattle.ev_types.specs.declared.side.SideId.{SideId}
use Rattle.ev_types.specs.Sides.{number}
use Rattle.ev_types.specs.declared.answer.ConnAnswer.{ConnAnswer}
use Rattle.ev_types.specs.declared.answer.ConnAnswer.TheVariants as conn
use Rattle.ev_types.specs.declared.answer.ReadAnswer.{ReadAnswer}
use Rattle.ev_types.specs.declared.answer.ReadAnswer.TheVariants as read
use Rattle.ev_types.specs.declared.answer.WriteAnswer.{WriteAnswer}
use Rattle.ev_types.specs.declared.answer.WriteAnswer.TheVariants as write
use Rattle.mio_port.specs.declared.end.Connection.{Connection}
use Rattle.mio_port.specs.declared.end.Connection.TheVariants as connection
use Rattle.mio_port.specs.declared.end.End.{End}

-- the connection at a place, if an end is there
abbrev pub connection_of : Option End → Option Connection
connection_of place = option_map (λ e. e.connection) place

abbrev pub connection_at : List (Option End) → SideId → Option Connection
connection_at ends e = connection_of (slice_index_or ends (number e) None)

abbrev pub ReadBy : Option Connection → ReadAnswer → Type 0
ReadBy None answer = answer ≡ read.NotYet
ReadBy (Some connection.Closed) answer = answer ≡ read.NotYet
ReadBy (Some connection.Refused) answer = answer ≡ read.Failed
ReadBy (Some (connection.Open stream)) answer = ⊤

abbrev pub WrittenBy : Option Connection → WriteAnswer → Type 0
WrittenBy None answer = answer ≡ write.NotYet
WrittenBy (Some connection.Closed) answer = answer ≡ write.NotYet
WrittenBy (Some connection.Refused) answer = answer ≡ write.Failed
WrittenBy (Some (connection.Open stream)) answer = ⊤

abbrev pub CheckedBy : Option Connection → ConnAnswer → Type 0
CheckedBy None answer = answer ≡ conn.Pending
CheckedBy (Some connection.Closed) answer = answer ≡ conn.Pending
CheckedBy (Some connection.Refused) answer = answer ≡ conn.Failed
CheckedBy (Some (connection.Open stream)) answer = ⊤
