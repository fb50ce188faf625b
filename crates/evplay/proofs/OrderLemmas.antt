-- A legal trace numbers its links in order.
use Rattle.ev_types.specs.Trace.{Trace}
use Rattle.relay_model.specs.Called.{OpensInOrder}
use Rattle.relay_model.specs.Settings.{Settings}
use Rattle.relay_model.specs.Turn.{IsLegal}
use Rattle.relay_model.proofs.QuietLemmas.{links_in_order}

pub opens-in-order : (g : Settings) (t : Trace) → IsLegal g t → OpensInOrder t
opens-in-order g t legal before after link connected bytes split =
    links_in_order g t before after legal.0.plain legal.0.stage link connected bytes legal.1 split
