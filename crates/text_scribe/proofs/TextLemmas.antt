-- The text of a trace that grows by an entry.
use Rattle.std.proofs.Common.{◌≡◌, ℕ, List, [], ◌∷◌, ◌++◌, refl, append_assoc, append-nil}
use Rattle.ev_types.specs.declared.entry.Entry.{Entry}
use Rattle.ev_types.specs.Trace.{Trace}
use Rattle.script_text.specs.Lines.{line_of}
use Rattle.script_text.specs.TraceText.{trace_text, entry_words}

-- the line of the last entry stands behind the text of those before
pub trace_text-push : (t : Trace) (e : Entry) (bytes : List ℕ) →
    trace_text (t ++ (e, bytes) ∷ []) ≡ trace_text t ++ line_of (entry_words e bytes)
trace_text-push [] e bytes = append-nil (line_of (entry_words e bytes))
trace_text-push (event ∷ more) e bytes =
    rw (trace_text-push more e bytes, append_assoc) refl
