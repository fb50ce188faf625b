-- What the ring keeps of a trace that got longer.
use Rattle.std.proofs.Common.{◌≡◌, ◌∙◌, List, [], ◌∷◌, ◌++◌, map, refl, sym, ap}
use Rattle.std.proofs.lemmas.List.{map-append}
use Rattle.ev_types.specs.Trace.{Trace}
use Rattle.ev_types.specs.declared.entry.Entry.{Entry}
use Rattle.ev_port.specs.declared.port.Want.{Want}
use Rattle.ev_port.specs.Polling.{want_events}
use Rattle.evrelay.specs.RingWants.{entries_of, keep_last, last_entries, want_entry}
use Rattle.evrelay.proofs.KeepLastLemmas.{keep_last-keep_last}

-- the entries of wants
pub wants-entries : (ws : List Want) → entries_of (want_events ws) ≡ map want_entry ws
wants-entries [] = refl
wants-entries (w ∷ ws) = ap (λ es. want_entry w ∷ es) (wants-entries ws)

-- what is kept, with some entries behind it
pub kept-more : (es new added : List Entry) (t u v : Trace) → es ≡ last_entries t → new ≡ keep_last 64 (es ++ added)
    → entries_of u ≡ added → v ≡ t ++ u → new ≡ last_entries v
kept-more es new added t u v kept is behind whole =
    is ∙ (λ i. keep_last 64 (kept i ++ sym behind i))
    ∙ keep_last-keep_last 64 (entries_of t) (entries_of u)
    ∙ ap (keep_last 64) (sym (map-append (λ x. x.0) t u)) ∙ ap last_entries (sym whole)
