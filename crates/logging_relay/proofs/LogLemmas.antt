-- How the log of a trace grows with the trace.
use Rattle.std.proofs.Common.{inl, inr, ◌≡◌, ◌∙◌, ◌++◌, ◌+◌, ◌≤◌, ℕ, List, [], ◌∷◌, Option, Some, None, refl, sym, ap, subst, arith}
use Rattle.std.proofs.lemmas.List.{append_assoc, append-nil}
use Rattle.std.specs.Prelude.{MatchOption, unwrap_or}
use Rattle.ev_types.specs.Trace.{Event, Trace}
use Rattle.ev_types.specs.declared.entry.Entry.TheVariants as entry
use Rattle.ev_port.specs.declared.stream.Sink as sink
use Rattle.ev_port.specs.declared.port.Want.{Want}
use Rattle.ev_port.specs.FaultCounts.{Rose}
use Rattle.ev_port.specs.Polling.{want_events}
use Rattle.ev_port.specs.StreamBytes.{TookOn}
use Rattle.ev_port.proofs.StreamLemmas.{TookOn-join, TookOn-none}
use Rattle.logging_relay.specs.EndLines.{TakesLine, end_line, LogsEnd, LogsEnds, log_of, IsNewSink, IsLogOf}

module _ {K : Type 0} (g : sink.Ghosts K) where
  -- of two traces, one behind the other
  ends-join : (t u : Trace) (a b c : K) → LogsEnds g t a b → LogsEnds g u b c → LogsEnds g (t ++ u) a c
  ends-join [] u a b c first then = subst (λ (z : K). LogsEnds g u z c) first then
  ends-join (event ∷ t) u a b c (mid, one, rest) then = (mid, one, ends-join t u mid b c rest then)

  log-join : (t u : Trace) → log_of (t ++ u) ≡ log_of t ++ log_of u
  log-join [] u = refl
  log-join (event ∷ t) u =
      ap (λ z. unwrap_or (end_line event.0) [] ++ z) (log-join t u)
      ∙ sym (append_assoc (unwrap_or (end_line event.0) []) (log_of t) (log_of u))

  -- a count that rose isn't 0
  not-risen : (before now : ℕ) → Rose before now → now ≡ 0 → before + 1 ≤ 0
  not-risen before now rose none = omega (arith, rose, none)

  -- where a sink met no fault up to the end of a step it met none before, and took the whole line
  calm-step : (line : Option (List ℕ)) (old new : K) → MatchOption line (new ≡ old) (λ l. TakesLine g l old new)
      → g.faults new ≡ 0 → (g.faults old ≡ 0) × TookOn (g.taken old) (g.taken new) (unwrap_or line [])
  calm-step None old new is none =
      (ap g.faults (sym is) ∙ none, subst (λ (z : K). TookOn (g.taken old) (g.taken z) []) (sym is) (TookOn-none (g.taken old)))
  calm-step (Some line) old new (inl (took, same)) none = (sym same ∙ none, took)
  calm-step (Some line) old new (inr (part, rose)) none =
      absurd (let over = not-risen (g.faults old) (g.faults new) rose none in omega (arith, over))

  -- a new sink has the log of no entry
  pub log-none : (out : K) → IsNewSink g out → IsLogOf g [] out
  log-none out fresh = record { first = out; fresh = fresh; each = refl; whole = λ none. TookOn-none (g.taken out) }

  -- one more entry
  pub log-more : (t : Trace) (event : Event) (old new : K) → IsLogOf g t old → LogsEnd g event.0 old new
      → IsLogOf g (t ++ event ∷ []) new
  log-more t event old new was step = record {
    first = was.first;
    fresh = was.fresh;
    each = ends-join t (event ∷ []) was.first old new was.each (new, step, refl);
    whole = λ none.
        let line = unwrap_or (end_line event.0) [] in
        let calm = calm-step (end_line event.0) old new step none in
        rw (log-join t (event ∷ []))
        (rw (append-nil line)
        (TookOn-join (g.taken was.first) (g.taken old) (g.taken new) (log_of t) line (was.whole calm.0) calm.1));
  }

  -- entries that name wants have no line
  pub log-wants : (ws : List Want) (t : Trace) (out : K) → IsLogOf g t out → IsLogOf g (t ++ want_events ws) out
  log-wants [] t out was = rw (append-nil t) was
  log-wants (w ∷ ws) t out was =
      let event : Event = (entry.Want w.side w.read w.write, []) in
      subst (λ (z : Trace). IsLogOf g z out) (append_assoc t (event ∷ []) (want_events ws))
      (log-wants ws (t ++ event ∷ []) out (log-more t event out out was refl))
