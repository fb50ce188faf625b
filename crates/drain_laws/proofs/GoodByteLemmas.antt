-- Over good bytes no filter meets a bad place: what was read, and what was moved on, begins the whole, and is the whole where an end comes.
use Rattle.std.proofs.Common.{◌≡◌, ℕ, ◌+◌, Bool, true, false, ◌&&◌, if◌then◌else◌, List, [], ◌∷◌, ◌++◌, length, take, Some}
use Rattle.std.proofs.Common.{None, ◌⊎◌, inl, inr, append_assoc, refl, sym, ◌∙◌, ap, subst, eqb-true}
use Rattle.std.specs.Prelude.{nat_lt, nat_eq}
use Rattle.std.proofs.lemmas.Bool.{and_parts}
use Rattle.std.proofs.lemmas.List.{append-nil}
use Rattle.std.proofs.Math.Seq.{take-length}
use Rattle.ev_types.specs.declared.side.SideId.{SideId}
use Rattle.ev_types.specs.Sides.{peer}
use Rattle.ev_types.specs.ScriptTurn.{ScriptTurn, lines_of}
use Rattle.ev_types.specs.Trace.{Event, Trace}
use Rattle.filter_model.specs.Filter.{Filter, filter_of, met}
use Rattle.filter_model.specs.FilterLaws.{IsPrefixOf, BadLaw, IsFilter}
use Rattle.filter_model.proofs.EveryFilter.{every_filter}
use Rattle.filter_model.proofs.ListLemmas.{IsPrefixOf-append, IsPrefixOf-same, IsPrefixOf-take, IsPrefixOf-trans}
use Rattle.filter_model.proofs.MetLemmas.{bad-of_take}
use Rattle.relay_model.specs.Trace.{bytes_read, has_ended}
use Rattle.relay_model.specs.Settings.{Settings}
use Rattle.relay_model.specs.Flow.{Flow, Fits, middle}
use Rattle.relay_model.specs.Conserved.{all_moved}
use Rattle.relay_model.specs.Plain.{flow_at, is_live}
use Rattle.relay_model.specs.Rooms.{read_kind, write_kind}
use Rattle.relay_model.specs.Stages.{State}
use Rattle.relay_model.specs.Turn.{Reaches}
use Rattle.relay_model.specs.Onward.{Leads}
use Rattle.relay_model.specs.Plays.{IsAnswered}
use Rattle.relay_model.specs.Causes.{moved_to, ReadMeets, WriteMeets, MetFirst}
use Rattle.relay_model.proofs.ConservedLemmas.{middle-first}
use Rattle.relay_model.proofs.EndLemmas.{peer-peer}
use Rattle.relay_model.proofs.FitsLemmas.{fits}
use Rattle.drain_laws.specs.CanDrain.{CanDrain, brought_at, NoneBehind}
use Rattle.drain_laws.proofs.UnfailedLemmas.{read-begins, ended-read_all}

-- One filter

-- no place of a beginning is bad where none of the whole is at its end
good-begin : (f : Filter) → BadLaw f → (xs ys : List ℕ) (place : ℕ) → IsPrefixOf xs ys → f.bad_at_end ys ≡ None → f.bad xs ≡ Some place → ⊥
good-begin f law xs ys place begins good bad =
    let over = law.bad_at_end ys place (bad-of_take f law (length xs) ys place (ap f.bad begins ∙ bad)) in cc

-- so none is met in a beginning that is the whole where an end comes
never-met : (f : Filter) → BadLaw f → (xs ys : List ℕ) (used : ℕ) (over room : Bool) (place : ℕ) → IsPrefixOf xs ys →
    (over ≡ true → xs ≡ ys) → f.bad_at_end ys ≡ None → met f xs used over room ≡ Some place → ⊥
never-met f law xs ys used over room place begins whole good h = go room (nat_lt used (length xs)) over whole h
  where
    go : (q c o : Bool) → (o ≡ true → xs ≡ ys) →
        (if q then (if c then f.bad (take (used + 1) xs) else (if o then f.bad_at_end xs else None)) else None) ≡ Some place → ⊥
    go false c o w k = cc
    go true true o w k = good-begin f law xs ys place begins good (bad-of_take f law (used + 1) xs place k)
    go true false true w k = let same = ap f.bad_at_end (w refl) in cc
    go true false false w k = cc

-- One direction

module _ (r w : Filter) (law : IsFilter r) (read later brought : List ℕ) (ended : Bool) (f : Flow) (fit : Fits r w read ended f)
    (begins : read ++ later ≡ brought) (whole : ended ≡ true → read ≡ brought) where
  -- what was read makes a beginning of what the filter makes of all, before its end or at it
  made-begins : IsPrefixOf (if ended then r.at_end read else r.before read) (r.at_end brought)
  made-begins = go ended whole
    where
      go : (b : Bool) → (b ≡ true → read ≡ brought) → IsPrefixOf (if b then r.at_end read else r.before read) (r.at_end brought)
      go true k = subst (λ z. IsPrefixOf (r.at_end read) (r.at_end z)) (k refl) (IsPrefixOf-same (r.at_end read))
      go false k =
          IsPrefixOf-trans (r.before read) (r.before brought) (r.at_end brought)
          (subst (λ z. IsPrefixOf (r.before read) (r.before z)) begins (law.prefix.grows read later)) (law.prefix.ends brought)

  -- what was moved begins what the filter makes of all
  moved-begins : IsPrefixOf (take f.moved (middle r read f)) (r.at_end brought)
  moved-begins =
      let made : List ℕ = if ended then r.at_end read else r.before read in
      subst (λ z. IsPrefixOf z (r.at_end brought))
      (sym (middle-first r law.prefix read ended f.read_done f.used f.moved fit.read_done fit.moved))
      (IsPrefixOf-trans (take f.moved made) made (r.at_end brought) (IsPrefixOf-take f.moved made) made-begins)

  -- where all was moved, that is all that it makes
  moved-whole : all_moved r read f ≡ true → take f.moved (middle r read f) ≡ r.at_end brought
  moved-whole all =
      let parts = and_parts f.read_done (nat_eq f.moved (length (middle r read f))) all in
      let done = fit.read_done parts.0 in
      ap (λ n. take n (middle r read f)) (eqb-true f.moved (length (middle r read f)) parts.1)
      ∙ take-length (middle r read f)
      ∙ ap (λ b. if b then r.at_end (take f.used read) else r.before (take f.used read)) parts.0
      ∙ ap (λ n. r.at_end (take n read)) done.1
      ∙ ap r.at_end (take-length read ∙ whole done.0)

module _ (g : Settings) (turns : List ScriptTurn) (step : ℕ) (can : CanDrain g turns)
    (ordered : NoneBehind (lines_of turns)) (t : Trace) (answered : IsAnswered turns step t) where
  -- In a state

  module _ (early more : Trace) (is : t ≡ early ++ more) (s : State) (reached : Reaches g early s) (e : SideId) (place : ℕ) where
    never-read : ReadMeets g early s.plain e place → ⊥
    never-read h =
        let k = read-begins g turns step can ordered t answered e early more is in
        never-met (filter_of (read_kind g e.side)) (every_filter (read_kind g e.side)).badness (bytes_read e early) (brought_at turns e)
        (flow_at s.plain e).used (has_ended e early) _ place (IsPrefixOf-append (bytes_read e early) k.0 (brought_at turns e) k.1)
        (ended-read_all g turns step can ordered t answered e early more is) (can.good e).read h

    never-written : WriteMeets g early s.plain e place → ⊥
    never-written h =
        let d : SideId = peer e in
        let r : Filter = filter_of (read_kind g d.side) in
        let w : Filter = filter_of (write_kind g (peer d).side) in
        let f : Flow = flow_at s.plain d in
        let law : IsFilter r = every_filter (read_kind g d.side) in
        let k = read-begins g turns step can ordered t answered d early more is in
        let all = ended-read_all g turns step can ordered t answered d early more is in
        let fit : Fits r w (bytes_read d early) (has_ended d early) f = fits g early s reached d in
        let good : (filter_of (write_kind g e.side)).bad_at_end (r.at_end (brought_at turns d)) ≡ None =
        subst (λ z. (filter_of (write_kind g z.side)).bad_at_end (r.at_end (brought_at turns d)) ≡ None) (peer-peer e) (can.good d).write in
        never-met (filter_of (write_kind g e.side)) (every_filter (write_kind g e.side)).badness (moved_to g early s.plain e)
        (r.at_end (brought_at turns d)) f.turned (is_live s.plain d && all_moved r (bytes_read d early) f) _ place
        (moved-begins r w law (bytes_read d early) k.0 (brought_at turns d) (has_ended d early) f fit k.1 all)
        (λ over. moved-whole r w law (bytes_read d early) k.0 (brought_at turns d) (has_ended d early) f fit k.1 all
        (and_parts (is_live s.plain d) (all_moved r (bytes_read d early) f) over).1) good h.1

  -- So no side ever met a place

  -- a way on puts events behind a trace
  leads-begin : (u : Trace) (s : State) (v : Trace) (new : State) → Leads g u s v new → (more : Trace) × (v ≡ u ++ more)
  leads-begin u s v new (Leads.stays) = ([], sym (append-nil u))
  leads-begin u s v new (Leads.goes {mid = mid} way q) = leads-begin u s v mid way
  leads-begin u s v new (Leads.puts {u = w} {mid = mid} e bytes way p) =
      let k = leads-begin u s w mid way in
      let y : Event = (e, bytes) in
      (k.0 ++ y ∷ [], ap (λ z. z ++ y ∷ []) k.1 ∙ append_assoc u k.0 (y ∷ []))

  pub not-met : (before rest : Trace) → t ≡ before ++ rest → (now : State) (e : SideId) (place : ℕ) → MetFirst g before now e place → ⊥
  not-met before rest is now e place m = go m.meets
    where
      way : (more : Trace) × (before ≡ m.early ++ more)
      way = leads-begin m.early m.after before now m.since

      whole : t ≡ m.early ++ (way.0 ++ rest)
      whole = is ∙ ap (λ z. z ++ rest) way.1 ∙ append_assoc m.early way.0 rest

      reached : Reaches g m.early m.after
      reached = Reaches.goes {s = m.before} m.reached m.step

      go : ReadMeets g m.early m.after.plain e place ⊎ WriteMeets g m.early m.after.plain e place → ⊥
      go (inl h) = never-read m.early (way.0 ++ rest) whole m.after reached e place h
      go (inr h) = never-written m.early (way.0 ++ rest) whole m.after reached e place h
