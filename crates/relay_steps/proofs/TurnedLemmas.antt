-- A side is served within a turn, so that a group's bucket has seen the start of one.
use Rattle.std.proofs.Common.{◌≡◌, ℕ, ◌<◌, ◌≤◌, cond, List, [], ◌∷◌, ◌++◌, length, count_by, refl, arith}
use Rattle.std.specs.Prelude.{⊤}
use Rattle.std.proofs.lemmas.List.Sums.{sum_by-cons, sum_by-append}
use Rattle.token_bucket.specs.declared.limit.Dir.{Dir}
use Rattle.token_bucket.specs.Spells.{spells}
use Rattle.ev_types.specs.declared.entry.Entry.{Entry}
use Rattle.ev_types.specs.declared.entry.Entry.TheVariants as entry
use Rattle.ev_types.specs.Trace.{Event, Trace}
use Rattle.relay_model.specs.Settings.{Settings}
use Rattle.relay_model.specs.Plain.{Plain}
use Rattle.relay_model.specs.Groups.{beats_among, group_spells}
use Rattle.relay_model.specs.RatesKept.{is_turn}
use Rattle.relay_model.specs.Rooms.{Want}
use Rattle.relay_model.specs.Stages.{Stage, State, at}
use Rattle.relay_model.specs.Turn.{Puts, Quietly, Reaches}

-- as many turns as a group's buckets see
turns-among : (g : Settings) (n : ℕ) (d : Dir) (before t : Trace) → length (spells (beats_among g n d before t)) ≡ count_by is_turn t
turns-among g n d before [] = refl
turns-among g n d before ((entry.Turn ms, bytes) ∷ t) =
    let a = sum_by-cons (λ z. cond (is_turn z) 1 0) (entry.Turn ms, bytes) t in
    let b = turns-among g n d (before ++ (entry.Turn ms, bytes) ∷ []) t in
    omega (arith, a, b)
turns-among g n d before ((entry.Read side room answer, bytes) ∷ t) =
    let a = sum_by-cons (λ z. cond (is_turn z) 1 0) (entry.Read side room answer, bytes) t in
    let b = turns-among g n d (before ++ (entry.Read side room answer, bytes) ∷ []) t in
    omega (arith, a, b)
turns-among g n d before ((entry.Write side offered answer, bytes) ∷ t) =
    let a = sum_by-cons (λ z. cond (is_turn z) 1 0) (entry.Write side offered answer, bytes) t in
    let b = turns-among g n d (before ++ (entry.Write side offered answer, bytes) ∷ []) t in
    omega (arith, a, b)
turns-among g n d before (x ∷ t) =
    let a = sum_by-cons (λ z. cond (is_turn z) 1 0) x t in
    let b = turns-among g n d (before ++ x ∷ []) t in
    omega (arith, a, b)

-- within a turn, one was begun
abbrev Turned : Stage → ℕ → Type 0
Turned Stage.Between n = ⊤
Turned _ n = 0 < n

any-turned : (x : Stage) (n : ℕ) → 0 < n → Turned x n
any-turned Stage.Between n h = tt
any-turned _ n h = h

module _ (g : Settings) where
  quiet-turned : (t : Trace) (x : Stage) (p : Plain) (new : State) (n : ℕ) → Turned x n → Quietly g t x p new → 0 < n
  quiet-turned t Stage.Between p new n k h = absurd h
  quiet-turned t _ p new n k h = k

  more-turns : (t : Trace) (x : Event) → count_by is_turn t ≤ count_by is_turn (t ++ x ∷ [])
  more-turns t x = let a = sum_by-append (λ z. cond (is_turn z) 1 0) t (x ∷ []) in omega (arith, a)

  put-turned : (t : Trace) (x : Stage) (p : Plain) (e : Entry) (bytes : List ℕ) (new : State) → Turned x (count_by is_turn t) →
      Puts g t x p e bytes new → 0 < count_by is_turn (t ++ (e, bytes) ∷ [])
  put-turned t Stage.Between p (entry.Turn ms) bytes new k h =
      let a = sum_by-append (λ z. cond (is_turn z) 1 0) t ((entry.Turn ms, bytes) ∷ []) in
      let b = sum_by-cons (λ z. cond (is_turn z) 1 0) (entry.Turn ms, bytes) [] in
      omega (arith, a, b)
  put-turned t Stage.Between p e bytes new k h = absurd h
  put-turned t _ p e bytes new k h = let a = more-turns t (e, bytes) in omega (arith, a, k)

  all-turned : (t : Trace) (s : State) → Reaches g t s → Turned s.stage (count_by is_turn t)
  all-turned t s Reaches.begins = tt
  all-turned t new (Reaches.goes {t = u} {s = old} r h) =
      any-turned new.stage (count_by is_turn u) (quiet-turned u old.stage old.plain new (count_by is_turn u) (all-turned u old r) h)
  all-turned t new (Reaches.puts {t = u} {s = old} e bytes r h) =
      any-turned new.stage (count_by is_turn (u ++ (e, bytes) ∷ []))
      (put-turned u old.stage old.plain e bytes new (all-turned u old r) h)

  -- So it is where a side is served.
  pub served-turned : (t : Trace) (p : Plain) (m : Want) (ms : List Want) → Reaches g t (at (Stage.Serving (m ∷ ms)) p) →
      (n : ℕ) (d : Dir) → 0 < length (group_spells g n d t)
  served-turned t p m ms r n d =
      let a = all-turned t (at (Stage.Serving (m ∷ ms)) p) r in
      let b = turns-among g n d [] t in
      omega (arith, a, b)
