-- A run over a script goes on by a turn that took all links.
use Rattle.std.proofs.Common.{◌≡◌, ◌⊎◌, inl, inr, ℕ, ◌≤◌, Bool, true, false, ◌||◌, ◌&&◌, if◌then◌else◌, List, [], ◌∷◌, ◌++◌, drop, take}
use Rattle.std.proofs.Common.{count_by, refl, sym, ◌∙◌, ap, subst, arith, append_assoc}
use Rattle.std.specs.Bool.{⊤, MatchBool}
use Rattle.std.specs.List.{flat_map, list_any, list_all}
use Rattle.std.proofs.lemmas.List.{append-nil}
use Rattle.std.proofs.lemmas.Bool.{and_parts}
use Rattle.std.proofs.lemmas.List.Sums.{sum_by-append, fold-append}
use Rattle.ev_types.specs.declared.entry.Entry.TheVariants as entry
use Rattle.ev_types.specs.Trace.{Event, Trace}
use Rattle.relay_model.specs.RatesKept.{is_turn}
use Rattle.relay_model.specs.Totals.{is_opened, opened, opened_by, opened_in_turn}
use Rattle.relay_model.specs.Lines.{links_by}
use Rattle.ev_types.specs.ScriptTurn.{ScriptTurn}
use Rattle.relay_model.specs.Scripted.{waiting}
use Rattle.relay_model.specs.Plays.{AllTaken, TookAll, is_behind_accepting, is_served, AlwaysAllTaken, AlwaysTookAll, TurnTakesAll}

-- a served entry begins no turn and opens no link
record IsQuiet (x : Event) : Type 0 where
  pub turn : is_turn x ≡ false
  pub opens : is_opened x ≡ false
  pub in_turn : (n : ℕ) → opened_by n x ≡ n

served-quiet : (x : Event) → is_served x ≡ true → IsQuiet x
served-quiet (entry.Turn ms, bytes) h = absurd (cc)
served-quiet (entry.Opened link connected, bytes) h = absurd (cc)
served-quiet _ h = record { turn = refl; opens = refl; in_turn = λ n. refl }

abbrev once : Bool → ℕ
once b = if b then 1 else 0

-- what is looked at of a trace, to know whether all was taken
record Counts : Type 0 where
  pub turns : ℕ
  pub opened : ℕ
  pub in_turn : ℕ

abbrev counts : Trace → Counts
counts t = record { turns = count_by is_turn t; opened = opened t; in_turn = opened_in_turn t }

counts-served : (t : Trace) (x : Event) → is_served x ≡ true → counts (t ++ x ∷ []) ≡ counts t
counts-served t x h =
    let q = served-quiet x h in
    let a : count_by is_turn (t ++ x ∷ []) ≡ count_by is_turn t =
    (let parts = sum_by-append (λ y. if is_turn y then 1 else 0) t (x ∷ []) in let none = ap once q.turn in omega (arith, parts, none)) in
    let b : opened (t ++ x ∷ []) ≡ opened t =
    (let parts = sum_by-append (λ y. if is_opened y then 1 else 0) t (x ∷ []) in let none = ap once q.opens in
    omega (arith, parts, none)) in
    let c : opened_in_turn (t ++ x ∷ []) ≡ opened_in_turn t = fold-append opened_by 0 t (x ∷ []) ∙ q.in_turn (opened_in_turn t) in
    λ i. record { turns = a i; opened = b i; in_turn = c i }

counts-all_served : (t u : Trace) → list_all is_served u ≡ true → counts (t ++ u) ≡ counts t
counts-all_served t [] h = ap counts (append-nil t)
counts-all_served t (x ∷ u) h =
    let parts = and_parts (is_served x) (list_all is_served u) h in
    ap counts (sym (append_assoc t (x ∷ []) u)) ∙ counts-all_served (t ++ x ∷ []) u parts.1 ∙ counts-served t x parts.0

-- Where no link waits, none does behind entries that are served.
abbrev pub StaysServed : (Trace → Type 0) → Type 0
StaysServed none_waits = (t u : Trace) → list_all is_served u ≡ true → none_waits t → none_waits (t ++ u)

module _ (none_waits : Trace → Type 0) (links : ℕ) where
  pub always-append : (before t u : Trace) → AlwaysAllTaken none_waits links before t → AlwaysAllTaken none_waits links
      (before ++ t) u → AlwaysAllTaken none_waits links before (t ++ u)
  always-append before [] u h k = subst (λ z. AlwaysAllTaken none_waits links z u) (append-nil before) k
  always-append before (x ∷ t) u h k = (
    h.0,
    always-append (before ++ x ∷ []) t u h.1 (subst (λ z. AlwaysAllTaken none_waits links z u)
        (sym (append_assoc before (x ∷ []) t)) k),
  )

  -- nothing is asked of entries before accepting has ended
  pub always-accepting : (before t : Trace) → list_any is_behind_accepting t ≡ false → AlwaysAllTaken none_waits links before t
  always-accepting before [] h = tt
  always-accepting before (x ∷ t) h = by_test (λ k. always-accepting (before ++ x ∷ []) t k) (is_behind_accepting x) refl
    where
      by_test : (list_any is_behind_accepting t ≡ false → AlwaysAllTaken none_waits links (before ++ x ∷ []) t) → (b : Bool) →
          is_behind_accepting x ≡ b → AlwaysAllTaken none_waits links before (x ∷ t)
      by_test rest true e = absurd (let k = ap (λ b. b || list_any is_behind_accepting t) e in cc)
      by_test rest false e = (
        subst (λ b. MatchBool b (AllTaken none_waits links before) ⊤) (sym e) tt,
        rest (sym (ap (λ b. b || list_any is_behind_accepting t) e) ∙ h),
      )

  anyway : (b : Bool) (P : Type 0) → P → MatchBool b P ⊤
  anyway true P p = p
  anyway false P p = tt

  -- so where all was taken, it stays so
  pub took-served : StaysServed none_waits → (t u : Trace) → list_all is_served u ≡ true → AllTaken none_waits links t → AllTaken
      none_waits links (t ++ u)
  took-served stays t u h (inl none) = inl (stays t u h none)
  took-served stays t u h (inr (inl many)) = inr (inl (ap (λ c. c.in_turn) (counts-all_served t u h) ∙ many))
  took-served stays t u h (inr (inr all)) = inr (inr (subst (λ n. links ≤ n) (sym (ap (λ c. c.opened) (counts-all_served t u h))) all))

  pub always-served : StaysServed none_waits → (before t : Trace) → list_all is_served t ≡ true → AllTaken none_waits links before
      → AlwaysAllTaken none_waits links before t
  always-served stays before [] h took = tt
  always-served stays before (x ∷ t) h took =
      let parts = and_parts (is_served x) (list_all is_served t) h in
      let one : list_all is_served (x ∷ []) ≡ true = ap (λ b. b && true) parts.0 in (
        anyway (is_behind_accepting x) (AllTaken none_waits links before) took,
        always-served stays (before ++ x ∷ []) t parts.1 (took-served stays before (x ∷ []) one took),
      )

module _ (turns : List ScriptTurn) (links : ℕ) where
  abbrev TookBy : Counts → Type 0
  TookBy c = (drop c.opened (flat_map links_by (flat_map (λ turn. turn.1) (take c.turns turns))) ≡ []) ⊎ (c.in_turn ≡ 64) ⊎
      (links ≤ c.opened)

  took_as : (t u : Trace) → counts t ≡ counts u → TookAll turns links t → TookAll turns links u
  took_as t u same h = subst TookBy same h

abbrev none_waiting : List ScriptTurn → Trace → Type 0
none_waiting turns u = waiting turns u ≡ []

waiting-served : (turns : List ScriptTurn) → StaysServed (none_waiting turns)
waiting-served turns t u h none =
    subst (λ (c : Counts). drop c.opened (flat_map links_by (flat_map (λ turn. turn.1) (take c.turns turns))) ≡ [])
    (sym (counts-all_served t u h)) none

pub turn_takes_all : TurnTakesAll
turn_takes_all turns links t ms accepting behind so_far began quiet served ends =
    always-append (none_waiting turns) links [] t ((entry.Turn ms, []) ∷ (accepting ++ behind)) so_far (
      began,
      always-append (none_waiting turns) links (t ++ (entry.Turn ms, []) ∷ []) accepting behind
          (always-accepting (none_waiting turns) links _ accepting quiet) (at_end behind served ends),
    )
  where
    at_end : (u : Trace) → list_all is_served u ≡ true → (u ≡ []) ⊎ TookAll turns links (t ++ (entry.Turn ms, []) ∷ (accepting ++ u)) →
        AlwaysTookAll turns links ((t ++ (entry.Turn ms, []) ∷ []) ++ accepting) u
    at_end u s (inl none) = subst (AlwaysTookAll turns links ((t ++ (entry.Turn ms, []) ∷ []) ++ accepting)) (sym none) tt
    at_end u s (inr took) =
        let front = (t ++ (entry.Turn ms, []) ∷ []) ++ accepting in
        let whole : front ++ u ≡ t ++ (entry.Turn ms, []) ∷ (accepting ++ u) =
        append_assoc (t ++ (entry.Turn ms, []) ∷ []) accepting u ∙ append_assoc t ((entry.Turn ms, []) ∷ []) (accepting ++ u) in
        always-served (none_waiting turns) links (waiting-served turns) front u s (took_as turns links
        (t ++ (entry.Turn ms, []) ∷ (accepting ++ u)) front (ap counts (sym whole) ∙ counts-all_served front u s) took)
