-- What a replay refuses behind a trace is not legal.
use Rattle.std.proofs.Common.{◌≡◌, inl, inr, ℕ, zero, suc, true, is_some, is_none, List, [], ◌∷◌, ◌++◌, Option, Some, None, refl, sym, ap}
use Rattle.std.proofs.Common.{◌∙◌, subst, append_assoc, arith}
use Rattle.std.proofs.lemmas.Bool.{and_parts}
use Rattle.std.proofs.lemmas.List.{append-nil}
use Rattle.ev_types.specs.Trace.{Event, Trace}
use Rattle.relay_model.specs.Settings.{Settings}
use Rattle.relay_model.specs.Stages.{State, start}
use Rattle.relay_model.specs.Turn.{Reaches, Puts, Quietly}
use Rattle.relay_rows.specs.Replay.{most_silent, step, replay_from, replay, rest_within, rest}
use Rattle.relay_rows.specs.Laws.{Ahead, AllLiesAhead, RefusedIsIllegal}
use Rattle.relay_rows.proofs.ReplayLemmas.{replay-is}
use Rattle.relay_rows.proofs.OrderLemmas.{Rise}
use Rattle.relay_rows.proofs.OnceLemmas.{unmarked, quietly-rise, puts-rise}
use Rattle.relay_rows.proofs.RefusalLemmas.{agrees}

-- A trace with one event more

ends_alike : (xs ys : Trace) (x y : Event) → xs ++ x ∷ [] ≡ ys ++ y ∷ [] → (xs ≡ ys) × (x ≡ y)
ends_alike [] [] x y h = (refl, cc)
ends_alike [] (b ∷ []) x y h = absurd (cc)
ends_alike [] (b ∷ c ∷ ys) x y h = absurd (cc)
ends_alike (a ∷ []) [] x y h = absurd (cc)
ends_alike (a ∷ c ∷ xs) [] x y h = absurd (cc)
ends_alike (a ∷ xs) (b ∷ ys) x y h =
    let rest = ends_alike xs ys x y (cc) in
    let first : a ≡ b = cc in
    (λ i. first i ∷ rest.0 i, rest.1)

not_empty : (t : Trace) (e : Event) → [] ≡ t ++ e ∷ [] → ⊥
not_empty [] e h = absurd (cc)
not_empty (x ∷ t) e h = absurd (cc)

-- the last event of a trace was put
last_put : (g : Settings) (u : Trace) (s : State) → Reaches g u s → (t : Trace) (e : Event) → u ≡ t ++ e ∷ [] →
    (old : State) × (new : State) × Reaches g t old × Puts g t old.stage old.plain e.0 e.1 new
last_put g _ _ Reaches.begins t e h = absurd (not_empty t e h)
last_put g u _ (Reaches.goes {s = old} r q) t e h = last_put g u old r t e h
last_put g _ new (Reaches.puts {t = u} {s = old} x bytes r q) t e h =
    let same = ends_alike u t (x, bytes) e h in (
      old,
      new,
      subst (λ v. Reaches g v old) same.0 r,
      subst (λ v. Puts g v old.stage old.plain e.0 e.1 new) same.0
          (subst (λ y. Puts g u old.stage old.plain y.0 y.1 new) same.1 q),
    )

-- marks rise in every state that is reached
reaches-rise : (g : Settings) (t : Trace) (s : State) → Reaches g t s → Rise 0 (unmarked s.stage)
reaches-rise g _ _ Reaches.begins = tt
reaches-rise g t new (Reaches.goes {s = old} r q) = quietly-rise g t old.stage old.plain new q (reaches-rise g t old r)
reaches-rise g _ new (Reaches.puts {t = u} {s = old} x bytes r q) = puts-rise g u old.stage old.plain x bytes new q (reaches-rise g u old r)

ahead-goes : (g : Settings) (t : Trace) (k : ℕ) (a s new : State) → Ahead g t k a s → Quietly g t s.stage s.plain new → Ahead g t
    (suc k) a new
ahead-goes g t zero a s new h q = (new, subst (λ x. Quietly g t x.stage x.plain new) (sym h) q, refl)
ahead-goes g t (suc k) a s new h q = (h.0, h.1, ahead-goes g t k h.0 s new h.2 q)

-- A replay of one event more is a replay and a step

replay_from-last : (es : List Event) (g : Settings) (t : Trace) (x a : State) (e : Event) → replay_from g t x (es ++ e ∷ []) ≡ Some a →
    (mid : State) × (replay_from g t x es ≡ Some mid) × (step g (t ++ es) mid e ≡ Some a)
replay_from-last [] g t x a e h = (x, refl, subst (λ u. step g u x e ≡ Some a) (sym (append-nil t)) (only (step g t x e) h))
  where
    only : (o : Option State) → elim o [ Some new ↦ Some new | None ↦ None ] ≡ Some a → o ≡ Some a
    only None h = absurd (cc)
    only (Some y) h = h
replay_from-last (c ∷ es) g t x a e h = found (step g t x c) refl (λ new more. replay_from-last es g (t ++ c ∷ []) new a e more) h
  where
    Found : Type 0
    Found = (mid : State) × (replay_from g t x (c ∷ es) ≡ Some mid) × (step g (t ++ c ∷ es) mid e ≡ Some a)

    Rest : State → Type 0
    Rest new = (mid : State) × (replay_from g (t ++ c ∷ []) new es ≡ Some mid) × (step g ((t ++ c ∷ []) ++ es) mid e ≡ Some a)

    found : (o : Option State) → step g t x c ≡ o → ((new : State) → replay_from g (t ++ c ∷ []) new (es ++ e ∷ []) ≡ Some a → Rest new) →
        elim o [ Some new ↦ replay_from g (t ++ c ∷ []) new (es ++ e ∷ []) | None ↦ None ] ≡ Some a → Found
    found None q more h = absurd (cc)
    found (Some new) q more h =
        let w = more new h in (
          w.0,
          ap (λ o. elim o [ Some y ↦ replay_from g (t ++ c ∷ []) y es | None ↦ None ]) q ∙ w.1,
          subst (λ u. step g u w.0 e ≡ Some a) (append_assoc t (c ∷ []) es) w.2,
        )

replay_from-more : (es : List Event) (g : Settings) (t : Trace) (x mid a : State) (e : Event) → replay_from g t x es ≡ Some mid →
    step g (t ++ es) mid e ≡ Some a → replay_from g t x (es ++ e ∷ []) ≡ Some a
replay_from-more [] g t x mid a e h q =
    let same : x ≡ mid = cc in
    let here = subst (λ u. step g u mid e ≡ Some a) (append-nil t) q in
    ap (λ o. elim o [ Some y ↦ Some y | None ↦ None ]) (ap (λ y. step g t y e) same ∙ here)
replay_from-more (c ∷ es) g t x mid a e h q = found (step g t x c) refl (λ new more. replay_from-more es g (t ++ c ∷ []) new mid a e more) h
  where
    found : (o : Option State) → step g t x c ≡ o →
        ((new : State) → replay_from g (t ++ c ∷ []) new es ≡ Some mid → step g ((t ++ c ∷ []) ++ es) mid e ≡ Some a → replay_from
        g (t ++ c ∷ []) new (es ++ e ∷ []) ≡ Some a) →
        elim o [ Some new ↦ replay_from g (t ++ c ∷ []) new es | None ↦ None ] ≡ Some mid → replay_from g t x (c ∷ es ++ e ∷ []) ≡ Some a
    found None w more h = absurd (cc)
    found (Some new) w more h =
        ap (λ o. elim o [ Some y ↦ replay_from g (t ++ c ∷ []) y (es ++ e ∷ []) | None ↦ None ]) w
        ∙ more new h (subst (λ u. step g u mid e ≡ Some a) (sym (append_assoc t (c ∷ []) es)) q)

-- Whatever a replayed trace leads to lies ahead of the state of the replay.
pub replayed-leads : AllLiesAhead
replayed-leads g _ _ a Reaches.begins h = let same : a ≡ start = cc in (zero, same)
replayed-leads g t new a (Reaches.goes {s = old} r q) h =
    let w = replayed-leads g t old a r h in
    (suc w.0, ahead-goes g t w.0 a old new w.1 q)
replayed-leads g _ new a (Reaches.puts {t = u} {s = old} x bytes r q) h =
    let before = replay_from-last u g [] start a (x, bytes) h in
    let mid = before.0 in
    let w = replayed-leads g u old mid r before.1 in
    let put = agrees g u (x, bytes) old new q w.0 w.0 most_silent mid.stage mid.plain (omega arith)
    (reaches-rise g u mid (replay-is g u mid before.1)) w.1 (inr (a, before.2)) in
    let same : a ≡ new = cc (before.2, put) in
    (zero, same)

rest_of : (g : Settings) (t : Trace) (o : Option State) → is_some (elim o [ Some x ↦ rest_within most_silent g t x | None ↦ None ]) ≡ true →
    (x : State) × (o ≡ Some x) × ((r : State) × (rest_within most_silent g t x ≡ Some r))
rest_of g t None h = absurd (cc)
rest_of g t (Some x) h = (x, refl, found (rest_within most_silent g t x) refl h)
  where
    found : (o : Option State) → rest_within most_silent g t x ≡ o → is_some o ≡ true → (r : State) ×
        (rest_within most_silent g t x ≡ Some r)
    found None q h = absurd (cc)
    found (Some r) q h = (r, q)

none_of : (o : Option State) (x : State) → is_none o ≡ true → o ≡ Some x → ⊥
none_of None x h q = absurd (cc)
none_of (Some y) x h q = absurd (cc)

pub refuses-is : RefusedIsIllegal
refuses-is g t e h =
    let w = and_parts (is_some (rest g t)) (is_none (replay g (t ++ e ∷ []))) h in
    let here = rest_of g t (replay g t) w.0 in
    let x = here.0 in
    let reached = replay-is g t x here.1 in (
      (x, reached),
      λ legal.
          let last = last_put g (t ++ e ∷ []) legal.0 legal.1 t e refl in
          let way = replayed-leads g t last.0 x last.2 here.1 in
          let put = agrees g t e last.0 last.1 last.3 way.0 way.0 most_silent x.stage x.plain (omega arith)
          (reaches-rise g t x reached) way.1 (inl here.2) in
          none_of (replay g (t ++ e ∷ [])) last.1 w.1 (replay_from-more t g [] start x last.1 e here.1 put),
    )
