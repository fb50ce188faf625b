-- Where something that a table wants can be done, a poll marks something: a write, a read of an end that isn't bulky, or what the turn
-- leaves.
use Rattle.std.proofs.Common.{◌≡◌, ◌∙◌, ℕ, zero, suc, ◌*◌, ◌<◌, ◌==◌, nat_lt, length, Bool, true, false, cond, ◌&&◌, ◌||◌, not, List}
use Rattle.std.proofs.Common.{[], ◌∷◌, Option, None, map, refl, sym, ap, subst, arith, inl, inr, get_or, eq-eqb}
use Rattle.std.specs.Prelude.{filter}
use Rattle.std.specs.List.{list_any}
use Rattle.std.proofs.lemmas.Bool.{and_parts, both_ways, cases_Bool, cases_eq, cases_lt, or_cases, or_left, or_right}
use Rattle.std.proofs.lemmas.List.Folds.{list_any-append}
use Rattle.ev_port.specs.declared.port.Polled.{Polled}
use Rattle.ev_port.specs.declared.port.Polled.TheVariants as polled
use Rattle.ev_port.specs.declared.port.Want.{Want}
use Rattle.ev_port.specs.Table.{WantsValue, is_marked, named, row, row_by, rows_before, wants_some}
use Rattle.ev_port.proofs.NamedLemmas.{number-side_of}
use Rattle.mio_port.specs.declared.end.End.{End}
use Rattle.mio_port.specs.declared.turn.Turn.{Turn}
use Rattle.mio_port.specs.EndPlaces.{is_bulky, is_prompt, is_read_ready, is_write_ready, wants_ready, came_short}
use Rattle.mio_port.specs.ReadTurns.{ListedInTurn, MarkedTable, SomeMarked, marked_in_turn, gives_way, is_read_now, other_end}
use Rattle.mio_port.specs.ReadTurns.{drains_now, takes_turns}
use Rattle.mio_port.proofs.TableMarkLemmas.{ready-parts}
use Rattle.mio_port.proofs.TurnLemmas.{turn-takes}

-- Rows that pass a test

one-any : (p : Want → Bool) (x : Want) (b : Bool) → wants_some x ≡ b → list_any p (filter wants_some (x ∷ [])) ≡ (b && (p x || false))
one-any p x true h = ap (λ q. list_any p (cond q (x ∷ []) [])) h
one-any p x false h = ap (λ q. list_any p (cond q (x ∷ []) [])) h

any-more : (p : Want → Bool) (r w : ℕ → Bool) (n : ℕ) → list_any p (rows_before r w (suc n))
    ≡ (list_any p (rows_before r w n) || list_any p (filter wants_some (row_by r w n ∷ [])))
any-more p r w n = list_any-append p (rows_before r w n) (filter wants_some (row_by r w n ∷ []))

-- a number below the end whose row passes
record Found (p : Want → Bool) (r w : ℕ → Bool) (end : ℕ) : Type 0 where
  at : ℕ
  below : at < end
  is : p (row_by r w at) ≡ true

or_none : (b : Bool) → (b || false) ≡ true → b ≡ true
or_none true h = refl
or_none false h = h

found : (p : Want → Bool) (r w : ℕ → Bool) (n : ℕ) → list_any p (rows_before r w n) ≡ true → Found p r w n
found p r w zero h = absurd (both_ways false refl h)
found p r w (suc n) h =
    elim (or_cases (list_any p (rows_before r w n)) (list_any p (filter wants_some (row_by r w n ∷ []))) (sym (any-more p r w n) ∙ h)) [
      | inl before ↦ (let f = found p r w n before in let l = f.below in record { at = f.at; below = omega (arith, l); is = f.is })
      | inr here ↦ (let s : (wants_some (row_by r w n) && (p (row_by r w n) || false)) ≡ true =
          sym (one-any p (row_by r w n) (wants_some (row_by r w n)) refl) ∙ here in
          record {
            at = n;
            below = omega arith;
            is = or_none (p (row_by r w n)) (and_parts (wants_some (row_by r w n)) (p (row_by r w n) || false) s).1;
          })
    ]

any-at : (p : Want → Bool) (r w : ℕ → Bool) (at n : ℕ) → at < n → wants_some (row_by r w at) ≡ true → p (row_by r w at) ≡ true
    → list_any p (rows_before r w n) ≡ true
any-at p r w at zero l a b = absurd (omega (arith, l))
any-at p r w at (suc n) l a b = any-more p r w n ∙ elim (cases_eq at n) [
  | inl e ↦ or_right (list_any p (rows_before r w n)) _
      (ap (λ k. list_any p (filter wants_some (row_by r w k ∷ []))) (sym e) ∙ one-any p (row_by r w at) true a ∙ ap (λ q. q || false) b)
  | inr e ↦ or_left (list_any p (rows_before r w n)) _ (any-at p r w at n (omega (arith, l, e)) a b)
]

-- a list of which something is marked isn't empty
listed : (m : Want → Want) (ws : List Want) → list_any (λ w. is_marked (m w)) ws ≡ true → 0 < length (filter is_marked (map m ws))
listed m [] h = absurd (both_ways false refl h)
listed m (w ∷ ws) h =
    let rest = filter is_marked (map m ws) in
    elim (cases_Bool (is_marked (m w))) [
      | inl is ↦ (let e = ap (λ q. length (cond q (m w ∷ rest) rest)) is in omega (arith, e))
      | inr is ↦ (
          let e = ap (λ q. length (cond q (m w ∷ rest) rest)) is in
          let more = listed m ws (ap (λ q. q || list_any (λ x. is_marked (m x)) ws) (sym is) ∙ h) in
          omega (arith, e, more))
    ]

-- What is marked of one row

module _ (t : WantsValue) (ends : List (Option End)) where
  abbrev readable : ℕ → Bool
  readable n = is_read_ready (get_or ends n None)

  abbrev writable : ℕ → Bool
  writable n = is_write_ready (get_or ends n None)

  ready-row : (n : ℕ) → wants_ready ends (row t n) ≡ ((t.reads n && readable n) || (t.writes n && writable n))
  ready-row n = ap (λ m. (t.reads n && readable m) || (t.writes n && writable m)) (number-side_of n)

  mark-row : (turn : Turn) (n : ℕ) → is_marked (marked_in_turn ends turn (row t n))
      ≡ ((t.reads n && is_read_now ends turn n) || (t.writes n && writable n))
  mark-row turn n = ap (λ m. (t.reads n && is_read_now ends turn m) || (t.writes n && writable m)) (number-side_of n)

  reads_within : (n : ℕ) → t.reads n ≡ true → n < 2 * t.links
  reads_within n h = elim (cases_lt n (2 * t.links)) [
    | inl l ↦ l
    | inr past ↦ absurd (both_ways (t.reads n) (t.reads_end n past) h)
  ]

  writes_within : (n : ℕ) → t.writes n ≡ true → n < 2 * t.links
  writes_within n h = elim (cases_lt n (2 * t.links)) [
    | inl l ↦ l
    | inr past ↦ absurd (both_ways (t.writes n) (t.writes_end n past) h)
  ]

  abbrev marks : Turn → List Want
  marks turn = filter is_marked (map (marked_in_turn ends turn) (named t))

  both : (a b : Bool) → a ≡ true → b ≡ true → (a && b) ≡ true
  both a b p q = (λ i. p i && q i)

  read-listed : (turn : Turn) (n : ℕ) → t.reads n ≡ true → is_read_now ends turn n ≡ true → 0 < length (marks turn)
  read-listed turn n wanted may =
      listed (marked_in_turn ends turn) (named t) (any-at (λ w. is_marked (marked_in_turn ends turn w)) t.reads t.writes n (2 * t.links)
      (reads_within n wanted) (or_left (t.reads n) (t.writes n) wanted)
      (mark-row turn n ∙ or_left (t.reads n && is_read_now ends turn n) (t.writes n && writable n)
      (both (t.reads n) (is_read_now ends turn n) wanted may)))

  write-listed : (turn : Turn) (n : ℕ) → t.writes n ≡ true → writable n ≡ true → 0 < length (marks turn)
  write-listed turn n wanted can =
      listed (marked_in_turn ends turn) (named t) (any-at (λ w. is_marked (marked_in_turn ends turn w)) t.reads t.writes n (2 * t.links)
      (writes_within n wanted) (or_right (t.reads n) (t.writes n) wanted)
      (mark-row turn n ∙ or_right (t.reads n && is_read_now ends turn n) (t.writes n && writable n)
      (both (t.writes n) (writable n) wanted can)))

  -- something waits for a peer that drains
  drains-waits : (old : Turn) (who : ℕ) → drains_now t ends old who ≡ true → t.writes (other_end who) ≡ true
  drains-waits old who h =
      let short = came_short (get_or ends (other_end who) None) || (old.peer_drains && (old.who == who)) in
      (and_parts (t.writes (other_end who)) short (and_parts (is_bulky (get_or ends who None)) (t.writes (other_end who) && short) h).1).0

  -- whose turn it is is read, or its peer is written
  turn-listed : (old new : Turn) → new.peer_drains ≡ drains_now t ends old new.who → takes_turns t ends new.who ≡ true
      → 0 < length (marks new)
  turn-listed old new is takes =
      let who = new.who in
      let bulky = is_bulky (get_or ends who None) in
      let parts = and_parts (t.reads who) bulky takes in
      elim (cases_Bool (gives_way new && writable (other_end who))) [
        | inl drains ↦ (let p = and_parts (gives_way new) (writable (other_end who)) drains in
            write-listed new (other_end who) (drains-waits old who (sym is ∙ (and_parts new.peer_drains (nat_lt 0 new.left) p.0).0)) p.1)
        | inr dry ↦ read-listed new who parts.0
            (or_right (is_prompt (get_or ends who None)) ((who == who) && (bulky && not (gives_way new && writable (other_end who))))
            (λ i. eq-eqb who who refl i && (parts.1 i && not (dry i))))
      ]

  one-listed : (old new : Turn) (n : ℕ) (after : WantsValue) → ListedInTurn ends old new t after
      → ((t.reads n && readable n) || (t.writes n && writable n)) ≡ true → 0 < length (marks new)
  one-listed old new n after by h = elim (or_cases (t.reads n && readable n) (t.writes n && writable n) h) [
    | inl reads ↦ (
        let parts = and_parts (t.reads n) (readable n) reads in
        let place = get_or ends n None in
        elim (or_cases (is_prompt place) (is_bulky place) (ready-parts place ∙ parts.1)) [
          | inl prompt ↦ read-listed new n parts.0 (or_left (is_prompt place) _ prompt)
          | inr bulky ↦ turn-listed old new by.drains
              (turn-takes (takes_turns t ends) old new n by.went (both (t.reads n) (is_bulky place) parts.0 bulky))
        ])
    | inr writes ↦ (let p = and_parts (t.writes n) (writable n) writes in write-listed new n p.0 p.1)
  ]

pub some-marked : (ends : List (Option End)) (turn now_turn : Turn) (old new : WantsValue) (answer : Polled)
    → MarkedTable ends turn now_turn old new answer → SomeMarked ends old new answer
some-marked ends turn now_turn old new (polled.Ready accept) h =
    λ some.
    let f = found (wants_ready ends) old.reads old.writes (2 * old.links) some in
    subst (λ ws. 0 < length ws) (sym h.list) (one-listed old ends turn now_turn f.at new h (sym (ready-row old ends f.at) ∙ f.is))
some-marked ends turn now_turn old new polled.Failed h = tt

-- of a poll that was ready
pub ready-marked : (ends : List (Option End)) (turn now_turn : Turn) (old new : WantsValue) (answer : Polled)
    → ListedInTurn ends turn now_turn old new → SomeMarked ends old new answer
ready-marked ends turn now_turn old new (polled.Ready accept) by = some-marked ends turn now_turn old new (polled.Ready accept) by
ready-marked ends turn now_turn old new polled.Failed by = tt
