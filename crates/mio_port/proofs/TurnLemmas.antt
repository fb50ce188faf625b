-- Whose turn it is: that it takes turns, and that everybody is read in time.
use Rattle.std.proofs.Common.{◌≡◌, ◌⊎◌, ◌∙◌, ℕ, zero, suc, ◌+◌, ◌-◌, ◌*◌, ◌<◌, ◌≤◌, ◌==◌, nat_lt, Bool, true, false, ◌&&◌, not, sym, ap}
use Rattle.std.proofs.Common.{refl, subst, arith, inl, inr, List, Option, None, get_or, eq-eqb}
use Rattle.std.proofs.lemmas.Bool.{and_parts, cases_Bool, cases_eq, cases_lt, both_ways, le-ltb, lt-ltb, ltb-true, or_right}
use Rattle.number_set.specs.Next.{IsLeast}
use Rattle.mio_port.specs.declared.turn.Turn.{Turn}
use Rattle.ev_port.specs.Table.{WantsValue}
use Rattle.mio_port.specs.declared.end.End.{End}
use Rattle.mio_port.specs.EndPlaces.{is_bulky, is_prompt, is_write_ready}
use Rattle.mio_port.specs.ReadTurns.{EachIsReadInTime, PassedOver, TurnBy, TurnWent, gives_way, is_read_now, other_end, takes_turns}

-- Whoever has the turn takes turns, where somebody does
pub turn-takes : (takes : ℕ → Bool) (old new : Turn) (n : ℕ) → TurnWent takes old new → takes n ≡ true → takes new.who ≡ true
turn-takes takes old new n went some = elim (cases_Bool (nat_lt 0 old.left && takes old.who)) [
  | inl is ↦ ap takes (subst (λ b. TurnBy b takes old new) is went).0
      ∙ (and_parts (nat_lt 0 old.left) (takes old.who) is).1
  | inr is ↦ elim (subst (λ b. TurnBy b takes old new) is went) [
    | inl on ↦ elim on.0 [ inl least ↦ least.passes | inr round ↦ round.1.passes ]
    | inr rests ↦ absurd (both_ways (takes n) (rests.0 n) some)
  ]
]

-- what is said of the peer is no part of whose turn it is
pub went-peer : (takes : ℕ → Bool) (old new : Turn) (drains : Bool) → TurnWent takes old new
    → TurnWent takes old (record new { peer_drains = drains })
went-peer takes old new drains went = alike (nat_lt 0 old.left && takes old.who) went
  where
    alike : (b : Bool) → TurnBy b takes old new → TurnBy b takes old (record new { peer_drains = drains })
    alike true h = h
    alike false h = h

-- Everybody is read

-- from whose turn it is an end stands so many numbers behind in the round; that and the polls so far come to no more than this
record Waits (sides end polls most : ℕ) (t : Turn) : Type 0 where
  dist : ℕ
  at : (t.who + dist ≡ end) ⊎ (t.who + dist ≡ end + sides)
  some : 1 ≤ dist
  first : t.who < sides
  within : 64 * dist + t.left + polls ≤ most

waits-first : (sides end : ℕ) (t : Turn) → end < sides → t.who < sides → t.left < 64 → Waits sides end 0 (64 * sides + 63) t
waits-first sides end t few first short = elim (cases_lt t.who end) [
  | inl below ↦ record {
    dist = end - t.who;
    at = inl (omega (arith, below));
    some = omega (arith, below);
    first = first;
    within = omega (arith, few, short);
  }
  | inr past ↦ record {
    dist = end + sides - t.who;
    at = inr (omega (arith, first));
    some = omega (arith, first);
    first = first;
    within = omega (arith, past, first, short);
  }
]

-- the turn is its own, and not at its last poll; the polls that are left and those so far come to no more than this
record Has (end polls most : ℕ) (t : Turn) : Type 0 where
  mine : t.who ≡ end
  more : 0 < t.left
  within : t.left + polls ≤ most

abbrev Goes : ℕ → ℕ → ℕ → ℕ → Turn → Type 0
Goes sides end polls most t = Waits sides end polls most t ⊎ Has end polls most t

-- one poll more of its turn
has-more : (takes : ℕ → Bool) (old new : Turn) (end polls most : ℕ) → takes end ≡ true → (new.who ≡ end → 0 < new.left)
    → TurnWent takes old new → Has end polls most old → Has end (polls + 1) most new
has-more takes old new end polls most waits passed went was =
    let is : (nat_lt 0 old.left && takes old.who) ≡ true =
    λ i. lt-ltb 0 old.left was.more i && (ap takes was.mine ∙ waits) i in
    let by : TurnBy true takes old new = subst (λ b. TurnBy b takes old new) is went in
    let mine = by.0 ∙ was.mine in
    let more = was.more in
    let within = was.within in
    let left = by.1 in
    record { mine = mine; more = passed mine; within = omega (arith, within, left, more) }

-- one poll more before its turn, at which it isn't read
module _ (takes : ℕ → Bool) (old new : Turn) (sides end polls most : ℕ) (waits : takes end ≡ true)
    (passed : new.who ≡ end → 0 < new.left) (few : (n : ℕ) → takes n ≡ true → n < sides) (was : Waits sides end polls most old) where
  -- the turn came to it
  its-own : new.who ≡ end → new.left ≡ 63 → Has end (polls + 1) most new
  its-own same left =
      let within = was.within in
      let some = was.some in
      record { mine = same; more = passed same; within = omega (arith, within, some, left) }

  -- the turn went on to a number behind, which the end is behind too
  gone-on : IsLeast takes (old.who + 1) new.who → new.left ≡ 63 → Goes sides end (polls + 1) most new
  gone-on least left =
      let reached = least.reached in
      let within = was.within in
      let inside = few new.who least.passes in
      elim was.at [
        | inl here ↦ (
            let some = was.some in
            let before : new.who ≤ end = elim (cases_lt end new.who) [
              | inl over ↦ absurd (both_ways (takes end) (least.none_before end (omega (arith, here, some)) over) waits)
              | inr within ↦ within
            ] in
            elim (cases_eq new.who end) [
              | inl same ↦ inr (its-own same left)
              | inr differ ↦ inl (record {
                dist = end - new.who;
                at = inl (omega (arith, before));
                some = omega (arith, before, differ);
                first = inside;
                within = omega (arith, here, reached, before, left, within);
              })
            ])
        | inr here ↦ inl (record {
          dist = end + sides - new.who;
          at = inr (omega (arith, inside));
          some = omega (arith, inside);
          first = inside;
          within = omega (arith, here, reached, inside, left, within);
        })
      ]

  -- the turn went to the first of all, as no number behind takes turns
  gone-round : ((k : ℕ) → old.who < k → takes k ≡ false) → IsLeast takes 0 new.who → new.left ≡ 63 → Goes sides end (polls + 1) most new
  gone-round none least left =
      let within = was.within in
      let first = was.first in
      let some = was.some in
      let inside = few new.who least.passes in
      let past : end ≤ old.who = elim (cases_lt old.who end) [
        | inl over ↦ absurd (both_ways (takes end) (none end over) waits)
        | inr within ↦ within
      ] in
      let before : new.who ≤ end = elim (cases_lt end new.who) [
        | inl over ↦ absurd (both_ways (takes end) (least.none_before end (omega arith) over) waits)
        | inr within ↦ within
      ] in
      elim was.at [
        | inl here ↦ absurd (omega (arith, here, past, some))
        | inr here ↦ elim (cases_eq new.who end) [
          | inl same ↦ inr (its-own same left)
          | inr differ ↦ inl (record {
            dist = end - new.who;
            at = inl (omega (arith, before));
            some = omega (arith, before, differ);
            first = inside;
            within = omega (arith, here, before, first, left, within);
          })
        ]
      ]

  stayed : 0 < old.left → new.who ≡ old.who → new.left ≡ old.left - 1 → Waits sides end (polls + 1) most new
  stayed some who left =
      let within = was.within in
      let first = was.first in
      record {
        dist = was.dist;
        at = elim was.at [ inl here ↦ inl (omega (arith, here, who)) | inr here ↦ inr (omega (arith, here, who)) ];
        some = was.some;
        first = omega (arith, first, who);
        within = omega (arith, within, left, some);
      }

  waits-more : TurnWent takes old new → Goes sides end (polls + 1) most new
  waits-more went = elim (cases_Bool (nat_lt 0 old.left && takes old.who)) [
    | inl is ↦ inl (stayed (ltb-true 0 old.left (and_parts (nat_lt 0 old.left) (takes old.who) is).0)
        (subst (λ b. TurnBy b takes old new) is went).0 (subst (λ b. TurnBy b takes old new) is went).1)
    | inr is ↦ elim (subst (λ b. TurnBy b takes old new) is went) [
      | inl on ↦ elim on.0 [
        | inl least ↦ gone-on least on.1
        | inr round ↦ gone-round round.0 round.1 on.1
      ]
      | inr rests ↦ absurd (both_ways (takes end) (rests.0 end) waits)
    ]
  ]

-- An end that isn't read in its own turn gives way, so that the turn isn't at its last poll

gives_no_way : (a b w : Bool) → b ≡ false → not ((a && b) && w) ≡ true
gives_no_way a b w h = ap (λ c. not ((a && c) && w)) h ∙ none a w
  where
    none : (c d : Bool) → not ((c && false) && d) ≡ true
    none true d = refl
    none false d = refl

left-some : (ends : List (Option End)) (t : Turn) (end : ℕ) → is_bulky (get_or ends end None) ≡ true → is_read_now ends t end ≡ false
    → t.who ≡ end → 0 < t.left
left-some ends t end bulky passed mine = elim (cases_lt 0 t.left) [
  | inl some ↦ some
  | inr none ↦ (
      let can = is_write_ready (get_or ends (other_end end) None) in
      let way : not (gives_way t && can) ≡ true = gives_no_way t.peer_drains (nat_lt 0 t.left) can (le-ltb 0 t.left none) in
      let read : is_read_now ends t end ≡ true =
      or_right (is_prompt (get_or ends end None)) ((end == t.who) && (is_bulky (get_or ends end None) && not (gives_way t && can)))
      (λ i. eq-eqb end t.who (sym mine) i && (bulky i && way i)) in
      absurd (both_ways (is_read_now ends t end) passed read))
]

goes-all : (tables : ℕ → WantsValue) (ends : ℕ → List (Option End)) (turns : ℕ → Turn) (sides end polls k : ℕ)
    → PassedOver tables ends turns sides end polls → k ≤ polls → 0 < polls → Goes sides end k (64 * sides + 63) (turns k)
goes-all tables ends turns sides end polls zero h l some =
    inl (waits-first sides end (turns 0) (h.few 0 end some (h.waits 0 some)) h.first h.short)
goes-all tables ends turns sides end polls (suc k) h l some =
    subst (λ n. Goes sides end n (64 * sides + 63) (turns n)) (sym next)
    (elim (goes-all tables ends turns sides end polls k h (omega (arith, l)) some) [
      | inl waits ↦ waits-more (takes_turns (tables k) (ends k)) (turns k) (turns (k + 1)) sides end k (64 * sides + 63)
          (h.waits k below) left (λ n t. h.few k n below t) waits (h.went k below)
      | inr has ↦ inr (has-more (takes_turns (tables k) (ends k)) (turns k) (turns (k + 1)) end k (64 * sides + 63) (h.waits k below) left
          (h.went k below) has)
    ])
  where
    below : k < polls
    below = omega (arith, l)

    next : suc k ≡ k + 1
    next = omega arith

    left : (turns (k + 1)).who ≡ end → 0 < (turns (k + 1)).left
    left = left-some (ends k) (turns (k + 1)) end
        (and_parts ((tables k).reads end) (is_bulky (get_or (ends k) end None)) (h.waits k below)).1 (h.passed k below)

pub each_is_read_in_time : EachIsReadInTime
each_is_read_in_time tables ends turns sides end polls h = elim (cases_lt 0 polls) [
  | inl some ↦ elim (goes-all tables ends turns sides end polls polls h (omega arith) some) [
    | inl waits ↦ (let within = waits.within in let least = waits.some in omega (arith, within, least))
    | inr has ↦ (let within = has.within in omega (arith, within))
  ]
  | inr none ↦ omega (arith, none)
]
