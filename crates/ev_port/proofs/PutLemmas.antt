-- The wants of a table put one by one, and where the wants that a poll lists come from.
use Rattle.std.proofs.Common.{◌≡◌, ◌∙◌, ℕ, zero, suc, ◌+◌, ◌-◌, ◌*◌, ◌/◌, ◌<◌, ◌≤◌, Bool, true, false, cond, List, [], ◌∷◌, ◌++◌, length}
use Rattle.std.proofs.Common.{Option, Some, None, refl, sym, ap, subst, arith, append_assoc, length-append}
use Rattle.std.specs.Prelude.{filter, slice_index_or}
use Rattle.std.specs.List.{All}
use Rattle.std.proofs.lemmas.List.Elements.{All-append, All-cons, All-filter, All-nil}
use Rattle.ev_types.specs.declared.entry.Entry.TheVariants as entry
use Rattle.ev_types.specs.declared.side.SideId.{SideId}
use Rattle.ev_types.specs.Growth.{Grew}
use Rattle.ev_types.specs.Sides.{number}
use Rattle.ev_types.specs.Told.{EndTold}
use Rattle.ev_types.specs.Trace.{Trace}
use Rattle.ev_port.specs.declared.port.Polled.{Polled}
use Rattle.ev_port.specs.declared.port.Want.{Want}
use Rattle.ev_port.specs.Polling.{want_events}
use Rattle.ev_port.specs.Table.{WantsValue, row, wants_some, is_marked, named_before, named, NextWant, TablePolled}
use Rattle.ev_port.proofs.NamedLemmas.{length-named_le}

-- a list that is told grew twice
pub grew_twice : (a b c : Option Trace) (xs ys : Trace) → Grew a b xs → Grew b c ys → Grew a c (xs ++ ys)
grew_twice None b c xs ys p q = tt
grew_twice (Some u) None c xs ys p q = absurd (cc)
grew_twice (Some u) (Some v) c xs ys p q = q ∙ ap Some (ap (λ z. z ++ ys) (some p) ∙ append_assoc u xs ys)
  where
    some : {x y : Trace} → ◌≡◌ {A = Option Trace} (Some x) (Some y) → x ≡ y
    some h = cc

events_push : (ws : List Want) (w : Want) → want_events (ws ++ w ∷ []) ≡ want_events ws ++ (entry.Want w.side w.read w.write, []) ∷ []
events_push [] w = refl
events_push (x ∷ ws) w = ap (λ t. (entry.Want x.side x.read x.write, []) ∷ t) (events_push ws w)

module _ (t : WantsValue) (from : ℕ) (w : Want) (next : NextWant t from w) where
  named-next : (n : ℕ) → n ≡ number w.side → named_before t (n + 1) ≡ named_before t from ++ w ∷ []
  named-next n e = ap (λ m. named_before t (m + 1)) e ∙ next.named

  pub events-next : (n : ℕ) → n ≡ number w.side
      → want_events (named_before t (n + 1)) ≡ want_events (named_before t from) ++ (entry.Want w.side w.read w.write, []) ∷ []
  events-next n e = ap want_events (named-next n e) ∙ events_push (named_before t from) w

  pub length-next : (n : ℕ) → n ≡ number w.side → length (named_before t (n + 1)) ≡ length (named_before t from) + 1
  length-next n e = ap length (named-next n e) ∙ length-append (named_before t from) (w ∷ [])

  pub length-next_within : length (named_before t from) + 1 ≤ length (named t)
  length-next_within =
      let n = number w.side in
      let l = length-next n refl in
      let m = length-named_le t.reads t.writes (n + 1) (2 * t.links - (n + 1)) in
      let w = next.within in
      let e : (n + 1) + (2 * t.links - (n + 1)) ≡ 2 * t.links = omega (arith, w) in
      let f = ap (λ k. length (named_before t k)) e in
      omega (arith, l, m, f)

-- the side belongs to a link that has rows
abbrev IsOpened : WantsValue → Want → Type 0
IsOpened t w = w.side.link < t.links

one-opened : (t : WantsValue) (x : Want) (b : Bool) → IsOpened t x → All (IsOpened t) (cond b (x ∷ []) [])
one-opened t x true h = All-cons (IsOpened t) x [] h (All-nil (IsOpened t))
one-opened t x false h = All-nil (IsOpened t)

named-opened : (t : WantsValue) (n : ℕ) → n ≤ 2 * t.links → All (IsOpened t) (named_before t n)
named-opened t zero l = All-nil (IsOpened t)
named-opened t (suc n) l =
    let below : n / 2 < t.links = omega (arith, l) in
    All-append (IsOpened t) (named_before t n) (filter wants_some (row t n ∷ [])) (named-opened t n (omega (arith, l)))
    (one-opened t (row t n) (wants_some (row t n)) below)

-- what a poll lists belongs to links that have rows
pub listed-opened : {Plan : Type 0} {old new : WantsValue} {timeout : Option ℕ} {result : Polled} {told told' : SideId → EndTold}
    {vouches vouches' : Plan → Trace → Type 0} → TablePolled old new timeout result told told' vouches vouches'
    → (i : ℕ) (d : Want) → i < length new.list → (slice_index_or new.list i d).side.link < old.links
listed-opened {Plan} {old} {new} {timeout} {result} {told} {told'} {vouches} {vouches'} p =
    let marked : All (IsOpened old) p.marked =
    λ i d l.
    let within : i < length (named old) = let m = p.many in omega (arith, l, m) in
    subst (λ (e : SideId). e.link < old.links) (sym (p.marks i d within).side)
    (named-opened old (2 * old.links) (omega arith) i d within) in
    subst (All (IsOpened old)) (sym p.list) (All-filter is_marked (IsOpened old) p.marked marked)
