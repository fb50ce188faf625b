-- A table that says of each side what it wants names exactly the wanted sides.
use Rattle.std.proofs.Common.{◌≡◌, ◌≢◌, ℕ, zero, suc, ◌+◌, ◌*◌, ◌<◌, ◌≤◌, ◌==◌, if◌then◌else◌, false, [], ◌∷◌, ◌++◌, filter, refl}
use Rattle.std.proofs.Common.{sym, ◌∙◌, ap}
use Rattle.std.proofs.Common.{subst, arith}
use Rattle.token_bucket.specs.declared.limit.Dir.TheVariants as dir
use Rattle.ev_types.specs.declared.side.SideId.{SideId}
use Rattle.ev_types.specs.Sides.{number}
use Rattle.ev_port.specs.declared.port.Want.{Want}
use Rattle.ev_port.specs.Table.{WantsValue, named_before, named}
use Rattle.ev_port.proofs.NamedLemmas.{named-link}
use Rattle.relay_state.specs.State.{State}
use Rattle.relay_state.specs.Closing.{in_side, out_side}
use Rattle.relay_drive.specs.Links.{WantsAsSeen}
use Rattle.relay_drive.specs.declared.naming.Naming.{Naming}
use Rattle.relay_drive.specs.Phases.{want_of, wants_some, wants_of_link, wants_of_links, wanted, links_from}
use Rattle.number_set.specs.Numbers.{NumberSetValue}
use Rattle.relay_drive.specs.Agenda.{HoldsBeside, LinkCountsAreFew, SaysOf, WouldSayOf, IsNamedRight}
use Rattle.relay_drive.specs.Naming.{NamedLink, OldRowsStay}
use Rattle.relay_drive.proofs.AgendaLemmas.{by_same, up-all}
use Rattle.relay_drive.proofs.EachLemmas.{links_from-push}
use Rattle.relay_drive.proofs.PollLemmas.{wants_of_links-push}

-- a want by the number of its side
abbrev said : WantsValue → SideId → ℕ → Want
said t e n = record { side = e; read = t.reads n; write = t.writes n; can_read = false; can_write = false }

said-is : (t : WantsValue) (s : State) (e : SideId) (n : ℕ) → n ≡ number e → SaysOf t s e → said t e n ≡ want_of s e
said-is t s e n same h =
    ap (said t e) same ∙ (λ i. record { side = e; read = h.0 i; write = h.1 i; can_read = false; can_write = false })

link-named : (t : WantsValue) (s : State) (k : ℕ) → SaysOf t s (in_side k) → SaysOf t s (out_side k) →
    filter wants_some (said t (in_side k) (2 * k) ∷ []) ++ filter wants_some (said t (out_side k) (2 * k + 1) ∷ []) ≡ wants_of_link s k
link-named t s k near far = λ i.
    filter wants_some (said-is t s (in_side k) (2 * k) (omega arith) near i ∷ [])
    ++ filter wants_some (said-is t s (out_side k) (2 * k + 1) (omega arith) far i ∷ [])

-- what the table says of all sides of the first links
links-named : (t : WantsValue) (s : State) (n : ℕ) → ((k : ℕ) → k < n → SaysOf t s (in_side k) × SaysOf t s (out_side k)) →
    named_before t (2 * n) ≡ wants_of_links s (links_from 0 n)
links-named t s zero h = refl
links-named t s (suc n) h =
    let one : suc n ≡ n + 1 = omega arith in
    let here = h n (omega arith) in
    ap (λ m. named_before t (2 * m)) one ∙ named-link t n
    ∙ ap (λ xs. xs ++ (filter wants_some (said t (in_side n) (2 * n) ∷ []) ++ filter wants_some (said t (out_side n) (2 * n + 1) ∷ [])))
    (links-named t s n (λ k lt. h k (omega (arith, lt))))
    ∙ ap (λ xs. wants_of_links s (links_from 0 n) ++ xs) (link-named t s n here.0 here.1)
    ∙ sym (wants_of_links-push s (links_from 0 n) n) ∙ ap (wants_of_links s) (sym (links_from-push n) ∙ ap (links_from 0) (sym one))

pub named-wanted : (t : WantsValue) (s : State) → t.links ≡ s.plain.opened →
    ((k : ℕ) → k < s.plain.opened → SaysOf t s (in_side k) × SaysOf t s (out_side k)) → named t ≡ wanted s
named-wanted t s e h = ap (λ n. named_before t (2 * n)) e ∙ links-named t s s.plain.opened h

-- a side that is not of this link is said what it was said
others-say : (t new : WantsValue) (s : State) (k : ℕ) (e : SideId) → NamedLink s k t new → e.link ≢ k → SaysOf t s e → SaysOf new s e
others-say t new s k e n other h = let o = n.others e other in (o.0 ∙ h.0, o.1 ∙ h.1)

others-would : (t : Naming) (new : WantsValue) (s : State) (k : ℕ) (e : SideId) → NamedLink s k t.table new → e.link ≢ k →
    WouldSayOf t s e → WouldSayOf (record t { table = new }) s e
others-would t new s k e n other h = let o = n.others e other in (o.0 ∙ h.0, o.1 ∙ h.1)

-- what is said of a link is what its sides want, if groups are suspended as was noted
pub says-of : (t : Naming) (s : State) (k : ℕ) → WantsAsSeen t.seen.items s → IsNamedRight t s k →
    SaysOf t.table s (in_side k) × SaysOf t.table s (out_side k)
says-of t s k seen h = (of (in_side k) h.1, of (out_side k) h.2)
  where
    of : (e : SideId) → WouldSayOf t s e → SaysOf t.table s e
    of e x = (x.0 ∙ sym (seen e dir.Read), x.1 ∙ sym (seen e dir.Write))

-- One link more was named, which is out of the set then.
pub named-next : (t : Naming) (new : WantsValue) (set left : NumberSetValue) (s : State) (k : ℕ) → WantsAsSeen t.seen.items s →
    k < t.table.links → NamedLink s k t.table new → ((n : ℕ) → left.has n ≡ (if n == k then false else set.has n)) → LinkCountsAreFew s k →
    HoldsBeside set (IsNamedRight t) s → HoldsBeside left (IsNamedRight (record t { table = new })) s
named-next t new set left s k seen within n has near h = λ j lt out.
    by_same j k
    (λ e test.
    let would : (e : SideId) → SaysOf new s e → WouldSayOf (record t { table = new }) s e =
    λ e x. (x.0 ∙ seen e dir.Read, x.1 ∙ seen e dir.Write) in
    let own : IsNamedRight (record t { table = new }) s k = (
      subst (λ m. k < m) (sym n.links) within,
      would (in_side k) n.near,
      would (out_side k) n.far,
      near,
    ) in
    subst (IsNamedRight (record t { table = new }) s) (sym e) own)
    (λ e test.
    let before = h j lt (sym (has j ∙ ap (λ z. if z then false else set.has j) test) ∙ out) in
    let other : IsNamedRight (record t { table = new }) s j = (
      subst (λ m. j < m) (sym n.links) before.0,
      others-would t new s k (in_side j) n e before.1,
      others-would t new s k (out_side j) n e before.2,
      before.3,
    ) in
    other)

-- and the table says what the sides want of all links up to it
pub said-next : (t new : WantsValue) (s : State) (from k : ℕ) → NamedLink s k t new →
    ((j : ℕ) → j < from → SaysOf t s (in_side j) × SaysOf t s (out_side j)) →
    ((j : ℕ) → from ≤ j → j < k → SaysOf t s (in_side j) × SaysOf t s (out_side j)) →
    (j : ℕ) → j < k + 1 → SaysOf new s (in_side j) × SaysOf new s (out_side j)
said-next t new s from k n before between j lt =
    by_same j k
    (λ e test. subst (λ i. SaysOf new s (in_side i) × SaysOf new s (out_side i)) (sym e) (n.near, n.far))
    (λ e test.
    let was = up-all (λ i. SaysOf t s (in_side i) × SaysOf t s (out_side i)) from k before between j (omega (arith, lt, e)) in
    (others-say t new s k (in_side j) n e was.0, others-say t new s k (out_side j) n e was.1))

-- more rows stand behind the old ones
pub named-lengthened : (t : Naming) (new : WantsValue) (set : NumberSetValue) (s : State) → OldRowsStay t.table new →
    HoldsBeside set (IsNamedRight t) s → HoldsBeside set (IsNamedRight (record t { table = new })) s
named-lengthened t new set s r h = λ k lt out.
    let before = h k lt out in
    let near = r.rows (number (in_side k)) (omega (arith, before.0)) in
    let far = r.rows (number (out_side k)) (omega (arith, before.0)) in
    let right : IsNamedRight (record t { table = new }) s k = (
      omega (arith, before.0, r.links),
      (near.0 ∙ before.1.0, near.1 ∙ before.1.1),
      (far.0 ∙ before.2.0, far.1 ∙ before.2.1),
      before.3,
    ) in
    right
