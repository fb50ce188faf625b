-- What a table shows, by the sets that it keeps.
use Rattle.std.proofs.Common.{◌≡◌, ◌≢◌, ◌∙◌, ℕ, suc, ◌+◌, ◌-◌, ◌*◌, ◌^◌, ◌<◌, ◌≤◌, ◌==◌, length, Bool, true, false, cond, ◌&&◌}
use Rattle.std.proofs.Common.{if◌then◌else◌, Option, Some, None, Result, Ok, Err, refl, sym, ap, subst, arith, inl, inr}
use Rattle.std.specs.Prelude.{is_some, nat_lt, OnErr}
use Rattle.std.specs.List.{list_any}
use Rattle.std.proofs.Math.Path.{fun_ext}
use Rattle.std.proofs.lemmas.Bool.{cases_lt, lt-ltb, ne_eqb, or_from}
use Rattle.ev_types.specs.declared.side.Side.{Side}
use Rattle.ev_types.specs.declared.side.Side.TheVariants.{In, Out}
use Rattle.ev_types.specs.declared.side.SideId.{SideId}
use Rattle.ev_types.specs.Sides.{half, number}
use Rattle.number_set.specs.Next.{in_either, IsNext, IsLeast, IsGreatest}
use Rattle.number_set.specs.Numbers.{NumberSetValue}
use Rattle.ev_port.specs.declared.port.Want.{Want}
use Rattle.ev_port.specs.declared.table.WantTable.TheInside.{Inside}
use Rattle.ev_port.specs.Table.{WantsValue, side_of, row_by, row, wants_some, is_ready_by, rows_before, named, NextWant, PreviousWant}
use Rattle.ev_port.specs.Table.{IsNextWanted, IsPreviousWanted}
use Rattle.ev_port.specs.TableCode.{same_table}
use Rattle.ev_port.specs.TableView.{below, table_of, IsTable}
use Rattle.ev_port.proofs.NamedLemmas.{one_if, named-same, named-skip, length-named_more, length-named_le, length-named_below}
use Rattle.ev_port.proofs.NamedLemmas.{length-named_changed}
use Rattle.ev_port.proofs.MarkLemmas.{either-within, ready-none, ready-some, next-none, next-some, previous-none, previous-some}

-- flags that end there are those below the end
below-same : (end : ℕ) (flags : ℕ → Bool) → ((n : ℕ) → end ≤ n → flags n ≡ false) → below end flags ≡ flags
below-same end flags none = fun_ext (λ n. elim (cases_lt n end) as (λ _. below end flags n ≡ flags n) [
  | inl within ↦ ap (λ b. b && flags n) (lt-ltb n end within)
  | inr past ↦ (let e = none n past in ap (λ b. nat_lt n end && b) e ∙ none_of (nat_lt n end) ∙ sym e)
])
  where
    none_of : (b : Bool) → (b && false) ≡ false
    none_of true = refl
    none_of false = refl

-- two tables that keep the same show the same
pub shown-same : (a b : Inside) → b.links ≡ a.links → ((n : ℕ) → b.read.has n ≡ a.read.has n) → ((n : ℕ) → b.write.has n ≡ a.write.has n)
    → b.list.items ≡ a.list.items → table_of b ≡ table_of a
shown-same a b links read write list =
    let r = fun_ext read in
    let w = fun_ext write in
    same_table (table_of b) (table_of a) links (λ i. below (2 * links i) (r i)) (λ i. below (2 * links i) (w i)) list

pub on_err : {T E P : Type 0} (r : Result T E) → P → OnErr r P
on_err (Ok x) p = tt
on_err (Err e) p = p

row-same : (r w p q : ℕ → Bool) (n : ℕ) → p n ≡ r n → q n ≡ w n → row_by p q n ≡ row_by r w n
row-same r w p q n a b = λ i. record { side = side_of n; read = a i; write = b i; can_read = false; can_write = false }

-- a flag at another number stays
pub flag-other : (n at : ℕ) (x y : Bool) → n ≢ at → (if n == at then x else y) ≡ y
flag-other n at x y h = ap (λ b. if b then x else y) (ne_eqb n at h)

-- one row was changed, and counted anew
pub recounted : (r w p q : ℕ → Bool) (at end count again : ℕ) (did does : Bool) → at < end → count ≡ length (rows_before r w end)
    → ((k : ℕ) → k ≢ at → p k ≡ r k) → ((k : ℕ) → k ≢ at → q k ≡ w k)
    → did ≡ wants_some (row_by r w at) → does ≡ wants_some (row_by p q at) → again + cond did 1 0 ≡ count + cond does 1 0
    → again ≡ length (rows_before p q end)
recounted r w p q at end count again did does l c reads writes was is moved =
    let m = length-named_changed r w p q at end l (λ k h. row-same r w p q k (reads k h) (writes k h)) in
    let a = ap one_if was in
    let b = ap one_if is in
    omega (arith, m, a, b, moved, c)

-- the rows of one link more, whose sides want nothing
pub lengthened : (r w p q : ℕ → Bool) (links : ℕ) → ((n : ℕ) → p n ≡ r n) → ((n : ℕ) → q n ≡ w n)
    → ((n : ℕ) → 2 * links ≤ n → r n ≡ false) → ((n : ℕ) → 2 * links ≤ n → w n ≡ false)
    → rows_before p q (2 * (links + 1)) ≡ rows_before r w (2 * links)
lengthened r w p q links reads writes none_read none_write =
    named-same r w p q (2 * (links + 1)) (λ k l. row-same r w p q k (reads k) (writes k))
    ∙ named-skip r w (2 * links) (2 * (links + 1)) (omega arith) (λ k a b. or_from (r k) (w k) (none_read k a) (none_write k a))

half-le : (s : Side) → half s ≤ 1
half-le In = omega arith
half-le Out = omega arith

pub number-within : (e : SideId) (links : ℕ) → e.link < links → number e < 2 * links
number-within e links l = let h = half-le e.side in omega (arith, l, h)

module _ (a : Inside) (kept : IsTable a) where
  pub reads-shown : (table_of a).reads ≡ a.read.has
  reads-shown = below-same (2 * a.links) a.read.has kept.read_end

  pub writes-shown : (table_of a).writes ≡ a.write.has
  writes-shown = below-same (2 * a.links) a.write.has kept.write_end

  named-inside : named (table_of a) ≡ rows_before a.read.has a.write.has (2 * a.links)
  named-inside = let r = reads-shown in let w = writes-shown in λ i. rows_before (r i) (w i) (2 * a.links)

  pub named-shown : (t : WantsValue) → table_of a ≡ t → named t ≡ rows_before a.read.has a.write.has (2 * a.links)
  named-shown t e = ap named (sym e) ∙ named-inside

  abbrev pub kept_wants : ℕ → Bool
  kept_wants = in_either a.read.has a.read.has a.write.has a.write.has

  shown_wants : in_either (table_of a).reads (table_of a).reads (table_of a).writes (table_of a).writes ≡ kept_wants
  shown_wants = let r = reads-shown in let w = writes-shown in λ i. in_either (r i) (r i) (w i) (w i)

  shown_row : (n : ℕ) → row (table_of a) n ≡ row_by a.read.has a.write.has n
  shown_row n = let r = reads-shown in let w = writes-shown in λ i. row_by (r i) (w i) n

  pub kept-within : (x y : NumberSetValue) (n : ℕ) → in_either a.read.has x.has a.write.has y.has n ≡ true → n < 2 * a.links
  kept-within x y n h = either-within a.read.has x.has a.write.has y.has (2 * a.links) n (kept.read_end n) (kept.write_end n) h

  pub next-none_shown : (t : WantsValue) → table_of a ≡ t → (from : ℕ) → ((k : ℕ) → from ≤ k → kept_wants k ≡ false)
      → IsNextWanted t from None
  next-none_shown t e from h =
      subst (λ u. IsNextWanted u from None) e (next-none (table_of a) from (λ k l. ap (λ (p : ℕ → Bool). p k) shown_wants ∙ h k l))

  pub next-some_shown : (t : WantsValue) → table_of a ≡ t → (from n : ℕ) → IsLeast kept_wants from n → (w : Want)
      → w ≡ row_by a.read.has a.write.has n
      → NextWant t from w
  next-some_shown t e from n h w is =
      subst (λ u. NextWant u from w) e (subst (λ x. NextWant (table_of a) from x) (shown_row n ∙ sym is)
      (next-some (table_of a) from n (subst (λ p. IsLeast p from n) (sym shown_wants) h)))

  pub previous-none_shown : (t : WantsValue) → table_of a ≡ t → (before : ℕ) → ((k : ℕ) → k < before → kept_wants k ≡ false)
      → IsPreviousWanted t before None
  previous-none_shown t e before h =
      subst (λ u. IsPreviousWanted u before None) e
      (previous-none (table_of a) before (λ k l. ap (λ (p : ℕ → Bool). p k) shown_wants ∙ h k l))

  pub previous-some_shown : (t : WantsValue) → table_of a ≡ t → (before n : ℕ) → IsGreatest kept_wants before n → (w : Want)
      → w ≡ row_by a.read.has a.write.has n → PreviousWant t before w
  previous-some_shown t e before n h w is =
      subst (λ u. PreviousWant u before w) e (subst (λ x. PreviousWant (table_of a) before x) (shown_row n ∙ sym is)
      (previous-some (table_of a) before n (subst (λ p. IsGreatest p before n) (sym shown_wants) h)))

  ready-inside : (x y : NumberSetValue) (o : Option ℕ) → IsNext (in_either a.read.has x.has a.write.has y.has) 0 o
      → is_some o ≡ list_any (is_ready_by x y) (rows_before a.read.has a.write.has (2 * a.links))
  ready-inside x y None h = sym (ready-none a.read.has a.write.has x y (2 * a.links) h)
  ready-inside x y (Some n) h = sym (ready-some a.read.has a.write.has x y 0 n (2 * a.links) (kept-within x y n h.passes) h)

  pub ready-shown : (t : WantsValue) → table_of a ≡ t → (x y : NumberSetValue) (o : Option ℕ)
      → IsNext (in_either a.read.has x.has a.write.has y.has) 0 o → is_some o ≡ list_any (is_ready_by x y) (named t)
  ready-shown t e x y o h = ready-inside x y o h ∙ ap (list_any (is_ready_by x y)) (sym (named-shown t e))

  -- who wants something is counted
  pub counted-some : (n : ℕ) → n < 2 * a.links → wants_some (row_by a.read.has a.write.has n) ≡ true → 0 < a.count
  counted-some n l h =
      let r = a.read.has in
      let w = a.write.has in
      let m = length-named_more r w n in
      let o = ap one_if h in
      let s = length-named_le r w (suc n) (2 * a.links - suc n) in
      let e : suc n + (2 * a.links - suc n) ≡ 2 * a.links = omega (arith, l) in
      let f = ap (λ k. length (rows_before r w k)) e in
      let c = kept.counted in
      omega (arith, m, o, s, f, c)

  pub counted-few : a.count < 2 ^ 63
  counted-few =
      let c = kept.counted in
      let b = length-named_below a.read.has a.write.has (2 * a.links) in
      let f = kept.few in
      omega (arith, c, b, f)
