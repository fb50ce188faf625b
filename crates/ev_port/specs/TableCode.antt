-- That values of tables can be told apart: two are equal where their rows and lists are, and lists of answers give one back.
use Rattle.std.specs.Prelude.{◌≡◌, ℕ, ◌*◌, ◌≤◌, Bool, false, ◌&&◌, List, map, nat_lt, if◌then◌else◌, refl}
use Rattle.std.specs.List.{range_with_len, slice_index_or}
use Rattle.std.specs.Coded.{Coded, code_by, coded_ℕ, coded_bool, coded_list, coded×}
use Rattle.std.proofs.Common.{inl, inr, ◌∙◌, sym, ap, subst, zero-add}
use Rattle.std.proofs.Math.Path.{fun_ext}
use Rattle.std.proofs.Math.Bool.{Bool-set}
use Rattle.std.proofs.lemmas.Bool.{and_left, cases_lt, le-ltb, lt-ltb}
use Rattle.std.proofs.lemmas.List.FromFn.{get_or-map-range_with_len}
use Rattle.ev_types.specs.declared.side.Side.{Side}
use Rattle.ev_types.specs.declared.side.Side.TheVariants.{In, Out}
use Rattle.ev_types.specs.Sides.{same_side}
use Rattle.ev_port.specs.declared.port.Want.{Want}
use Rattle.ev_port.specs.Table.{WantsValue}

-- nothing is flagged from a number on
abbrev NoneFrom : ℕ → (ℕ → Bool) → Type 0
NoneFrom end flags = (n : ℕ) → end ≤ n → flags n ≡ false

-- that this holds is a fact with one proof at most
NoneFrom_prop : (end : ℕ) (flags : ℕ → Bool) → (p q : NoneFrom end flags) → p ≡ q
NoneFrom_prop end flags p q = fun_ext (λ n. fun_ext (λ past. Bool-set _ _ (p n past) (q n past)))

-- two tables with the same rows and the same list are equal
pub same_table : (s t : WantsValue) → s.links ≡ t.links → s.reads ≡ t.reads → s.writes ≡ t.writes → s.list ≡ t.list → s ≡ t
same_table s t links reads writes list =
    let Same : ℕ → (ℕ → Bool) → (ℕ → Bool) → List Want → Type 0 =
    λ l r w ws. (a : NoneFrom (2 * l) r) (b : NoneFrom (2 * l) w) →
    s ≡ record { links = l; reads = r; writes = w; list = ws; reads_end = a; writes_end = b } in
    let here : Same s.links s.reads s.writes s.list =
    λ a b.
    let x = NoneFrom_prop (2 * s.links) s.reads s.reads_end a in
    let y = NoneFrom_prop (2 * s.links) s.writes s.writes_end b in
    λ i. record { links = s.links; reads = s.reads; writes = s.writes; list = s.list; reads_end = x i; writes_end = y i } in
    let one = subst (λ l. Same l s.reads s.writes s.list) links here in
    let two = subst (λ r. Same t.links r s.writes s.list) reads one in
    let three = subst (λ w. Same t.links t.reads w s.list) writes two in
    subst (λ ws. Same t.links t.reads t.writes ws) list three t.reads_end t.writes_end

-- for each number below the end, whether it is flagged
abbrev answers : ℕ → (ℕ → Bool) → List Bool
answers end flags = map flags (range_with_len 0 end)

-- the flags of which that is told
abbrev told : ℕ → List Bool → ℕ → Bool
told end bs n = nat_lt n end && slice_index_or bs n false

pub told_past : (end : ℕ) (bs : List Bool) → NoneFrom end (told end bs)
told_past end bs n past = and_left _ _ (le-ltb n end past)

told-answers : (end : ℕ) (flags : ℕ → Bool) → NoneFrom end flags → told end (answers end flags) ≡ flags
told-answers end flags none = fun_ext (λ n. elim (cases_lt n end) as (λ _. told end (answers end flags) n ≡ flags n) [
  | inl within ↦ ap (λ b. b && slice_index_or (answers end flags) n false) (lt-ltb n end within)
      ∙ get_or-map-range_with_len flags 0 end n n false within (zero-add n)
  | inr past ↦ told_past end (answers end flags) n past ∙ sym (none n past)
])

-- the side is In, and the side of which that is told
abbrev side_told : Bool → Side
side_told b = if b then In else Out

side_told-same_side : (s : Side) → side_told (same_side s In) ≡ s
side_told-same_side In = refl
side_told-same_side Out = refl

-- a want as a tuple
abbrev WantParts : Type 0
WantParts = ℕ × (Bool × (Bool × (Bool × (Bool × Bool))))

abbrev parts_of : Want → WantParts
parts_of w = (w.side.link, (same_side w.side.side In, (w.read, (w.write, (w.can_read, w.can_write)))))

abbrev want_of : WantParts → Want
want_of p = record {
  side = record { link = p.0; side = side_told p.1.0 };
  read = p.1.1.0;
  write = p.1.1.1.0;
  can_read = p.1.1.1.1.0;
  can_write = p.1.1.1.1.1;
}

pub want_of-parts_of : (w : Want) → want_of (parts_of w) ≡ w
want_of-parts_of w = ap (λ s. record w { side = record { link = w.side.link; side = s } }) (side_told-same_side w.side.side)

abbrev want_code : Coded Want
want_code = code_by WantParts (coded× coded_ℕ (coded× coded_bool (coded× coded_bool (coded× coded_bool (coded× coded_bool coded_bool)))))
    parts_of want_of want_of-parts_of

-- a table as a tuple
abbrev TableParts : Type 0
TableParts = ℕ × (List Bool × (List Bool × List Want))

abbrev table_parts : WantsValue → TableParts
table_parts t = (t.links, (answers (2 * t.links) t.reads, (answers (2 * t.links) t.writes, t.list)))

abbrev table_of_parts : TableParts → WantsValue
table_of_parts p = record {
  links = p.0;
  reads = told (2 * p.0) p.1.0;
  writes = told (2 * p.0) p.1.1.0;
  list = p.1.1.1;
  reads_end = told_past (2 * p.0) p.1.0;
  writes_end = told_past (2 * p.0) p.1.1.0;
}

pub table_of_parts-table_parts : (t : WantsValue) → table_of_parts (table_parts t) ≡ t
table_of_parts-table_parts t =
    same_table (table_of_parts (table_parts t)) t refl (told-answers (2 * t.links) t.reads t.reads_end)
    (told-answers (2 * t.links) t.writes t.writes_end) refl

-- how a table is stored where values have to be told apart: as the tuple of its links, its answers and its list
abbrev pub table_code : Coded WantsValue
table_code = code_by TableParts (coded× coded_ℕ (coded× (coded_list coded_bool) (coded× (coded_list coded_bool) (coded_list want_code))))
    table_parts table_of_parts table_of_parts-table_parts
