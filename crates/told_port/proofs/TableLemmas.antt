-- What a poll of a table counts at each end can be told from its rows and from the list of those that it marked.
use Rattle.std.proofs.Common.{◌≡◌, ℕ, suc, ◌+◌, ◌*◌, ◌<◌, Bool, true, false, ◌||◌, ◌&&◌, not, if◌then◌else◌, List, [], ◌∷◌, length, Option}
use Rattle.std.proofs.Common.{refl, sym, ◌∙◌, ap, arith, zero-add}
use Rattle.std.specs.Prelude.{count_by, filter, cond}
use Rattle.std.proofs.lemmas.List.Sums.{sum_by-cons}
use Rattle.ev_types.specs.declared.side.SideId.{SideId}
use Rattle.ev_types.specs.Sides.{same_end}
use Rattle.ev_types.specs.Told.{EndTold}
use Rattle.ev_types.specs.Trace.{Trace}
use Rattle.ev_port.specs.declared.port.Polled.{Polled}
use Rattle.ev_port.specs.declared.port.Want.{Want}
use Rattle.ev_port.specs.EndSteps.{EndStep, no_step}
use Rattle.ev_port.specs.Polling.{IsMarked, AllMarked, is_failed_poll, poll_step}
use Rattle.ev_port.specs.Table.{WantsValue, RowsStay, TablePolled, is_marked, named, rows_before}
use Rattle.told_port.specs.Calls.{Heard, ends_by, poll_counts}
use Rattle.told_port.specs.Grown.{grown}
use Rattle.told_port.proofs.GrownLemmas.{all-grown}

abbrev one : Bool → ℕ
one b = cond b 1 0

count-cons : (g : Want → Bool) (w : Want) (ws : List Want) → count_by g (w ∷ ws) ≡ one (g w) + count_by g ws
count-cons g w ws = sum_by-cons (λ x. one (g x)) w ws

-- one more want, which is passed over or not
filtered-more : (p g : Want → Bool) (w : Want) (ws : List Want) → (p w ≡ false → g w ≡ false) → count_by g (filter p ws) ≡ count_by g ws
    → (b : Bool) → p w ≡ b → count_by g (filter p (w ∷ ws)) ≡ count_by g (w ∷ ws)
filtered-more p g w ws none before true is =
    rw is (count-cons g w (filter p ws) ∙ ap (λ n. one (g w) + n) before ∙ sym (count-cons g w ws))
filtered-more p g w ws none before false is =
    rw is (before ∙ sym (zero-add (count_by g ws)) ∙ ap (λ b. one b + count_by g ws) (sym (none is)) ∙ sym (count-cons g w ws))

-- those that are passed over don't count
count-filtered : (p g : Want → Bool) → ((w : Want) → p w ≡ false → g w ≡ false) → (ws : List Want) → count_by g (filter p ws) ≡ count_by g ws
count-filtered p g none [] = refl
count-filtered p g none (w ∷ ws) = filtered-more p g w ws (none w) (count-filtered p g none ws) (p w) refl

-- wants that differ in their marks alone count alike where only the rest is asked
count-marked : (g : Want → Bool) → ((v w : Want) → IsMarked v w → g v ≡ g w) → (old new : List Want) → AllMarked old new
    → length new ≡ length old → count_by g old ≡ count_by g new
count-marked g same [] [] marks many = refl
count-marked g same [] (w ∷ new) marks many = absurd (cc)
count-marked g same (v ∷ old) [] marks many = absurd (cc)
count-marked g same (v ∷ old) (w ∷ new) marks many =
    let first : g v ≡ g w = same v w (marks 0 v (omega arith)) in
    let rest : AllMarked old new = λ k d within. marks (suc k) d (omega (arith, within)) in
    let rest_counts : count_by g old ≡ count_by g new = count-marked g same old new rest (omega (arith, many)) in
    count-cons g v old ∙ (λ i. one (first i) + rest_counts i) ∙ sym (count-cons g w new)

-- the rows stay, and so do the wants
pub named-stay : (old new : WantsValue) → RowsStay old new → named new ≡ named old
named-stay old new rows = λ i. rows_before (rows.reads i) (rows.writes i) (2 * rows.links i)

-- what is told of a poll of a table is what its marks say
pub counts-step : (old new : WantsValue) (marked : List Want) (answer : Polled) (e : SideId) → RowsStay old new → AllMarked (named old) marked
    → length marked ≡ length (named old) → new.list ≡ filter is_marked marked → poll_counts (named new) new.list answer e ≡ poll_step marked answer e
counts-step old new marked answer e rows marks many list =
    let marks_so : Bool = not (is_failed_poll answer) in
    let reads : (w : Want) → Bool = λ w. same_end w.side e && w.read in
    let writes : (w : Want) → Bool = λ w. same_end w.side e && w.write in
    let can_read : (w : Want) → Bool = λ w. marks_so && same_end w.side e && w.can_read in
    let can_write : (w : Want) → Bool = λ w. marks_so && same_end w.side e && w.can_write in
    let r = ap (count_by reads) (named-stay old new rows)
    ∙ count-marked reads (λ v w k. λ i. same_end (sym k.side i) e && sym k.read i) (named old) marked marks many in
    let s = ap (count_by writes) (named-stay old new rows)
    ∙ count-marked writes (λ v w k. λ i. same_end (sym k.side i) e && sym k.write i) (named old) marked marks many in
    let x = ap (count_by can_read) list ∙ count-filtered is_marked can_read (λ w. unread marks_so (same_end w.side e) w.can_read w.can_write) marked in
    let y = ap (count_by can_write) list ∙ count-filtered is_marked can_write (λ w. unwritten marks_so (same_end w.side e) w.can_read w.can_write) marked in
    λ i. record no_step { read_wants = r i; write_wants = s i; read_marks = x i; write_marks = y i }
  where
    and-false : (a b : Bool) → (a && b && false) ≡ false
    and-false true true = refl
    and-false true false = refl
    and-false false b = refl

    unread : (a b r w : Bool) → (r || w) ≡ false → (a && b && r) ≡ false
    unread a b false w h = and-false a b
    unread a b true w h = absurd (cc)

    unwritten : (a b r w : Bool) → (r || w) ≡ false → (a && b && w) ≡ false
    unwritten a b false false h = and-false a b
    unwritten a b false true h = absurd (cc)
    unwritten a b true w h = absurd (cc)

-- a poll of a table, told by a port that tells
pub table-told : {Plan : Type 0} (old new : WantsValue) (timeout : Option ℕ) (answer : Polled) (told told' ends ends' : SideId → EndTold)
    (v v' : Plan → Trace → Type 0) → RowsStay old new → TablePolled old new timeout answer told told' v v'
    → ends' ≡ (λ e. grown (poll_counts (named new) new.list answer e) (ends e)) → TablePolled old new timeout answer ends ends' v v'
table-told old new timeout answer told told' ends ends' v v' rows k is =
    let same : (e : SideId) → poll_counts (named new) new.list answer e ≡ poll_step k.marked answer e =
    λ e. counts-step old new k.marked answer e rows k.marks k.many k.list in
    record {
      marked = k.marked;
      marks = k.marks;
      many = k.many;
      list = k.list;
      ends = all-grown ends ends' (poll_step k.marked answer) (is ∙ (λ i. λ e. grown (same e i) (ends e)));
      vouched = k.vouched;
    }
