-- That closing turns are few where each free is of a side that is done: what is left to do, is left in the links that are open or wait.
use Rattle.std.proofs.Common.{◌≡◌, ℕ, zero, suc, ◌+◌, ◌-◌, ◌*◌, ◌<◌, ◌≤◌, Bool, true, false, ◌||◌, not, if◌then◌else◌}
use Rattle.std.proofs.Common.{List, [], ◌∷◌, ◌++◌, length, ◌⊎◌, inl, inr, refl, sym, ◌∙◌, ap, subst, arith, length-append, append_assoc}
use Rattle.std.specs.Prelude.{sum_by}
use Rattle.std.specs.List.{list_any, list_all}
use Rattle.std.proofs.lemmas.Bool.{and_from, or_left, or_right, or_cases, or_parts, cases_lt}
use Rattle.std.proofs.lemmas.List.Folds.{list_any-append}
use Rattle.std.proofs.lemmas.List.Sums.{sum_by-append}
use Rattle.ev_types.specs.declared.side.SideId.{SideId}
use Rattle.ev_types.specs.declared.why.Cause.{Cause}
use Rattle.ev_types.specs.declared.why.Cause.TheVariants as cause
use Rattle.ev_types.specs.declared.answer.ConnAnswer.TheVariants as conn
use Rattle.ev_types.specs.declared.answer.ReadAnswer.TheVariants as read
use Rattle.ev_types.specs.declared.answer.WriteAnswer.TheVariants as write
use Rattle.ev_types.specs.declared.entry.Entry.TheVariants as entry
use Rattle.ev_types.specs.ScriptTurn.{ScriptTurn}
use Rattle.ev_types.specs.Sides.{peer, same_end}
use Rattle.ev_types.specs.Trace.{Event, Trace}
use Rattle.relay_model.specs.Trace.{ended_by, is_write_closed, write_closed_by}
use Rattle.relay_model.specs.Settings.{Settings}
use Rattle.relay_model.specs.Plain.{Plain, sides_from, is_live}
use Rattle.relay_model.specs.Stages.{Stage, at}
use Rattle.relay_model.specs.Turn.{Reaches, IsLegal}
use Rattle.relay_model.specs.Onward.{Leads}
use Rattle.relay_model.specs.Totals.{connected_by}
use Rattle.relay_model.specs.Told.{names, freed_by, is_freed, SideTold}
use Rattle.relay_model.specs.Quiet.{starts_at}
use Rattle.relay_model.specs.Causes.{HasCause}
use Rattle.relay_model.specs.Plays.{IsAnswered}
use Rattle.relay_model.specs.OpenLinks.{is_link_open, open_links_below, open_link_count, FreesAreDone}
use Rattle.relay_model.specs.MovingOn.{moves_on}
use Rattle.relay_model.specs.Work.{gets_by, gives_of, carries_on, moves_on_in, MovesAreOf}
use Rattle.relay_model.specs.ClosingTurns.{scripted_links}
use Rattle.relay_model.proofs.EndLemmas.{peer-peer, same_end-eq, same_end-refl}
use Rattle.relay_model.proofs.ToldLemmas.{kept, none_of}
use Rattle.relay_model.proofs.LeftLemmas.{in_of, out_of, in-or-out}
use Rattle.relay_model.proofs.PassedLemmas.{side-among}
use Rattle.relay_model.proofs.CauseLemmas.{frees_have_causes}
use Rattle.relay_model.proofs.QuietLemmas.{legal_is_quiet}
use Rattle.relay_model.proofs.OnwardLemmas.{reaches-on}
use Rattle.relay_laws.specs.Links.{done_by, is_done}
use Rattle.relay_laws.proofs.DoneOrder.{Ended, joining, half_done, all_done}
use Rattle.relay_laws.proofs.DoneLemmas.{joined}
use Rattle.drain_laws.proofs.SumLemmas.{length-sides, sides-add, sides-last}
use Rattle.drain_laws.proofs.PendingLemmas.{links-opened}

-- The sides of open links

-- of the first links, the sides of those that are open
abbrev pub open_sides : Plain → ℕ → List SideId
open_sides s zero = []
open_sides s (suc n) = open_sides s n ++ (if is_link_open s n then sides_from n 1 else [])

-- and those of the links from a number on, so many in all
abbrev pub sides_left : Plain → ℕ → List SideId
sides_left s n = open_sides s s.opened ++ sides_from s.opened (n - s.opened)

abbrev Has : List SideId → SideId → Type 0
Has es z = list_any (same_end z) es ≡ true

has-left : (xs ys : List SideId) (z : SideId) → Has xs z → Has (xs ++ ys) z
has-left xs ys z h = list_any-append (same_end z) xs ys ∙ or_left (list_any (same_end z) xs) (list_any (same_end z) ys) h

has-right : (xs ys : List SideId) (z : SideId) → Has ys z → Has (xs ++ ys) z
has-right xs ys z h = list_any-append (same_end z) xs ys ∙ or_right (list_any (same_end z) xs) (list_any (same_end z) ys) h

has-open : (s : Plain) (n : ℕ) (z : SideId) → z.link < n → is_link_open s z.link ≡ true → Has (open_sides s n) z
has-open s zero z lt h = absurd (omega (arith, lt))
has-open s (suc n) z lt h = elim (cases_lt z.link n) [
  | inl less ↦ has-left (open_sides s n) (if is_link_open s n then sides_from n 1 else []) z (has-open s n z less h)
  | inr ge ↦
      (let same : z.link ≡ n = omega (arith, ge, lt) in
      let is : is_link_open s n ≡ true = ap (is_link_open s) (sym same) ∙ h in
      has-right (open_sides s n) (if is_link_open s n then sides_from n 1 else []) z
      (ap (λ b. list_any (same_end z) (if b then sides_from n 1 else [])) is
      ∙ side-among n 1 z (omega (arith, ge)) (omega (arith, lt))))
]

-- a side of an open link, or of one that was not opened yet, is left
has-left_open : (s : Plain) (n : ℕ) (z : SideId) → z.link < s.opened → is_link_open s z.link ≡ true → Has (sides_left s n) z
has-left_open s n z lt h = has-left (open_sides s s.opened) (sides_from s.opened (n - s.opened)) z (has-open s s.opened z lt h)

has-left_later : (s : Plain) (n : ℕ) (z : SideId) → s.opened ≤ z.link → z.link < n → Has (sides_left s n) z
has-left_later s n z ge lt =
    has-right (open_sides s s.opened) (sides_from s.opened (n - s.opened)) z
    (side-among s.opened (n - s.opened) z ge (omega (arith, ge, lt)))

open-size : (s : Plain) (n : ℕ) → length (open_sides s n) ≡ 2 * open_links_below s n
open-size s zero = refl
open-size s (suc n) =
    let a = open-size s n in
    let b = length-append (open_sides s n) (if is_link_open s n then sides_from n 1 else []) in
    let c = go (is_link_open s n) in
    omega (arith, a, b, c)
  where
    go : (b : Bool) → length (if b then sides_from n 1 else []) ≡ 2 * (if b then 1 else 0)
    go true = refl
    go false = refl

pub left-size : (s : Plain) (n : ℕ) → length (sides_left s n) ≡ 2 * open_link_count s + 2 * (n - s.opened)
left-size s n =
    let a = open-size s s.opened in
    let b = length-sides s.opened (n - s.opened) in
    let c = length-append (open_sides s s.opened) (sides_from s.opened (n - s.opened)) in
    omega (arith, a, b, c)

-- sums over them are within those over all sides
module _ (f : SideId → ℕ) (s : Plain) where
  open-within : (n : ℕ) → sum_by f (open_sides s n) ≤ sum_by f (sides_from 0 n)
  open-within zero = omega arith
  open-within (suc n) =
      let a = open-within n in
      let b = sum_by-append f (open_sides s n) (if is_link_open s n then sides_from n 1 else []) in
      let c = sides-last f n in
      let d = go (is_link_open s n) in
      omega (arith, a, b, c, d)
    where
      go : (b : Bool) → sum_by f (if b then sides_from n 1 else []) ≤ sum_by f (sides_from n 1)
      go true = omega arith
      go false = omega arith

  pub left-within : (n : ℕ) → s.opened ≤ n → sum_by f (sides_left s n) ≤ sum_by f (sides_from 0 n)
  left-within n le =
      let a = open-within s.opened in
      let b = sum_by-append f (open_sides s s.opened) (sides_from s.opened (n - s.opened)) in
      let all : s.opened + (n - s.opened) ≡ n = omega (arith, le) in
      let from : 0 + s.opened ≡ s.opened = omega arith in
      let c = sides-add f 0 s.opened (n - s.opened) in
      let d = ap (λ m. sum_by f (sides_from 0 m)) all in
      let e = ap (λ m. sum_by f (sides_from m (n - s.opened))) from in
      omega (arith, a, b, c, d, e)

-- What moves on

any-at : (p : SideId → Bool) (z : SideId) (es : List SideId) → Has es z → p z ≡ true → list_any p es ≡ true
any-at p z [] h k = absurd (cc)
any-at p z (e ∷ es) h k = elim (or_cases (same_end z e) (list_any (same_end z) es) h) [
  | inl here ↦ or_left (p e) (list_any p es) (ap p (sym (same_end-eq z e here)) ∙ k)
  | inr later ↦ or_right (p e) (list_any p es) (any-at p z es later k)
]

module _ (es : List SideId) where
  -- a side and its peer are among these, or nothing begins at it
  abbrev Covers : SideId → Bool → Type 0
  Covers z starts = (Has es z × Has es (peer z)) ⊎ (starts ≡ false)

  abbrev is_covered : Event → Bool
  is_covered y = not (moves_on y) || list_any (λ e. moves_on_in e y) es

  covered-by : (y : Event) (side e : SideId) → moves_on_in e y ≡ true → (Has es side × Has es (peer side) → Has es e) →
      Covers side (same_end side side) → is_covered y ≡ true
  covered-by y side e moves pick (inl k) =
      or_right (not (moves_on y)) (list_any (λ v. moves_on_in v y) es) (any-at (λ v. moves_on_in v y) e es (pick k) moves)
  covered-by y side e moves pick (inr none) = absurd (let same = same_end-refl side in cc)

  carried : (y : Event) (e : SideId) → (gets_by e y || gives_of e y || ended_by e y) ≡ true → moves_on_in e y ≡ true
  carried y e h = or_left (carries_on e y) (connected_by e y) h

  one-covered : (y : Event) → ((z : SideId) → Covers z (starts_at z y)) → is_covered y ≡ true
  one-covered (entry.Conn side conn.Connected, bytes) h =
      let y : Event = (entry.Conn side conn.Connected, bytes) in
      covered-by y side side (or_right (carries_on side y) (connected_by side y) (same_end-refl side)) (λ k. k.0) (h side)
  one-covered (entry.Read side room (read.Got n), bytes) h =
      let y : Event = (entry.Read side room (read.Got n), bytes) in
      covered-by y side side (carried y side (or_left (gets_by side y || gives_of side y) (ended_by side y)
      (or_left (gets_by side y) (gives_of side y) (same_end-refl side)))) (λ k. k.0) (h side)
  one-covered (entry.Read side room read.Ended, bytes) h =
      let y : Event = (entry.Read side room read.Ended, bytes) in
      covered-by y side side (carried y side (or_right (gets_by side y || gives_of side y) (ended_by side y) (same_end-refl side)))
      (λ k. k.0) (h side)
  one-covered (entry.Write side offered (write.Took n), bytes) h =
      let y : Event = (entry.Write side offered (write.Took n), bytes) in
      let e : SideId = peer side in
      covered-by y side e (carried y e (or_left (gets_by e y || gives_of e y) (ended_by e y)
      (or_right (gets_by e y) (gives_of e y) (ap (same_end side) (peer-peer side) ∙ same_end-refl side)))) (λ k. k.1) (h side)
  one-covered _ h = refl

  pub all-covered : (part : Trace) → ((z : SideId) → Covers z (list_any (starts_at z) part)) → MovesAreOf es part
  all-covered [] h = refl
  all-covered (y ∷ part) h =
      and_from (is_covered y) (list_all is_covered part) (one-covered y (λ z. first z (h z))) (all-covered part (λ z. rest z (h z)))
    where
      first : (z : SideId) → Covers z (list_any (starts_at z) (y ∷ part)) → Covers z (starts_at z y)
      first z (inl k) = inl k
      first z (inr none) = inr (or_parts (starts_at z y) (list_any (starts_at z) part) none).0

      rest : (z : SideId) → Covers z (list_any (starts_at z) (y ∷ part)) → Covers z (list_any (starts_at z) part)
      rest z (inl k) = inl k
      rest z (inr none) = inr (or_parts (starts_at z y) (list_any (starts_at z) part) none).1

-- Where nothing begins any more

starts-names : (z : SideId) (y : Event) → names z y ≡ false → starts_at z y ≡ false
starts-names z (entry.Want side r w, bytes) h = h
starts-names z (entry.Ready side r w, bytes) h = h
starts-names z (entry.Conn side answer, bytes) h = h
starts-names z (entry.Read side room answer, bytes) h = h
starts-names z (entry.Write side offered answer, bytes) h = h
starts-names z (entry.Fired side why, bytes) h = h
starts-names z (entry.CloseWrite side, bytes) h = h
starts-names z (entry.Freed side why moved given, bytes) h = h
starts-names z _ h = refl

-- where a side was freed
record FreeOf (t : Trace) (z : SideId) : Type 0 where
  before : Trace
  after : Trace
  why : Cause
  moved : ℕ
  given : ℕ
  bytes : List ℕ
  is : t ≡ before ++ (entry.Freed z why moved given, bytes) ∷ after

free-here : (t : Trace) (z : SideId) (y : Event) → freed_by z y ≡ true → FreeOf (y ∷ t) z
free-here t z (entry.Freed side why moved given, bytes) h = record {
  before = [];
  after = t;
  why = why;
  moved = moved;
  given = given;
  bytes = bytes;
  is = ap (λ v. (entry.Freed v why moved given, bytes) ∷ t) (same_end-eq side z h);
}
free-here t z _ h = absurd (cc)

free-of : (t : Trace) (z : SideId) → is_freed z t ≡ true → FreeOf t z
free-of [] z h = absurd (cc)
free-of (y ∷ t) z h = elim (or_cases (freed_by z y) (is_freed z t) h) [
  | inl here ↦ free-here t z y here
  | inr later ↦
      (let k = free-of t z later in
      record {
        before = y ∷ k.before;
        after = k.after;
        why = k.why;
        moved = k.moved;
        given = k.given;
        bytes = k.bytes;
        is = ap (λ v. y ∷ v) k.is;
      })
]

-- nothing begins at a side behind a trace in which it was freed
quiet-later : (g : Settings) (t part : Trace) (z : SideId) → IsLegal g (t ++ part) → is_freed z t ≡ true →
    list_any (starts_at z) part ≡ false
quiet-later g t part z legal freed =
    let k = free-of t z freed in
    let y : Event = (entry.Freed z k.why k.moved k.given, k.bytes) in
    let whole : t ++ part ≡ k.before ++ y ∷ (k.after ++ part) =
    ap (λ v. v ++ part) k.is ∙ append_assoc k.before (y ∷ k.after) part in
    let quiet = (legal_is_quiet g (t ++ part) legal k.before (k.after ++ part) z k.why k.moved k.given k.bytes whole).starts in
    (or_parts (list_any (starts_at z) k.after) (list_any (starts_at z) part)
    (sym (list_any-append (starts_at z) k.after part) ∙ quiet)).1

freed-of : (b : Bool) → false ≡ not (b || false) → b ≡ true
freed-of true h = refl
freed-of false h = absurd (cc)

-- Between two turns

module _ (g : Settings) (t : Trace) (s : Plain) (reached : Reaches g t (at Stage.Between s)) where
  told : (z : SideId) → z.link < s.opened → SideTold t Stage.Between s z
  told z lt = (kept g t (at Stage.Between s) reached).each z lt

  -- a side that doesn't live was freed
  dead-freed : (z : SideId) → z.link < s.opened → is_live s z ≡ false → is_freed z t ≡ true
  dead-freed z lt dead = freed-of (is_freed z t) (sym dead ∙ (told z lt).live)

  closed-freed : (z : SideId) → z.link < s.opened → is_link_open s z.link ≡ false → is_freed z t ≡ true
  closed-freed z lt shut = dead-freed z lt (go (in-or-out z))
    where
      parts : (is_live s (in_of z.link) ≡ false) × (is_live s (out_of z.link) ≡ false)
      parts = or_parts (is_live s (in_of z.link)) (is_live s (out_of z.link)) shut

      go : (z ≡ in_of z.link) ⊎ (z ≡ out_of z.link) → is_live s z ≡ false
      go (inl is) = ap (is_live s) is ∙ parts.0
      go (inr is) = ap (is_live s) is ∙ parts.1

  -- each side of the script's links is left, or nothing begins at it in the rest of a run
  pub covers : (turns : List ScriptTurn) (closing_by : ℕ) (part : Trace) (after : Plain) →
      Leads g t (at Stage.Between s) (t ++ part) (at Stage.Between after) → IsAnswered turns closing_by (t ++ part) → (z : SideId) →
      Covers (sides_left s (length (scripted_links turns))) z (list_any (starts_at z) part)
  covers turns closing_by part after way answered z = go (cases_lt z.link s.opened) (cases_lt z.link n)
    where
      n : ℕ
      n = length (scripted_links turns)

      there : Reaches g (t ++ part) (at Stage.Between after)
      there = reaches-on g t (at Stage.Between s) reached (t ++ part) (at Stage.Between after) way

      unnamed : n ≤ z.link → list_any (starts_at z) part ≡ false
      unnamed le =
          let most = links-opened turns closing_by (t ++ part) answered g (at Stage.Between after) there in
          let none = (kept g (t ++ part) (at Stage.Between after) there).counts.named z (omega (arith, most, le)) in
          (or_parts (list_any (starts_at z) t) (list_any (starts_at z) part)
          (sym (list_any-append (starts_at z) t part) ∙ none_of (names z) (starts_at z) (starts-names z) (t ++ part) none)).1

      opened_before : (b : Bool) → is_link_open s z.link ≡ b → z.link < s.opened →
          Covers (sides_left s (length (scripted_links turns))) z (list_any (starts_at z) part)
      opened_before true h lt = inl (has-left_open s n z lt h, has-left_open s n (peer z) lt h)
      opened_before false h lt = inr (quiet-later g t part z (at Stage.Between after, there) (closed-freed z lt h))

      go : (z.link < s.opened) ⊎ (s.opened ≤ z.link) → (z.link < n) ⊎ (n ≤ z.link) →
          Covers (sides_left s (length (scripted_links turns))) z (list_any (starts_at z) part)
      go (inl lt) o = opened_before (is_link_open s z.link) refl lt
      go (inr ge) (inl lt) = inl (has-left_later s n z ge lt, has-left_later s n (peer z) ge lt)
      go (inr ge) (inr le) = inr (unnamed le)

-- Both sides of an open link live, where each free is of a side that is done

freed-done : (e : SideId) (y : Event) → freed_by e y ≡ false → done_by e y ≡ false
freed-done e (entry.Freed side cause.Done moved given, bytes) h = h
freed-done e _ h = refl

module _ (g : Settings) (t : Trace) (s : Plain) (reached : Reaches g t (at Stage.Between s)) (done : FreesAreDone t) where
  -- writing was ended at both sides of a link of which one was freed
  shut-both : (z : SideId) → is_freed z t ≡ true → (is_write_closed z t ≡ true) × (is_write_closed (peer z) t ≡ true)
  shut-both z freed =
      let k = free-of t z freed in
      let y : Event = (entry.Freed z k.why k.moved k.given, k.bytes) in
      let caused : HasCause g k.before z cause.Done =
      subst (λ c. HasCause g k.before z c) (done k.before k.after z k.why k.moved k.given k.bytes k.is)
      (frees_have_causes g t k.before k.after z k.why k.moved k.given k.bytes (at Stage.Between s, reached) k.is) in
      (later k z caused.0, later k (peer z) caused.1)
    where
      later : (k : FreeOf t z) (e : SideId) → is_write_closed e k.before ≡ true → is_write_closed e t ≡ true
      later k e h =
          ap (λ u. is_write_closed e u) k.is
          ∙ list_any-append (write_closed_by e) k.before ((entry.Freed z k.why k.moved k.given, k.bytes) ∷ k.after)
          ∙ or_left (is_write_closed e k.before) _ h

  -- so both were freed
  ended-freed : (k : ℕ) → Ended k t Stage.Between s → (is_done (in_of k) t ≡ true) × (is_done (out_of k) t ≡ true)
  ended-freed k (joining a b j) = absurd j
  ended-freed k (half_done a j) = absurd j
  ended-freed k (all_done a b) = (a, b)

  done-dead : (z : SideId) → z.link < s.opened → is_done z t ≡ true → is_live s z ≡ false
  done-dead z lt h = (told g t s reached z lt).live ∙ go (is_freed z t) refl
    where
      go : (b : Bool) → is_freed z t ≡ b → not (is_freed z t || false) ≡ false
      go true e = ap (λ b. not (b || false)) e
      go false e = absurd (let none = none_of (freed_by z) (done_by z) (freed-done z) t e in cc)

  both-dead : (z : SideId) (k : ℕ) → k < s.opened → (z ≡ in_of k) ⊎ (z ≡ out_of k) → is_live s z ≡ false →
      (is_live s (in_of k) ≡ false) × (is_live s (out_of k) ≡ false)
  both-dead z k lt which dead = (done-dead (in_of k) lt ended.0, done-dead (out_of k) lt ended.1)
    where
      closed_both : (z ≡ in_of k) ⊎ (z ≡ out_of k) → (is_write_closed (in_of k) t ≡ true) × (is_write_closed (out_of k) t ≡ true)
      closed_both (inl is) = shut-both (in_of k) (dead-freed g t s reached (in_of k) lt (ap (is_live s) (sym is) ∙ dead))
      closed_both (inr is) =
          let h = shut-both (out_of k) (dead-freed g t s reached (out_of k) lt (ap (is_live s) (sym is) ∙ dead)) in (h.1, h.0)

      ended : (is_done (in_of k) t ≡ true) × (is_done (out_of k) t ≡ true)
      ended =
          let h = closed_both which in
          ended-freed k ((joined g t (at Stage.Between s) reached).each k lt ((told g t s reached (in_of k) lt).write_ended ∙ h.0)
          ((told g t s reached (out_of k) lt).write_ended ∙ h.1))

  -- both live or both don't
  pub both-live : (k : ℕ) → k < s.opened → is_link_open s k ≡ true → (is_live s (in_of k) ≡ true) × (is_live s (out_of k) ≡ true)
  both-live k lt h = go (is_live s (in_of k)) (is_live s (out_of k)) refl refl h
    where
      go : (a b : Bool) → is_live s (in_of k) ≡ a → is_live s (out_of k) ≡ b → (a || b) ≡ true →
          (is_live s (in_of k) ≡ true) × (is_live s (out_of k) ≡ true)
      go true true p q h = (p, q)
      go true false p q h = absurd (let d = (both-dead (out_of k) k lt (inr refl) q).0 in cc)
      go false b p q h = absurd (let d = (both-dead (in_of k) k lt (inl refl) p).1 in cc)
