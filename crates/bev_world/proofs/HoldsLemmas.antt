-- What a world keeps: one slot that is another, one more slot, and reasons that come and go.
use Rattle.std.proofs.Common.{◌≡◌, ◌≢◌, ℕ, zero, suc, ◌+◌, ◌-◌, ◌^◌, ◌≤◌, ◌<◌, Bool, true, false, if◌then◌else◌, List, []}
use Rattle.std.proofs.Common.{◌∷◌, ◌++◌, length, refl, sym, ◌∙◌, ap, subst, arith, inl, inr, length-append}
use Rattle.std.specs.Prelude.{◌⊎◌, slice_index_or, slice_set, nat_eq, leb, Result, Ok, is_ok, OnOk}
use Rattle.std.proofs.lemmas.List.{get_or-set_same, get_or-set_other, get_or_default, get_or_append_left, get_or-append-add, length-set}
use Rattle.std.proofs.lemmas.Bool.Decides.{eqb_tells, leb_tells}
use Rattle.ev_types.specs.declared.why.Why.{Why}
use Rattle.deferred_cb.specs.DueCalls.{Entry, with_reason, has_entry, without}
use Rattle.bev_world.specs.declared.slot.Kind.{Kind}
use Rattle.bev_world.specs.declared.slot.Kind.TheVariants as kind
use Rattle.bev_world.specs.declared.slot.Slot.{Slot}
use Rattle.bev_world.specs.WorldValue.{no_slot}
use Rattle.bev_world.specs.WorldView.{IsSlot, IsNew, IsJoined, Holds, lacking}
use Rattle.bev_world.proofs.RoomLemmas.{room-raised, room-forgot, room-begun, lacking-at-most, lacking-longer}

-- one slot is another
pub holds-set : {chunked : Bool} {more cap : ℕ} (ss : List Slot) (es : List Entry) (spare n : ℕ) (s : Slot) →
    Holds chunked ss es spare more cap → n < length ss → IsSlot chunked (length ss) n s →
    Holds chunked (slice_set ss n s) es spare more cap
holds-set {chunked} {more} {cap} ss es spare n s h within fits = record {
  few = subst (λ c. c < 2 ^ 32) (sym many) h.few;
  room = subst (λ c. lacking c (λ m. has_entry m es) + more ≤ spare) (sym many) h.room;
  fits = subst (λ c. c + more ≤ cap) (sym many) h.fits;
  each = λ m lt. at m (subst (λ c. m < c) many lt) (eqb_tells m n);
}
  where
    many : length (slice_set ss n s) ≡ length ss
    many = length-set ss n s

    at : (m : ℕ) → m < length ss → ((nat_eq m n ≡ true) × (m ≡ n)) ⊎ ((nat_eq m n ≡ false) × (m ≢ n)) →
        IsSlot chunked (length (slice_set ss n s)) m (slice_index_or (slice_set ss n s) m no_slot)
    at m lt (inl same) =
        subst (λ c. IsSlot chunked c m (slice_index_or (slice_set ss n s) m no_slot)) (sym many)
        (subst (λ k. IsSlot chunked (length ss) k (slice_index_or (slice_set ss n s) k no_slot)) (sym same.1)
        (subst (IsSlot chunked (length ss) n) (sym (get_or-set_same ss n s no_slot within)) fits))
    at m lt (inr apart) =
        subst (λ c. IsSlot chunked c m (slice_index_or (slice_set ss n s) m no_slot)) (sym many)
        (subst (IsSlot chunked (length ss) m) (sym (get_or-set_other ss n m s no_slot apart.1)) (h.each m lt))

-- a reason became due
pub holds-raised : {chunked : Bool} {more cap : ℕ} (ss : List Slot) (es next : List Entry) (spare left n : ℕ) (y : Why) →
    Holds chunked ss es spare more cap → n < length ss → next ≡ with_reason n y es → length next + left ≡ length es + spare
    → Holds chunked ss next left more cap
holds-raised {chunked} {more} {cap} ss es next spare left n y h within is kept = record {
  few = h.few;
  room = subst (λ z. lacking (length ss) (λ m. has_entry m z) + more ≤ left) (sym is)
      (room-raised more (length ss) n y es spare left within h.room (subst (λ z. length z + left ≡ length es + spare) is kept));
  fits = h.fits;
  each = h.each;
}

-- what was due for one was forgotten
pub holds-forgot : {chunked : Bool} {more cap : ℕ} (ss : List Slot) (es next : List Entry) (spare left n : ℕ) →
    Holds chunked ss es spare more cap → next ≡ without n es →
    length next + left ≡ length es + spare → Holds chunked ss next left more cap
holds-forgot {chunked} {more} {cap} ss es next spare left n h is kept = record {
  few = h.few;
  room = subst (λ z. lacking (length ss) (λ m. has_entry m z) + more ≤ left) (sym is)
      (room-forgot more (length ss) n es spare left h.room (subst (λ z. length z + left ≡ length es + spare) is kept));
  fits = h.fits;
  each = h.each;
}

-- a batch began
pub holds-begun : {chunked : Bool} {more cap : ℕ} (ss : List Slot) (es next : List Entry) (spare left : ℕ) →
    Holds chunked ss es spare more cap → next ≡ [] → left ≡ length es + spare →
    Holds chunked ss next left more cap
holds-begun {chunked} {more} {cap} ss es next spare left h is kept = record {
  few = h.few;
  room = subst (λ z. lacking (length ss) (λ m. has_entry m z) + more ≤ left) (sym is)
      (subst (λ k. lacking (length ss) (λ m. has_entry m []) + more ≤ k) (sym kept) (room-begun more (length ss) es spare h.room));
  fits = h.fits;
  each = h.each;
}

-- a slot that is read fits
pub fits-read : {chunked : Bool} {more cap : ℕ} (ss : List Slot) (es : List Entry) (spare n : ℕ) (d x : Slot) →
    Holds chunked ss es spare more cap → n < length ss → x ≡ slice_index_or ss n d → IsSlot chunked (length ss) n x
fits-read {chunked} ss es spare n d x h within is =
    subst (IsSlot chunked (length ss) n) (sym (is ∙ get_or_default ss n d no_slot within)) (h.each n within)

-- another slot fits there, with the same kind, chunked as that one, and with enough room
pub fits-with : {chunked : Bool} (count n : ℕ) (x s : Slot) → IsSlot chunked count n x → s.kind ≡ x.kind →
    s.bev.chunked ≡ x.bev.chunked → s.room ≤ s.bev.input.spare → IsSlot chunked count n s
fits-with count n x s h kind mode room = record {
  joined = subst (λ k. IsJoined count n k) (sym kind) h.joined;
  room = room;
  mode = mode ∙ h.mode;
}

-- one slot is another with the same kind, chunked as that one, and with enough room
pub holds-with : {chunked : Bool} {more cap : ℕ} (ss : List Slot) (es : List Entry) (spare n : ℕ) (d x s : Slot) →
    Holds chunked ss es spare more cap → n < length ss → x ≡ slice_index_or ss n d → s.kind ≡ x.kind → s.bev.chunked ≡ x.bev.chunked →
    s.room ≤ s.bev.input.spare → Holds chunked (slice_set ss n s) es spare more cap
holds-with ss es spare n d x s h within is kind mode room =
    holds-set ss es spare n s h within (fits-with (length ss) n x s (fits-read ss es spare n d x h within is) kind mode room)

-- there is room for so many bufferevents more, and for an entry of each
pub holds-room : {chunked : Bool} {was held : ℕ} (ss : List Slot) (es next : List Entry) (spare free more cap : ℕ) →
    Holds chunked ss es spare was held →
    length ss + more ≤ free → length ss + more ≤ cap → Holds chunked ss next free more cap
holds-room ss es next spare free more cap h entries slots = record {
  few = h.few;
  room = let most = lacking-at-most (λ m. has_entry m next) (length ss) in omega (arith, most, entries);
  fits = slots;
  each = h.each;
}

-- Slots come behind the others

-- one slot of so many fits among more
fits-more : {chunked : Bool} (count more n : ℕ) (s : Slot) → count ≤ more → IsSlot chunked count n s → IsSlot chunked more n s
fits-more count more n s le h = record { joined = joined s.kind h.joined; room = h.room; mode = h.mode }
  where
    joined : (k : Kind) → IsJoined count n k → IsJoined more n k
    joined kind.Socket j = j
    joined (kind.Half other) j = (let lt = j.0 in omega (arith, lt, le), j.1)
    joined (kind.Filter under) j = j

fits-new : {chunked : Bool} (count n : ℕ) (s : Slot) → IsNew chunked count n s → IsSlot chunked count n s
fits-new count n s h = record { joined = h.joined; room = let r = h.room in omega (arith, r); mode = h.mode }

-- one or two come behind the others
pub holds-new : {chunked : Bool} (ss new : List Slot) (es : List Entry) (spare more cap : ℕ) →
    ((n : ℕ) → n < length ss → IsSlot chunked (length ss) n (slice_index_or ss n no_slot)) → length ss + length new < 2 ^ 32
    → (lacking (length ss) (λ m. has_entry m es) + length new) + more ≤ spare →
    (length ss + length new) + more ≤ cap →
    ((k : ℕ) → k < length new → IsNew chunked (length ss + length new) (length ss + k) (slice_index_or new k no_slot)) →
    Holds chunked (ss ++ new) es spare more cap
holds-new {chunked} ss new es spare more cap each few room big fits = record {
  few = subst (λ c. c < 2 ^ 32) (sym long) few;
  room =
      let most = lacking-longer (λ m. has_entry m es) (length ss) (length new) in
      let whole = ap (λ c. lacking c (λ m. has_entry m es)) long in
      omega (arith, most, whole, room);
  fits = omega (arith, long, big);
  each = λ n lt. subst (λ c. IsSlot chunked c n (slice_index_or (ss ++ new) n no_slot)) (sym long)
      (at n (omega (arith, lt, long)) (leb_tells (suc n) (length ss)));
}
  where
    long : length (ss ++ new) ≡ length ss + length new
    long = length-append ss new

    at : (n : ℕ) → n < length ss + length new →
        ((leb (suc n) (length ss) ≡ true) × (suc n ≤ length ss)) ⊎ ((leb (suc n) (length ss) ≡ false) × (length ss < suc n)) →
        IsSlot chunked (length ss + length new) n (slice_index_or (ss ++ new) n no_slot)
    at n lt (inl less) =
        subst (IsSlot chunked (length ss + length new) n) (sym (get_or_append_left ss new no_slot n less.1))
        (fits-more (length ss) (length ss + length new) n (slice_index_or ss n no_slot) (omega arith) (each n less.1))
    at n lt (inr past) =
        let k = n - length ss in
        let place : length ss + k ≡ n = omega (arith, past.1) in
        subst (λ m. IsSlot chunked (length ss + length new) m (slice_index_or (ss ++ new) m no_slot)) place
        (subst (IsSlot chunked (length ss + length new) (length ss + k)) (sym (get_or-append-add ss new k no_slot))
        (fits-new (length ss + length new) (length ss + k) (slice_index_or new k no_slot) (fits k (omega (arith, lt, past.1)))))

pub holds_one : {chunked : Bool} (ss : List Slot) (es : List Entry) (spare more cap : ℕ) (s : Slot) →
    ((n : ℕ) → n < length ss → IsSlot chunked (length ss) n (slice_index_or ss n no_slot)) → length ss + 1 < 2 ^ 32 →
    (lacking (length ss) (λ m. has_entry m es) + 1) + more ≤ spare → (length ss + 1) + more ≤ cap →
    IsNew chunked (length ss + 1) (length ss) s → Holds chunked (ss ++ s ∷ []) es spare more cap
holds_one {chunked} ss es spare more cap s each few room big fits = holds-new ss (s ∷ []) es spare more cap each few room big at
  where
    at : (k : ℕ) → k < length (s ∷ []) → IsNew chunked (length ss + length (s ∷ [])) (length ss + k) (slice_index_or (s ∷ []) k no_slot)
    at zero lt = subst (λ n. IsNew chunked (length ss + 1) n s) (omega arith) fits
    at (suc k) lt = absurd (omega arith)

pub holds_two : {chunked : Bool} (ss : List Slot) (es : List Entry) (spare more cap : ℕ) (s t : Slot) →
    ((n : ℕ) → n < length ss → IsSlot chunked (length ss) n (slice_index_or ss n no_slot)) → length ss + 2 < 2 ^ 32 →
    (lacking (length ss) (λ m. has_entry m es) + 2) + more ≤ spare → (length ss + 2) + more ≤ cap →
    IsNew chunked (length ss + 2) (length ss) s → IsNew chunked (length ss + 2) (length ss + 1) t →
    Holds chunked (ss ++ s ∷ t ∷ []) es spare more cap
holds_two {chunked} ss es spare more cap s t each few room big fits other =
    holds-new ss (s ∷ t ∷ []) es spare more cap each few room big at
  where
    at : (k : ℕ) → k < length (s ∷ t ∷ []) →
        IsNew chunked (length ss + length (s ∷ t ∷ [])) (length ss + k) (slice_index_or (s ∷ t ∷ []) k no_slot)
    at zero lt = subst (λ n. IsNew chunked (length ss + 2) n s) (omega arith) fits
    at (suc zero) lt = other
    at (suc (suc k)) lt = absurd (omega arith)

-- a push that did not fail
pub pushed : {T E : Type 0} (old new : List Slot) (s : Slot) (r : Result T E) (x : T) → new ≡ (if is_ok r then old ++ s ∷ [] else old) →
    r ≡ Ok x → new ≡ old ++ s ∷ []
pushed old new s r x e ok = e ∙ ap (λ z. if is_ok z then old ++ s ∷ [] else old) ok

-- what holds of a call that was not refused
pub on-ok : {T E P : Type 0} (r : Result T E) (x : T) → OnOk r P → r ≡ Ok x → P
on-ok {T} {E} {P} r x holds ok = subst (λ z. OnOk z P) ok holds

-- a filter was made over one
pub holds_taken : {chunked : Bool} {more cap : ℕ} (ss : List Slot) (es : List Entry) (spare n : ℕ) (d x : Slot) →
    Holds chunked ss es spare more cap → n < length ss → x ≡ slice_index_or ss n d →
    Holds chunked (slice_set ss n (record x { taken = true })) es spare more cap
holds_taken ss es spare n d x h within is =
    holds-with ss es spare n d x (record x { taken = true }) h within is refl refl (fits-read ss es spare n d x h within is).room
