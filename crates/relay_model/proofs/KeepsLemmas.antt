-- What a step of the plain state leaves as it was: the counts, and of each side whatever a function tells of it.
use Rattle.std.proofs.Common.{◌≡◌, ◌*◌, ◌<◌, Bool, true, false, ◌&&◌, if◌then◌else◌, List, [], ◌∷◌, length, refl, sym, ◌∙◌, ap, subst}
use Rattle.std.proofs.Common.{arith, slice_index_or, map, fold}
use Rattle.std.specs.Prelude.{nat_le}
use Rattle.std.proofs.lemmas.List.{get_or-set_same, get_or-set_other, length-set, length-map}
use Rattle.std.proofs.Math.Seq.{map-set_same}
use Rattle.std.proofs.Math.ListN.{get_or-map}
use Rattle.ev_types.specs.declared.side.SideId.{SideId}
use Rattle.ev_types.specs.declared.why.Why.{Why}
use Rattle.ev_types.specs.declared.why.Why.TheVariants as why
use Rattle.ev_types.specs.Sides.{number, same_end}
use Rattle.relay_model.specs.Flow.{Flow}
use Rattle.relay_model.specs.Settings.{Settings}
use Rattle.relay_model.specs.Due.{Due, with_reason}
use Rattle.relay_model.specs.Plain.{Plain, PlainSide, Timer, no_side, side_at, put_side, put_flow, change_side, is_live}
use Rattle.relay_model.specs.Past.{Past}
use Rattle.relay_model.specs.Rooms.{input_length, output_length}
use Rattle.relay_model.specs.Reasons.{has_hook, raise, raise_read, raise_write}
use Rattle.relay_model.proofs.EndLemmas.{number-lt, number-apart}

-- the counts stay, and what f tells of each side
pub record Keeps {A : Type 0} (f : PlainSide → A) (s new : Plain) : Type 0 where
  pub time : new.time ≡ s.time
  pub turn : new.turn ≡ s.turn
  pub opened : new.opened ≡ s.opened
  pub flows : length new.flows ≡ length s.flows
  pub sides : map f new.sides ≡ map f s.sides

pub Keeps-refl : {A : Type 0} (f : PlainSide → A) (s : Plain) → Keeps f s s
Keeps-refl f s = record { time = refl; turn = refl; opened = refl; flows = refl; sides = refl }

pub Keeps-eq : {A : Type 0} (f : PlainSide → A) (s new : Plain) → new ≡ s → Keeps f s new
Keeps-eq f s new h = subst (λ z. Keeps f s z) (sym h) (Keeps-refl f s)

pub Keeps-trans : {A : Type 0} (f : PlainSide → A) (s mid new : Plain) → Keeps f s mid → Keeps f mid new → Keeps f s new
Keeps-trans f s mid new h k = record {
  time = k.time ∙ h.time;
  turn = k.turn ∙ h.turn;
  opened = k.opened ∙ h.opened;
  flows = k.flows ∙ h.flows;
  sides = k.sides ∙ h.sides;
}

-- what f tells of a side stays
pub Keeps-side : {A : Type 0} (f : PlainSide → A) (s new : Plain) (e : SideId) → Keeps f s new → f (side_at new e) ≡ f (side_at s e)
Keeps-side f s new e h =
    sym (get_or-map f new.sides (number e) no_side)
    ∙ ap (λ z. slice_index_or z (number e) (f no_side)) h.sides
    ∙ get_or-map f s.sides (number e) no_side

pub Keeps-length : {A : Type 0} (f : PlainSide → A) (s new : Plain) → Keeps f s new → length new.sides ≡ length s.sides
Keeps-length f s new h = sym (length-map new.sides f) ∙ ap length h.sides ∙ length-map s.sides f

-- what is kept of more is kept of less
pub Keeps-less : {A B : Type 0} (f : PlainSide → A) (h : A → B) (s new : Plain) → Keeps f s new → Keeps (λ x. h (f x)) s new
Keeps-less f h s new k = record {
  time = k.time;
  turn = k.turn;
  opened = k.opened;
  flows = k.flows;
  sides = sym (map-map h f new.sides) ∙ ap (map h) k.sides ∙ map-map h f s.sides;
}
  where
    map-map : {X Y Z : Type 0} (h : Y → Z) (f : X → Y) (xs : List X) → map h (map f xs) ≡ map (λ x. h (f x)) xs
    map-map h f [] = refl
    map-map h f (x ∷ xs) = ap (λ z. h (f x) ∷ z) (map-map h f xs)

-- Steps

-- only the pending entries may differ
pub Keeps-due : {A : Type 0} (f : PlainSide → A) (s : Plain) (ds : List Due) → Keeps f s (record s { due = ds })
Keeps-due f s ds = record { time = refl; turn = refl; opened = refl; flows = refl; sides = refl }

pub Keeps-timers : {A : Type 0} (f : PlainSide → A) (s : Plain) (ts : List Timer) → Keeps f s (record s { timers = ts })
Keeps-timers f s ts = record { time = refl; turn = refl; opened = refl; flows = refl; sides = refl }

pub raised : (g : Settings) (e : SideId) (y : Why) (s : Plain) → (ds : List Due) × (raise g e y s ≡ record s { due = ds })
raised g e y s = go (has_hook g e && is_live s e)
  where
    go : (b : Bool) → (ds : List Due) × ((if b then record s { due = with_reason e y s.due } else s) ≡ record s { due = ds })
    go true = (with_reason e y s.due, refl)
    go false = (s.due, refl)

pub raised_read : (g : Settings) (p : Past) (e : SideId) (s : Plain) → (ds : List Due) × (raise_read g p e s ≡ record s { due = ds })
raised_read g p e s = go (nat_le (side_at s e).marks.read_low (input_length g p s e))
  where
    go : (b : Bool) → (ds : List Due) × ((if b then raise g e why.Read s else s) ≡ record s { due = ds })
    go true = raised g e why.Read s
    go false = (s.due, refl)

pub raised_write : (g : Settings) (p : Past) (e : SideId) (s : Plain) → (ds : List Due) × (raise_write g p e s ≡ record s { due = ds })
raised_write g p e s = go (nat_le (output_length g p s e) (side_at s e).marks.write_low)
  where
    go : (b : Bool) → (ds : List Due) × ((if b then raise g e why.Write s else s) ≡ record s { due = ds })
    go true = raised g e why.Write s
    go false = (s.due, refl)

pub Keeps-raise : {A : Type 0} (f : PlainSide → A) (g : Settings) (e : SideId) (y : Why) (s : Plain) → Keeps f s (raise g e y s)
Keeps-raise f g e y s = let r = raised g e y s in subst (λ z. Keeps f s z) (sym r.1) (Keeps-due f s r.0)

pub Keeps-raise_read : {A : Type 0} (f : PlainSide → A) (g : Settings) (p : Past) (e : SideId) (s : Plain) → Keeps f s (raise_read g p e s)
Keeps-raise_read f g p e s = let r = raised_read g p e s in subst (λ z. Keeps f s z) (sym r.1) (Keeps-due f s r.0)

pub Keeps-raise_write : {A : Type 0} (f : PlainSide → A) (g : Settings) (p : Past) (e : SideId) (s : Plain) → Keeps f s
    (raise_write g p e s)
Keeps-raise_write f g p e s = let r = raised_write g p e s in subst (λ z. Keeps f s z) (sym r.1) (Keeps-due f s r.0)

-- another value of a side, which f does not tell from the one before
pub Keeps-put : {A : Type 0} (f : PlainSide → A) (e : SideId) (x : PlainSide) (s : Plain) → f x ≡ f (side_at s e) → Keeps f s
    (put_side e x s)
Keeps-put f e x s h = record {
  time = refl;
  turn = refl;
  opened = refl;
  flows = refl;
  sides = map-set_same f s.sides (number e) x no_side h;
}

pub Keeps-flow : {A : Type 0} (f : PlainSide → A) (e : SideId) (x : Flow) (s : Plain) → Keeps f s (put_flow e x s)
Keeps-flow f e x s = record { time = refl; turn = refl; opened = refl; flows = length-set s.flows (number e) x; sides = refl }

-- steps in a row
pub Keeps-fold : {A X : Type 0} (f : PlainSide → A) (step : Plain → X → Plain) → ((s : Plain) (x : X) → Keeps f s (step s x)) →
    (s : Plain) (xs : List X) → Keeps f s (fold step s xs)
Keeps-fold f step h s [] = Keeps-refl f s
Keeps-fold f step h s (x ∷ xs) = Keeps-trans f s (step s x) (fold step (step s x) xs) (h s x) (Keeps-fold f step h (step s x) xs)

-- What a change of a side makes of it, and of another

pub change_side-same : (e : SideId) (change : PlainSide → PlainSide) (s : Plain) → length s.sides ≡ 2 * s.opened → e.link <
    s.opened → side_at (change_side e change s) e ≡ change (side_at s e)
change_side-same e change s size lt = get_or-set_same s.sides (number e) (change (side_at s e)) no_side
    (omega (arith, number-lt e s.opened lt))

pub change_side-other : (e z : SideId) (change : PlainSide → PlainSide) (s : Plain) → same_end z e ≡ false → side_at
    (change_side e change s) z ≡ side_at s z
change_side-other e z change s h = get_or-set_other s.sides (number e) (number z) (change (side_at s e)) no_side (number-apart z e h)
