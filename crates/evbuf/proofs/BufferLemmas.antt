-- One of several buffers taken out, another changed, and the first put back.
use Rattle.std.proofs.Common.{◌≡◌, ℕ, zero, suc, ◌<◌, List, [], ◌∷◌, length, set, get_or, refl, ap, sym, ◌∙◌, arith, Result, Ok, Err, OnOk}
use Rattle.std.proofs.Common.{OnErr}
use Rattle.std.proofs.lemmas.List.{set-get_or, get_or-set_same, get_or-set_other, length-set}
use Rattle.evbuf.specs.Evbuffered.{Evbuffered}
use Rattle.evbuf.specs.Moves.{MovesAll, MovesSome, buffer_at}
use Rattle.evbuf.specs.Steps.{new_buffer, after_giving, after_taking, after_giving_all, after_taking_all}

-- what follows from two facts of an Ok holds of it too, and so of an Err
pub OnOk-both : {T E P Q R : Type 0} (r : Result T E) → (P → Q → R) → OnOk r P → OnOk r Q → OnOk r R
OnOk-both (Ok x) f p q = f p q
OnOk-both (Err e) f p q = tt

pub OnErr-both : {T E P Q R : Type 0} (r : Result T E) → (P → Q → R) → OnErr r P → OnErr r Q → OnErr r R
OnErr-both (Ok x) f p q = tt
OnErr-both (Err e) f p q = f p q

-- within a list the default doesn't matter
pub get_or-default : {X : Type 0} (xs : List X) (i : ℕ) (d e : X) → i < length xs → get_or xs i d ≡ get_or xs i e
get_or-default [] i d e within = absurd (omega arith)
get_or-default (x ∷ xs) zero d e within = refl
get_or-default (x ∷ xs) (suc i) d e within = get_or-default xs i d e (omega arith)

-- of two writes at one place the later stands
pub set-twice : {X : Type 0} (xs : List X) (i : ℕ) (p b : X) → set (set xs i p) i b ≡ set xs i b
set-twice [] i p b = refl
set-twice (x ∷ xs) zero p b = refl
set-twice (x ∷ xs) (suc i) p b = ap (λ ys. x ∷ ys) (set-twice xs i p b)

pub set-around : {X : Type 0} (xs : List X) (i j : ℕ) (p a b : X) → (i ≡ j → ⊥)
    → set (set (set xs i p) j a) i b ≡ set (set xs j a) i b
set-around [] i j p a b apart = refl
set-around (x ∷ xs) zero zero p a b apart = absurd (apart refl)
set-around (x ∷ xs) zero (suc j) p a b apart = refl
set-around (x ∷ xs) (suc i) zero p a b apart = ap (λ ys. a ∷ ys) (set-twice xs i p b)
set-around (x ∷ xs) (suc i) (suc j) p a b apart =
    ap (λ ys. x ∷ ys) (set-around xs i j p a b (λ (e : i ≡ j). apart (ap suc e)))

-- what the places show while one buffer is taken out
pub record Placed (xs new : List Evbuffered) (from to : ℕ) (t f a b : Evbuffered) : Type 0 where
  pub was_to : buffer_at xs to ≡ t
  pub was_from : buffer_at xs from ≡ f
  pub is_to : buffer_at new to ≡ a
  pub is_from : buffer_at new from ≡ b
  pub others : new ≡ set (set xs to a) from b

pub Placed-around : (xs : List Evbuffered) (from to : ℕ) (p t f a b : Evbuffered) → (to ≡ from → ⊥)
    → to < length xs → from < length xs → t ≡ get_or (set xs from p) to t → f ≡ get_or xs from f
    → Placed xs (set (set (set xs from p) to a) from b) from to t f a b
Placed-around xs from to p t f a b apart to_there from_there t_is f_is =
    let others_are : set (set (set xs from p) to a) from b ≡ set (set xs to a) from b =
    set-around xs from to p a b (λ (e : from ≡ to). apart (sym e)) in
    record {
      was_to = get_or-default xs to new_buffer t to_there ∙ sym (t_is ∙ get_or-set_other xs from to p t apart);
      was_from = get_or-default xs from new_buffer f from_there ∙ sym f_is;
      is_to =
          ap (λ ys. get_or ys to new_buffer) others_are
          ∙ get_or-set_other (set xs to a) from to b new_buffer apart
          ∙ get_or-set_same xs to a new_buffer to_there;
      is_from =
          ap (λ ys. get_or ys from new_buffer) others_are
          ∙ get_or-set_same (set xs to a) from b new_buffer (omega (arith, length-set xs to a));
      others = others_are;
    }

-- nothing was moved, and all is as it was
pub all-back : (xs : List Evbuffered) (from to : ℕ) (p t f a b : Evbuffered) → (to ≡ from → ⊥)
    → to < length xs → from < length xs → t ≡ get_or (set xs from p) to t → f ≡ get_or xs from f → a ≡ t → b ≡ f
    → set (set (set xs from p) to a) from b ≡ xs
all-back xs from to p t f a b apart to_there from_there t_is f_is a_is b_is =
    let placed : Placed xs (set (set (set xs from p) to a) from b) from to t f a b =
    Placed-around xs from to p t f a b apart to_there from_there t_is f_is in
    placed.others
    ∙ ap (λ v. set (set xs to v) from b) (a_is ∙ sym placed.was_to)
    ∙ ap (λ ys. set ys from b) (set-get_or xs to new_buffer)
    ∙ ap (λ v. set xs from v) (b_is ∙ sym placed.was_from)
    ∙ set-get_or xs from new_buffer

pub MovesAll-around : (xs : List Evbuffered) (from to : ℕ) (p t f a b : Evbuffered) → (to ≡ from → ⊥)
    → to < length xs → from < length xs → t ≡ get_or (set xs from p) to t → f ≡ get_or xs from f
    → a ≡ after_taking_all t f a.spare → b ≡ after_giving_all f b.spare
    → MovesAll xs to from (set (set (set xs from p) to a) from b)
MovesAll-around xs from to p t f a b apart to_there from_there t_is f_is a_is b_is =
    let new : List Evbuffered = set (set (set xs from p) to a) from b in
    let placed : Placed xs new from to t f a b =
    Placed-around xs from to p t f a b apart to_there from_there t_is f_is in
    record {
      taken =
          placed.is_to ∙ a_is
          ∙ ap (λ v. after_taking_all v f a.spare) (sym placed.was_to)
          ∙ ap (λ v. after_taking_all (buffer_at xs to) v a.spare) (sym placed.was_from)
          ∙ ap (λ (v : Evbuffered). after_taking_all (buffer_at xs to) (buffer_at xs from) v.spare) (sym placed.is_to);
      given =
          placed.is_from ∙ b_is
          ∙ ap (λ v. after_giving_all v b.spare) (sym placed.was_from)
          ∙ ap (λ (v : Evbuffered). after_giving_all (buffer_at xs from) v.spare) (sym placed.is_from);
      others =
          placed.others
          ∙ ap (λ v. set (set xs to v) from b) (sym placed.is_to)
          ∙ ap (λ v. set (set xs to (buffer_at new to)) from v) (sym placed.is_from);
    }

pub MovesSome-around : (xs : List Evbuffered) (from to n : ℕ) (p t f a b : Evbuffered) → (to ≡ from → ⊥)
    → to < length xs → from < length xs → t ≡ get_or (set xs from p) to t → f ≡ get_or xs from f
    → a ≡ after_taking t f n a.spare → b ≡ after_giving f n b.spare
    → MovesSome xs from to n (set (set (set xs from p) to a) from b)
MovesSome-around xs from to n p t f a b apart to_there from_there t_is f_is a_is b_is =
    let new : List Evbuffered = set (set (set xs from p) to a) from b in
    let placed : Placed xs new from to t f a b =
    Placed-around xs from to p t f a b apart to_there from_there t_is f_is in
    record {
      taken =
          placed.is_to ∙ a_is
          ∙ ap (λ v. after_taking v f n a.spare) (sym placed.was_to)
          ∙ ap (λ v. after_taking (buffer_at xs to) v n a.spare) (sym placed.was_from)
          ∙ ap (λ (v : Evbuffered). after_taking (buffer_at xs to) (buffer_at xs from) n v.spare) (sym placed.is_to);
      given =
          placed.is_from ∙ b_is
          ∙ ap (λ v. after_giving v n b.spare) (sym placed.was_from)
          ∙ ap (λ (v : Evbuffered). after_giving (buffer_at xs from) n v.spare) (sym placed.is_from);
      others =
          placed.others
          ∙ ap (λ v. set (set xs to v) from b) (sym placed.is_to)
          ∙ ap (λ v. set (set xs to (buffer_at new to)) from v) (sym placed.is_from);
    }
