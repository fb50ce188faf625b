-- What is done for each of a list, step by step.
use Rattle.std.proofs.Common.{◌≡◌, ℕ, zero, suc, ◌+◌, ◌-◌, ◌<◌, false, List, [], ◌∷◌, ◌++◌, length, take, drop, get_or, Option, refl, sym}
use Rattle.std.proofs.Common.{◌∙◌, ap, subst, arith, append_assoc, append-nil, drop-cons, add-one}
use Rattle.std.proofs.Math.Seq.{take-suc}
use Rattle.std.specs.List.{All}
use Rattle.std.proofs.lemmas.List.{take-append-drop}
use Rattle.std.proofs.lemmas.List.Elements.{All-push}
use Rattle.ev_types.specs.Trace.{Trace}
use Rattle.ev_port.specs.Faults.{Faults}
use Rattle.relay_state.specs.State.{State}
use Rattle.relay_drive.specs.declared.run.Run.{Run}
use Rattle.relay_drive.specs.Steps.{Nothing, Then, Each, CutAt, links_from}
use Rattle.relay_drive.specs.Advances.{Advances}
use Rattle.relay_drive.proofs.GoesLemmas.{Known, goes_as, goes_then}

pub then_nothing : {R : State → Trace → State → Type 0} {s new : State} {a : Trace} → Then R Nothing s a new → R s a new
then_nothing {R = R} {s = s} h =
    let state = h.second.1 in
    let trace = h.joined ∙ ap (λ b. h.front ++ b) h.second.0 ∙ append-nil h.front in
    subst (λ z. R s z _) (sym trace) (subst (λ z. R s h.front z) (sym state) h.first)

pub then_none : {R : State → Trace → State → Type 0} {s new : State} {a : Trace} → R s a new → Then R Nothing s a new
then_none {new = new} {a = a} h = record {
  middle = new;
  front = a;
  back = [];
  first = h;
  second = (refl, refl);
  joined = sym (append-nil a);
}

pub nothing_then : {R : State → Trace → State → Type 0} {s new : State} {a : Trace} → Then Nothing R s a new → R s a new
nothing_then {R = R} {new = new} h =
    let trace = h.joined ∙ ap (λ b. b ++ h.back) h.first.0 in
    subst (λ z. R _ z new) (sym trace) (subst (λ z. R z h.back new) h.first.1 h.second)

pub then_as : {R S R' S' : State → Trace → State → Type 0} {s new : State} {a : Trace} →
    ((m : State) (x : Trace) → R s x m → R' s x m) → ((m : State) (y : Trace) → S m y new → S' m y new) → Then R S s a new →
    Then R' S' s a new
then_as f g h = record {
  middle = h.middle;
  front = h.front;
  back = h.back;
  first = f h.middle h.front h.first;
  second = g h.middle h.back h.second;
  joined = h.joined;
}

-- (one and another) and a third is one and (the others)
then_right : {R S Q : State → Trace → State → Type 0} {s new : State} {a : Trace} → Then (Then R S) Q s a new → Then R (Then S Q) s a new
then_right h = record {
  middle = h.first.middle;
  front = h.first.front;
  back = h.first.back ++ h.back;
  first = h.first.first;
  second = record { middle = h.middle; front = h.first.back; back = h.back; first = h.first.second; second = h.second; joined = refl };
  joined = h.joined ∙ ap (λ b. b ++ h.back) h.first.joined ∙ append_assoc h.first.front h.first.back h.back;
}

-- one more at the end
pub each_push : {X : Type 0} (R : X → State → Trace → State → Type 0) (xs : List X) (x : X) {s new : State} {a : Trace} →
    Then (Each R xs) (R x) s a new → Each R (xs ++ x ∷ []) s a new
each_push R [] x h = record { middle = _; front = _; back = []; first = nothing_then h; second = (refl, refl); joined = sym (append-nil _) }
each_push R (y ∷ ys) x h =
    let r = then_right h in record {
      middle = r.middle;
      front = r.front;
      back = r.back;
      first = r.first;
      second = each_push R ys x r.second;
      joined = r.joined;
    }

pub taken_next : {X : Type 0} (xs : List X) (i : ℕ) (d : X) → i < length xs → take (i + 1) xs ≡ take i xs ++ get_or xs i d ∷ []
taken_next xs i d h = rw add-one (take-suc xs i d h)

-- what holds of the first of a list and of the next one
pub all_taken : {X : Type 0} (P : X → Type 0) (xs : List X) (i : ℕ) (d : X) → i < length xs → All P (take i xs) → P (get_or xs i d) →
    All P (take (i + 1) xs)
all_taken P xs i d h all one = subst (All P) (sym (taken_next xs i d h)) (All-push P (take i xs) (get_or xs i d) all one)

pub goes_next : {Plan : Type 0} →
    {X : Type 0} (R : X → State → Trace → State → Type 0) {old mid new : Run} {l m n : Option Trace} {v w x : Known Plan}
    {f g h : Faults} (xs : List X) (i : ℕ) (d : X) → i < length xs →
    Advances (Each R (take i xs)) false old mid l m v w f g → Advances (R (get_or xs i d)) false mid new m n w x g h →
    Advances (Each R (take (i + 1) xs)) false old new l n v x f h
goes_next R {old = old} {new = new} xs i d lt a b =
    goes_as (λ t p. subst (λ z. Each R z old.relay.state t new.relay.state) (sym (taken_next xs i d lt))
    (each_push R (take i xs) (get_or xs i d) p)) (goes_then a b)

pub goes_cut : {Plan : Type 0} → {X : Type 0} (R Cut : X → State → Trace → State → Type 0) {old mid new : Run} {l m n : Option Trace}
    {v w x : Known Plan} {f g h : Faults} (xs : List X) (i : ℕ) (d : X) → i < length xs →
    Advances (Each R (take i xs)) false old mid l m v w f g → Advances (Cut (get_or xs i d)) false mid new m n w x g h →
    Advances (CutAt R Cut xs) false old new l n v x f h
goes_cut R Cut xs i d lt a b =
    goes_as (λ t p. record {
      front = take i xs;
      last = get_or xs i d;
      back = drop (i + 1) xs;
      all = sym (take-append-drop i xs)
          ∙ ap (λ z. take i xs ++ z) (rw add-one (drop-cons xs i d lt));
      went = p;
    }) (goes_then a b)

-- Links by their numbers

links_from-suc : (k n : ℕ) → links_from k (suc n) ≡ links_from k n ++ (k + n) ∷ []
links_from-suc k zero = let e : k ≡ k + 0 = omega arith in ap (λ m. m ∷ []) e
links_from-suc k (suc n) =
    let e : (k + 1) + n ≡ k + suc n = omega arith in
    ap (λ z. k ∷ z) (links_from-suc (k + 1) n ∙ ap (λ m. links_from (k + 1) n ++ m ∷ []) e)

pub links_from-push : (n : ℕ) → links_from 0 (n + 1) ≡ links_from 0 n ++ n ∷ []
links_from-push n =
    let a : n + 1 ≡ suc n = omega arith in
    let b : 0 + n ≡ n = omega arith in
    ap (links_from 0) a ∙ links_from-suc 0 n ∙ ap (λ m. links_from 0 n ++ m ∷ []) b

links_from-split : (k n m : ℕ) → links_from k (n + m) ≡ links_from k n ++ links_from (k + n) m
links_from-split k zero m =
    let a : zero + m ≡ m = omega arith in
    let b : k ≡ k + zero = omega arith in
    ap (links_from k) a ∙ ap (λ z. links_from z m) b
links_from-split k (suc n) m =
    let a : suc n + m ≡ suc (n + m) = omega arith in
    let b : (k + 1) + n ≡ k + suc n = omega arith in
    ap (links_from k) a ∙ ap (λ z. k ∷ z) (links_from-split (k + 1) n m ∙ ap (λ z. links_from (k + 1) n ++ links_from z m) b)

pub links_next : (i n : ℕ) → i < n → links_from 0 n ≡ links_from 0 i ++ i ∷ links_from (i + 1) (n - (i + 1))
links_next i n h =
    let a : n ≡ i + suc (n - (i + 1)) = omega arith in
    let b : 0 + i ≡ i = omega arith in
    ap (links_from 0) a ∙ links_from-split 0 i (suc (n - (i + 1))) ∙ ap (λ z. links_from 0 i ++ links_from z (suc (n - (i + 1)))) b

pub goes_link : {Plan : Type 0} → (R : ℕ → State → Trace → State → Type 0) {old mid new : Run} {l m n : Option Trace} {v w x : Known Plan}
    {f g h : Faults} (i : ℕ) →
    Advances (Each R (links_from 0 i)) false old mid l m v w f g → Advances (R i) false mid new m n w x g h →
    Advances (Each R (links_from 0 (i + 1))) false old new l n v x f h
goes_link R {old = old} {new = new} i a b =
    goes_as (λ t p. subst (λ z. Each R z old.relay.state t new.relay.state) (sym (links_from-push i))
    (each_push R (links_from 0 i) i p)) (goes_then a b)

pub goes_link_cut : {Plan : Type 0} →
    (R Cut : ℕ → State → Trace → State → Type 0) {old mid new : Run} {l m n : Option Trace} {v w x : Known Plan}
    {f g h : Faults} (i k : ℕ) → i < k →
    Advances (Each R (links_from 0 i)) false old mid l m v w f g → Advances (Cut i) false mid new m n w x g h →
    Advances (CutAt R Cut (links_from 0 k)) false old new l n v x f h
goes_link_cut R Cut i k lt a b =
    goes_as (λ t p. record {
      front = links_from 0 i;
      last = i;
      back = links_from (i + 1) (k - (i + 1));
      all = links_next i k lt;
      went = p;
    }) (goes_then a b)
