-- Calls of the drive one behind another, and what one call of the port is.
use Rattle.std.proofs.Common.{◌≡◌, ℕ, ◌+◌, Bool, true, false, ◌||◌, [], ◌++◌, length, Option, Some, None, refl, sym, ◌∙◌, ap, subst, arith}
use Rattle.std.proofs.Common.{append_assoc, append-nil, length-append}
use Rattle.std.proofs.lemmas.List.Folds.{list_any-append}
use Rattle.ev_port.specs.FaultCounts.{Counted}
use Rattle.ev_types.specs.Trace.{Trace}
use Rattle.ev_types.specs.Growth.{Grew}
use Rattle.ev_port.specs.Faults.{Faults}
use Rattle.ev_port.specs.Counting.{counted}
use Rattle.relay_model.specs.Settings.{Settings}
use Rattle.relay_state.specs.State.{State}
use Rattle.relay_drive.specs.declared.run.Run.{Run}
use Rattle.relay_drive.specs.Steps.{Nothing, Then}
use Rattle.relay_drive.specs.Known.{IsInStep, Question}
use Rattle.relay_drive.proofs.CalmLemmas.{Still, still_none, Same, same, fits_still}
use Rattle.relay_model.specs.Told.{has_failed, failed_by}
use Rattle.relay_drive.specs.Advances.{Advances, Heard, has_poll_failed, is_poll_failed}

-- Lists that are told

pub Grew-none : (a : Option Trace) → Grew a a []
Grew-none None = tt
Grew-none (Some xs) = ap Some (sym (append-nil xs))

pub Grew-join : (a b c : Option Trace) (xs ys : Trace) → Grew a b xs → Grew b c ys → Grew a c (xs ++ ys)
Grew-join None b c xs ys p q = tt
Grew-join (Some u) None c xs ys p q = absurd (cc)
Grew-join (Some u) (Some v) c xs ys p q = q ∙ ap Some (ap (λ z. z ++ ys) (some p) ∙ append_assoc u xs ys)
  where
    some : {x y : Trace} → ◌≡◌ {A = Option Trace} (Some x) (Some y) → x ≡ y
    some h = cc

-- Counts

pub Counted-none : (a : ℕ) → Counted a a false
Counted-none a = record { later = omega arith; fault = λ h. absurd (cc); none = λ h. refl }

pub Counted-same : (a b : ℕ) → b ≡ a → Counted a b false
Counted-same a b h = record { later = omega (arith, h); fault = λ h. absurd (cc); none = λ _. h }

pub Counted-join : (a b c : ℕ) (p q : Bool) → Counted a b p → Counted b c q → Counted a c (p || q)
Counted-join a b c true true h k = let r = h.fault refl in let s = k.fault refl in
    record { later = omega (arith, h.later, k.later); fault = λ e. omega (arith, r, s, k.later); none = λ e. absurd (cc) }
Counted-join a b c true false h k = let r = h.fault refl in
    record { later = omega (arith, h.later, k.later); fault = λ e. omega (arith, r, k.later); none = λ e. absurd (cc) }
Counted-join a b c false true h k = let r = h.none refl in let s = k.fault refl in
    record { later = omega (arith, h.later, k.later); fault = λ e. omega (arith, r, s); none = λ e. absurd (cc) }
Counted-join a b c false false h k = record {
  later = omega (arith, h.later, k.later);
  fault = λ e. absurd (cc);
  none = λ e. k.none refl ∙ h.none refl;
}

pub Heard-none : (f : Faults) → Heard f f [] false
Heard-none f = record { ends = λ e. Counted-none (f.ends e); polling = Counted-none f.polling; listener = Counted-none f.listener }

pub Heard-join : (f g h : Faults) (xs ys : Trace) (p q : Bool) → Heard f g xs p → Heard g h ys q → Heard f h (xs ++ ys) (p || q)
Heard-join f g h xs ys p q a b = record {
  ends = λ e. subst (λ z. Counted (f.ends e) (h.ends e) z) (sym (list_any-append (failed_by e) xs ys))
      (Counted-join (f.ends e) (g.ends e) (h.ends e) (has_failed e xs) (has_failed e ys) (a.ends e) (b.ends e));
  polling = subst (λ z. Counted f.polling h.polling z) (sym (list_any-append is_poll_failed xs ys))
      (Counted-join f.polling g.polling h.polling (has_poll_failed xs) (has_poll_failed ys) a.polling b.polling);
  listener = Counted-join f.listener g.listener h.listener p q a.listener b.listener;
}

counted-join : (a b c m n k : ℕ) → counted b 0 ≡ counted a m → counted c 0 ≡ counted b n → k ≡ m + n → counted c 0 ≡ counted a k
counted-join a b c m n k h g e = omega (arith, h, g, e)

-- Advances

-- what may be known of a port and a trace, with these settings
abbrev pub Known : Type 0 → Type 1
Known Plan = Settings → Question Plan → Trace → Type 0

-- the same with a weaker relation
pub goes_as : {Plan : Type 0} {R S : State → Trace → State → Type 0} {p : Bool} {old new : Run} {l l' : Option Trace}
    {v v' : Known Plan} {f f' : Faults} →
    ((a : Trace) → R old.relay.state a new.relay.state → S old.relay.state a new.relay.state) →
    Advances R p old new l l' v v' f f' → Advances S p old new l l' v v' f f'
goes_as w g = record {
  added = g.added;
  does = w g.added g.does;
  entries = g.entries;
  list = g.list;
  settings = g.settings;
  told = g.told;
  heard = g.heard;
}

-- where more is known of the trace by what the relay did
pub goes_knowing : {Plan : Type 0} {R : State → Trace → State → Type 0} {p : Bool} {old new : Run} {l l' : Option Trace}
    {v w w' : Known Plan} {f f' : Faults} → (g : Advances R p old new l l' v w f f') →
    ((t : Trace) (x : Question Plan) → IsInStep (t ++ g.added) new.relay.state → v old.relay.state.settings x t →
    w new.relay.state.settings x (t ++ g.added) → w' new.relay.state.settings x (t ++ g.added)) → Advances R p old new l l' v w' f f'
goes_knowing g h = record {
  added = g.added;
  does = g.does;
  entries = g.entries;
  list = g.list;
  settings = g.settings;
  told = λ t fits. let now = g.told t fits in (now.0, λ x k. h t x now.0 k (now.1 x k));
  heard = g.heard;
}

pub goes_then : {Plan : Type 0} {R S : State → Trace → State → Type 0} {p q : Bool} {old mid new : Run} {l m n : Option Trace}
    {v w x : Known Plan} {f g h : Faults} →
    Advances R p old mid l m v w f g → Advances S q mid new m n w x g h → Advances (Then R S) (p || q) old new l n v x f h
goes_then {p = p} {q = q} {old = old} {mid = mid} {new = new} {l = l} {m = m} {n = n} {v = v} {w = w} {x = x} {f = f} {g = g}
    {h = h} a b = record {
      added = a.added ++ b.added;
      does = record { middle = mid.relay.state; front = a.added; back = b.added; first = a.does; second = b.does; joined = refl };
      entries = counted-join old.entries mid.entries new.entries (length a.added) (length b.added) (length (a.added ++ b.added))
          a.entries b.entries (length-append a.added b.added);
      list = Grew-join l m n a.added b.added a.list b.list;
      settings = b.settings ∙ a.settings;
      told = λ t fits.
          let first = a.told t fits in
          let second = b.told (t ++ a.added) first.0 in (
            subst (λ z. IsInStep z new.relay.state) (append_assoc t a.added b.added) second.0,
            λ y k. subst (x new.relay.state.settings y) (append_assoc t a.added b.added) (second.1 y (first.1 y k)),
          );
      heard = Heard-join f g h a.added b.added p q a.heard b.heard;
    }

-- these entries were put, and this changed
pub goes_by : {Plan : Type 0} {R : State → Trace → State → Type 0} {p : Bool} {old new : Run} {v v' : Known Plan}
    (l l' : Option Trace) (f f' : Faults) (a : Trace) → R old.relay.state a new.relay.state →
    new.relay.state.settings ≡ old.relay.state.settings →
    counted new.entries 0 ≡ counted old.entries (length a) → Grew l l' a →
    ((t : Trace) → IsInStep t old.relay.state → IsInStep (t ++ a) new.relay.state) →
    ((t : Trace) → IsInStep t old.relay.state → (x : Question Plan) → v old.relay.state.settings x t →
    v' old.relay.state.settings x (t ++ a)) → Heard f f' a p → Advances R p old new l l' v v' f f'
goes_by {old = old} {new = new} {v' = v'} l l' f f' a does settings entries list fits known heard = record {
  added = a;
  does = does;
  entries = entries;
  list = list;
  settings = settings;
  told = λ t h. (fits t h, λ x k. subst (λ z. v' z x (t ++ a)) (sym settings) (known t h x k));
  heard = heard;
}

-- entries that begin no turn and open no link
pub goes_some : {Plan : Type 0} {R : State → Trace → State → Type 0} {p : Bool} {old new : Run} {v v' : Known Plan}
    (l l' : Option Trace) (f f' : Faults) (a : Trace) → Still a → R old.relay.state a new.relay.state →
    Same old.relay.state new.relay.state →
    counted new.entries 0 ≡ counted old.entries (length a) → Grew l l' a →
    ((t : Trace) → IsInStep t old.relay.state → (x : Question Plan) → v old.relay.state.settings x t →
    v' old.relay.state.settings x (t ++ a)) → Heard f f' a p → Advances R p old new l l' v v' f f'
goes_some {old = old} {new = new} l l' f f' a calm does same entries list known heard =
    goes_by l l' f f' a does same.settings entries list (λ t. fits_still t a old.relay.state new.relay.state calm same) known heard

-- no entry was put
pub goes_silent : {Plan : Type 0} {p : Bool} {old new : Run} {l l' : Option Trace} {v v' : Known Plan} {f f' : Faults} →
    new.relay.state ≡ old.relay.state → new.entries ≡ old.entries → Grew l l' [] →
    ((t : Trace) (x : Question Plan) → v old.relay.state.settings x t → v' old.relay.state.settings x (t ++ [])) →
    Heard f f' [] p → Advances Nothing p old new l l' v v' f f'
goes_silent {old = old} {new = new} {l = l} {l' = l'} {f = f} {f' = f'} s n list known heard =
    goes_some l l' f f' [] still_none (refl, s) (same old.relay.state new.relay.state s) (omega (arith, n)) list (λ t fits. known t) heard

-- nothing was asked of the port
pub goes_nowhere : {Plan : Type 0} {old new : Run} {l l' : Option Trace} {v v' : Known Plan} {f : Faults} →
    new.relay.state ≡ old.relay.state → new.entries ≡ old.entries → Grew l l' [] →
    ((g : Settings) (t : Trace) (x : Question Plan) → v g x t → v' g x t) → Advances Nothing false old new l l' v v' f f
goes_nowhere {old = old} {v' = v'} {f = f} s n list known =
    goes_silent s n list (λ t x k. subst (v' old.relay.state.settings x) (sym (append-nil t))
    (known old.relay.state.settings t x k)) (Heard-none f)

-- the relay alone changed
pub goes_within : {Plan : Type 0} {R : State → Trace → State → Type 0} {old new : Run} (l : Option Trace) (v : Known Plan)
    (f : Faults) → R old.relay.state [] new.relay.state → Same old.relay.state new.relay.state → new.entries ≡ old.entries →
    Advances R false old new l l v v f f
goes_within {old = old} l v f does same n =
    goes_some l l f f [] still_none does same (omega (arith, n)) (Grew-none l)
    (λ t fits x k. subst (v old.relay.state.settings x) (sym (append-nil t)) k) (Heard-none f)

pub goes_flag : {Plan : Type 0} {R : State → Trace → State → Type 0} {p q : Bool} {old new : Run} {l l' : Option Trace}
    {v v' : Known Plan} {f f' : Faults} → p ≡ q → Advances R p old new l l' v v' f f' → Advances R q old new l l' v v' f f'
goes_flag {R = R} {old = old} {new = new} {l = l} {l' = l'} {v = v} {v' = v'} {f = f} {f' = f'} e g =
    subst (λ b. Advances R b old new l l' v v' f f') e g
