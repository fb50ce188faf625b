use Rattle.std.proofs.Common.{◌≡◌, ℕ, zero, suc, [], ◌∷◌, refl, Bool, true, false, if◌then◌else◌, List, Option, Some, None, Result, Ok}
use Rattle.std.proofs.Common.{Err, set, ◌∙◌, ap, subst}
use Rattle.std.specs.Prelude.{is_ok, OnOk}
use Rattle.relay_core.specs.RelayValue.{RelayValue}
use Rattle.ev_types.specs.Sides.{number}
use Rattle.relay_model.specs.Plain.{is_live}
use Rattle.relay_drive.proofs.dispatch.fire_next.Goals as goal

-- what an answer that was given says
on_ok : {T E P : Type 0} (r : Result T E) → is_ok r ≡ true → OnOk r P → P
on_ok (Ok x) h k = k
on_ok (Err e) h k = absurd (cc)

set-twice : {A : Type 0} (xs : List A) (n : ℕ) (x y : A) → set (set xs n x) n y ≡ set xs n y
set-twice [] n x y = refl
set-twice (z ∷ xs) zero x y = refl
set-twice (z ∷ xs) (suc n) x y = ap (λ ys. z ∷ ys) (set-twice xs n x y)

-- a hook was taken out of its slot, and put back or not
slot-of : {H : Type 0} (hooks left now : List (Option H)) (n : ℕ) (x : H) (b : Bool) → left ≡ set hooks n None →
    now ≡ (if b then set left n (Some x) else left) → now ≡ set hooks n (if b then Some x else None)
slot-of hooks left now n x true out h = h ∙ ap (λ ys. set ys n (Some x)) out ∙ set-twice hooks n None (Some x)
slot-of hooks left now n x false out h = h ∙ out

pub returns-clause-seat : goal.returns-clause-seat
returns-clause-seat g c =
    let call = c.call_hook-answer.ensures in
    let live = c.live-live.ensures.live ∙ ap (λ (r : RelayValue). is_live r.state.plain c.args.side) c.ctl.ensures in
    record {
      was = c.take_hook-hook.result;
      now = c.call_hook-answer.new.hook;
      there = c.take_hook-hook.ensures.taken;
      slot = slot-of c.args.seats.now.hooks.items c.take_hook-hook.new.hooks.items c.put_back.new.seats.hooks.items (number c.args.side)
          c.call_hook-answer.new.hook _ c.take_hook-hook.ensures.left
          (subst (λ b. c.put_back.new.seats.hooks.items ≡
          (if b then set c.take_hook-hook.new.hooks.items (number c.args.side) (Some c.call_hook-answer.new.hook) else
          c.take_hook-hook.new.hooks.items)) live c.put_back.ensures.hooks);
      out = subst (λ b. c.put_back.new.seats.gone.items ≡
          (if b then c.args.seats.now.gone.items else set c.args.seats.now.gone.items (number c.args.side)
          (Some c.call_hook-answer.new.hook))) live c.put_back.ensures.gone;
      told = λ ok. record {
        heard = on_ok c.call_hook-answer.result ok call.heard;
        asked = on_ok c.call_hook-answer.result ok call.asked;
        planned = call.planned;
        by_plan = λ h. on_ok c.call_hook-answer.result ok (call.by_plan h);
      };
      planned = call.planned;
    }
