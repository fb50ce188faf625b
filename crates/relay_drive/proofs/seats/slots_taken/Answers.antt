use Rattle.std.proofs.Common.{◌≡◌, ◌+◌, ◌<◌, ◌++◌, ◌∷◌, [], ℕ, Bool, List, Option, length, drop, get_or, sym, ◌∙◌, ap, append_assoc}
use Rattle.std.proofs.Common.{append-nil}
use Rattle.std.specs.Prelude.{is_some}
use Rattle.std.proofs.lemmas.List.{drop_more, drop_all}
use Rattle.relay_drive.specs.Seats.{slots_taken}
use Rattle.relay_drive.proofs.seats.slots_taken.Goals as goal

-- one slot more was looked at
one_more : {H : Type 0} (hooks : List (Option H)) (i : ℕ) (x : Option H) (seen next : List Bool) (b : Bool) → i < length hooks →
    x ≡ get_or hooks i x → b ≡ is_some x → next ≡ seen ++ b ∷ [] → seen ++ slots_taken (drop i hooks) ≡ slots_taken hooks →
    next ++ slots_taken (drop (i + 1) hooks) ≡ slots_taken hooks
one_more hooks i x seen next b lt is some push h =
    ap (λ z. z ++ slots_taken (drop (i + 1) hooks)) push
    ∙ append_assoc seen (b ∷ []) (slots_taken (drop (i + 1) hooks))
    ∙ ap (λ z. seen ++ z ∷ slots_taken (drop (i + 1) hooks)) some
    ∙ ap (λ z. seen ++ is_some z ∷ slots_taken (drop (i + 1) hooks)) is
    ∙ ap (λ z. seen ++ slots_taken z) (sym (drop_more hooks i x lt))
    ∙ h

pub loop-slot-preserved : goal.loop-slot-preserved
loop-slot-preserved g c =
    one_more c.args.hooks.now c.loop-slot.slot-index c.slot-item.result c.loop-slot.taken.items c.push.new.self.items c.is_some.result
    c.loop-slot-test.true c.slot-item.is c.is_some.ensures c.in_ok-push.ensures.items c.loop-slot.invariant

pub returns : goal.returns
returns g c =
    sym (append-nil c.loop-slot.taken.items)
    ∙ ap (λ z. c.loop-slot.taken.items ++ slots_taken z) (sym (drop_all c.loop-slot.slot-index c.args.hooks.now c.loop-slot-test.false))
    ∙ c.loop-slot.invariant
