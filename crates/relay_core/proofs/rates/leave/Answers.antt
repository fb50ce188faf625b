use Rattle.std.proofs.Common.{◌≡◌, ◌∙◌, ℕ, Result, Ok, Err, Option, Some, None, OnOk, is_some, if◌then◌else◌, ap, sym, refl}
use Rattle.std.specs.Prelude.{OnErr}
use Rattle.rate_group.specs.declared.fault.GroupFault.{GroupFault}
use Rattle.rate_group.specs.GroupValue.{GroupsValue}
use Rattle.rate_group.specs.Refusals.{leave_refusal}
use Rattle.rate_group.specs.Steps.{left, group_of}
use Rattle.token_bucket.specs.Limit.{fault_of}
use Rattle.relay_core.proofs.RelayLemmas.{left-none}
use Rattle.relay_core.proofs.rates.leave.Goals as goal

none-left : (o : Option ℕ) (f g : GroupFault) → Some f ≡ (if is_some o then None else Some g) → o ≡ None
none-left None f g h = refl
none-left (Some n) f g h = absurd (cc h)

told : (member : ℕ) (x y : GroupsValue) (r : Result (Unit {0}) GroupFault) → fault_of r ≡ leave_refusal member x → OnOk r (y
    ≡ left member x) →
    OnErr r (y ≡ x) → y ≡ left member x
told member x y (Ok done) f a b = a
told member x y (Err e) f a b = b ∙ sym (left-none member x (none-left (group_of member x.members) e GroupFault.NotMember f))

pub returns : goal.returns
returns c =
    told c.number.result c.args.groups.now.value c.leave.new.self.value c.leave.result c.leave.ensures.refused c.leave.ensures.ok
    c.leave.ensures.err
    ∙ ap (λ n. left n c.args.groups.now.value) c.number.ensures
