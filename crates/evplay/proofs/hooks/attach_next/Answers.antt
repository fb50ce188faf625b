use Rattle.std.proofs.Common.{◌≡◌, length, ◌∙◌, ap, subst, arith}
use Rattle.relay_drive.specs.Seats.{telling}
use Rattle.evplay.specs.HandedIn.{lines_at, IsAttached}
use Rattle.evplay.proofs.hooks.attach_next.Goals as goal

pub returns : goal.returns
returns g c =
    let many : c.len.result ≡ length c.args.slots.now.items =
    (let a = c.len.ensures in let b = c.args.slots.now.ok.0 in omega (arith, a, b)) in
    record {
      slot = c.in_ok-with_lines.field-0;
      added = c.in_ok-push.ensures.items;
      attached = subst (λ z. IsAttached
          (telling (λ h. (goal.Hook-dyn g (h.vtable, h.value)).heard h.value) (λ h. (goal.Hook-dyn g (h.vtable, h.value)).asked h.value)
          (λ h. (goal.Hook-dyn g (h.vtable, h.value)).planned h.value)) z c.args.hook c.in_ok-with_lines.field-0)
          (c.deref.ensures.value ∙ c.in_ok-lines.ensures ∙ ap (lines_at c.args.plans.now) many) c.in_ok-with_lines.ensures;
    }
