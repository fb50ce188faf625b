use Rattle.std.proofs.Common.{◌∙◌, ap, ◌++◌, ◌+◌, ◌*◌, append_assoc, List}
use Rattle.min_timer.specs.DueTimers.{found_at}
use Rattle.min_timer.specs.declared.due.Due.{Due}
use Rattle.min_timer.proofs.due.push_due_below.Goals as goal

pub returns : goal.returns
returns c =
    let due = c.args.due.now.items in
    let at = found_at c.args.timers.now c.args.time in
    let p = 4 * c.args.place in
    c.in_ok-push_due-4.ensures
    ∙ ap (λ (xs : List Due). xs ++ at (p + 4)) (c.in_ok-push_due-3.ensures
    ∙ ap (λ (xs : List Due). xs ++ at (p + 3)) (c.in_ok-push_due-2.ensures
    ∙ ap (λ (xs : List Due). xs ++ at (p + 2)) c.in_ok-push_due.ensures))
    ∙ append_assoc ((due ++ at (p + 1)) ++ at (p + 2)) (at (p + 3)) (at (p + 4))
    ∙ append_assoc (due ++ at (p + 1)) (at (p + 2)) (at (p + 3) ++ at (p + 4))
    ∙ append_assoc due (at (p + 1)) (at (p + 2) ++ (at (p + 3) ++ at (p + 4)))
