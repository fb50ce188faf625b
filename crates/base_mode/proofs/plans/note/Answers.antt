-- What the line tells is what it says.
use Rattle.std.proofs.Common.{◌∙◌, ap, ◌++◌, List}
use Rattle.std.proofs.lemmas.Result.{on_ok_weaker}
use Rattle.base_mode.specs.declared.command.Reaction.{Reaction}
use Rattle.base_mode.specs.Plans.{acts_of}
use Rattle.base_mode.proofs.PlanLemmas.{acts_at-on}
use Rattle.base_mode.proofs.plans.note.Goals as goal

pub returns-in-On : goal.returns-in-On
returns-in-On c =
    on_ok_weaker c.tell.result
    (λ told e k. rw c.in-On.is
    (rw c.again.ensures at (told e k)
    ∙ ap (λ (acts : List Reaction). acts_of c.args.plans.now e k ++ acts) (acts_at-on e k c.in-On.event c.in-On.nth c.in-On.act)))
    c.tell.ensures
