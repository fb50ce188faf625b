use Rattle.std.proofs.Common.{◌<◌, [], length, refl, ap, sym, subst, ◌∙◌, arith}
use Rattle.std.specs.Prelude.{IfOk}
use Rattle.std.specs.List.{All}
use Rattle.ev_types.specs.declared.settings.Settings.{Settings}
use Rattle.ev_types.specs.Sides.{number}
use Rattle.script_port.specs.ScriptPlan.{first_plan}
use Rattle.script_port.specs.ScriptPort.{new_port}
use Rattle.script_port.specs.ScriptVouched.{ScriptVouches}
use Rattle.script_text.specs.Script.{ScriptValue}
use Rattle.relay_core.specs.GivenGroups.{settings_given}
use Rattle.relay_drive.specs.Seats.{telling, seated_sides}
use Rattle.relay_drive.proofs.NewStands.{groups-given}
use Rattle.evplay.specs.HandedIn.{handed_in, HasSeats}
use Rattle.evplay.specs.Play.{IsRunText}
use Rattle.evplay.specs.Run.{script_over, MayRun}
use Rattle.evplay.proofs.GivenLemmas.{Took, took-fit, took-set, timed-as, held-as, plans-seen, settings-seen, turns-seen}
use Rattle.evplay.proofs.HandedLemmas.{few-planned}
use Rattle.evplay.proofs.run.run.Goals as goal

pub run_over-requires-clause-may_run : goal.run_over-requires-clause-may_run
run_over-requires-clause-may_run g c =
    let script = c.args.script in
    let now = c.script.inside in
    let given = c.take_groups-given.result in
    let e = c.take_groups-given.ensures in
    let took : Took script given = record { groups = e.groups; in_group = e.in_group; out_group = e.out_group } in
    let left = c.script.view_is ∙ e.rest in
    let set = settings-seen now script left in
    let hooks = seated_sides c.in_ok-seats.seats.hooks.items in
    let low = subst (All (λ x. number x.0 < 64)) (sym (c.deref.ensures.value ∙ plans-seen now script left)) c.requires.planned in
    let few = few-planned c.deref.result.now (length c.args.hooks.items) low in
    let sides = ap length (ap seated_sides c.in_ok-seats.ensures.hooks ∙ c.in_ok-attach.ensures.sides) in
    let first = c.in_ok-port.ensures.at_first ∙ ap (λ (z : ScriptValue). new_port z.turns) e.rest in
    subst (λ p. MayRun c.len-turns.result (settings_given now.settings given hooks) p) (sym first) (record {
      many = omega (arith, c.len-turns.ensures, now.turns.ok.0, turns-seen now script left);
      small = c.requires.small;
      names = c.requires.names;
      ordered = c.requires.ordered;
      brings = c.requires.brings;
      links = ap (λ (z : Settings). z.links) set ∙ c.requires.links;
      hooks = omega (arith, few, sides);
      groups = groups-given now.settings given hooks (took-fit script given took c.requires.groups);
      timeouts = timed-as now.settings given hooks script set c.requires.timeouts;
      holds = held-as now.settings given hooks script set c.requires.holds;
      fresh = refl;
      vouched = λ step. subst (λ p. ScriptVouches p (first_plan script.turns step) []) first
          (subst (λ (z : ScriptValue). ScriptVouches c.in_ok-port.port (first_plan z.turns step) []) e.rest
          (c.in_ok-port.ensures.vouched step));
    })

pub returns-clause-text : goal.returns-clause-text
returns-clause-text g c =
    let script = c.args.script in
    let now = c.script.inside in
    let given = c.take_groups-given.result in
    let e = c.take_groups-given.ensures in
    let took : Took script given = record { groups = e.groups; in_group = e.in_group; out_group = e.out_group } in
    let left = c.script.view_is ∙ e.rest in
    let tells = telling (λ h. (goal.Hook-dyn g (h.vtable, h.value)).heard h.value)
    (λ h. (goal.Hook-dyn g (h.vtable, h.value)).asked h.value) (λ h. (goal.Hook-dyn g (h.vtable, h.value)).planned h.value) in
    let handed = handed_in tells c.args.hooks.items in
    let seats = subst (λ z. HasSeats z tells script.plans handed) (sym c.in_ok-seats.ensures.hooks)
    (subst (λ z. HasSeats c.in_ok-attach.field-0.items tells z handed) (c.deref.ensures.value ∙ plans-seen now script left)
    c.in_ok-attach.ensures) in
    let set = took-set script handed now.settings given (seated_sides c.in_ok-seats.seats.hooks.items) (settings-seen now script left) took
    seats.sides in
    let first = c.in_ok-port.ensures.at_first ∙ ap (λ (z : ScriptValue). new_port z.turns) e.rest in
    subst (λ z. IfOk c.run_over.result (λ ran. IsRunText z c.args.how handed ran.1 ran.0.items))
    (ap (λ p. script_over script p) first) (c.run_over.ensures.text script handed set seats)
