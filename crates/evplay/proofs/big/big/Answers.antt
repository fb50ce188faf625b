use Rattle.std.proofs.Common.{[], refl, ap, sym, subst, ◌∙◌, arith}
use Rattle.ev_types.specs.declared.settings.Settings.{Settings}
use Rattle.script_port.specs.ScriptPlan.{first_plan}
use Rattle.script_port.specs.ScriptPort.{new_port}
use Rattle.script_port.specs.ScriptVouched.{ScriptVouches}
use Rattle.script_text.specs.Script.{ScriptValue}
use Rattle.relay_core.specs.GivenGroups.{settings_given}
use Rattle.relay_drive.proofs.NewStands.{groups-given}
use Rattle.big_script.specs.BigScript.{big_script_of}
use Rattle.big_script.proofs.BigLemmas.{big_scripts_are_big, big_groups_are_set}
use Rattle.evplay.specs.Run.{MayRun}
use Rattle.evplay.proofs.BigBehind.{big-behind}
use Rattle.evplay.proofs.BigLemmas.{big-brings, big-holds, big-small, big-timeouts}
use Rattle.evplay.proofs.GivenLemmas.{Took, took-fit, timed-as, held-as, settings-seen, turns-seen, without_groups}
use Rattle.evplay.proofs.big.big.Goals as goal

pub big_over-requires-clause-may_run : goal.big_over-requires-clause-may_run
big_over-requires-clause-may_run c =
    let n = c.args.links in
    let script : ScriptValue = big_script_of n in
    let is = c.in_ok-script.ensures in
    let now = c.script.inside in
    let given = c.take_groups-given.result in
    let e = c.take_groups-given.ensures in
    let took : Took script given = record {
      groups = e.groups ∙ ap (λ (z : ScriptValue). z.groups) is;
      in_group = e.in_group ∙ ap (λ (z : ScriptValue). z.members.in_group) is;
      out_group = e.out_group ∙ ap (λ (z : ScriptValue). z.members.out_group) is;
    } in
    let rest = e.rest ∙ ap without_groups is in
    let left = c.script.view_is ∙ rest in
    let set = settings-seen now script left in
    let first = c.in_ok-port.ensures.at_first ∙ ap (λ (z : ScriptValue). new_port z.turns) rest in
    subst (λ p. MayRun c.len-turns.result (settings_given now.settings given []) p) (sym first) (record {
      many = omega (arith, c.len-turns.ensures, now.turns.ok.0, turns-seen now script left);
      small = big-small n c.requires.few;
      names = (big_scripts_are_big n).names;
      ordered = big-behind n;
      brings = big-brings n c.requires.few;
      links = ap (λ (z : Settings). z.links) set;
      hooks = omega arith;
      groups = groups-given now.settings given [] (took-fit script given took (big_groups_are_set n));
      timeouts = timed-as now.settings given [] script set (big-timeouts n);
      holds = held-as now.settings given [] script set (big-holds n);
      fresh = refl;
      vouched = λ step. subst (λ p. ScriptVouches p (first_plan script.turns step) []) first
          (subst (λ (z : ScriptValue). ScriptVouches c.in_ok-port.port (first_plan z.turns step) []) rest
          (c.in_ok-port.ensures.vouched step));
    })
