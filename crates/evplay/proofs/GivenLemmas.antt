-- The groups that are taken out of a script, and the settings that they make with what else it sets.
use Rattle.std.proofs.Common.{◌≡◌, ◌<◌, ℕ, [], length, Option, ap, sym, subst, arith}
use Rattle.std.proofs.lemmas.List.{length-map}
use Rattle.std.specs.Prelude.{IfSome, List, map}
use Rattle.std.specs.List.{All}
use Rattle.ev_types.specs.ScriptTurn.{ScriptTurn}
use Rattle.ev_types.specs.declared.settings.Settings.{Settings}
use Rattle.ev_types.specs.declared.side.SideId.{SideId}
use Rattle.rate_group.specs.declared.group_set.GroupSet.{GroupSet}
use Rattle.script_text.specs.declared.script.Script.TheInside.{Inside}
use Rattle.script_text.specs.GroupsAreSet.{GroupsAreSet}
use Rattle.script_text.specs.Script.{ScriptValue}
use Rattle.script_text.specs.ScriptView.{script_value}
use Rattle.relay_model.specs.Settings as model
use Rattle.relay_model.specs.Settings.{settings_with, HoldsSome}
use Rattle.relay_laws.specs.Spelling.{TimeoutsFit}
use Rattle.relay_core.specs.GivenGroups.{group_given, settings_given, AreGroups}
use Rattle.relay_core.specs.declared.rate_groups.RateGroups.{RateGroups}
use Rattle.evplay.specs.HandedIn.{HandedIn}
use Rattle.evplay.specs.Headline.{settings_of, settings_on}

-- all of a script but its groups
abbrev pub without_groups : ScriptValue → ScriptValue
without_groups script = record script { groups = [] }

-- a script's turns are seen one by one
pub turns-seen : (x : Inside) (v : ScriptValue) → script_value x ≡ without_groups v → length v.turns ≡ length x.turns.items
turns-seen x v h =
    let same = ap (λ (z : ScriptValue). length z.turns) h in
    let many = length-map {B = ScriptTurn} x.turns.items (λ turn. (turn.0, turn.1.items)) in
    omega (arith, same, many)

pub settings-seen : (x : Inside) (v : ScriptValue) → script_value x ≡ without_groups v → x.settings ≡ v.settings
settings-seen x v h = ap (λ (z : ScriptValue). z.settings) h

pub plans-seen : (x : Inside) (v : ScriptValue) → script_value x ≡ without_groups v → x.plans.items ≡ v.plans
plans-seen x v h = ap (λ (z : ScriptValue). z.plans) h

-- the groups that were taken out of a script
pub record Took (script : ScriptValue) (x : RateGroups) : Type 0 where
  pub groups : x.groups.items ≡ script.groups
  pub in_group : x.in_group ≡ script.members.in_group
  pub out_group : x.out_group ≡ script.members.out_group

-- are in order where the script's are
pub took-fit : (script : ScriptValue) (x : RateGroups) → Took script x → GroupsAreSet script.groups script.members → AreGroups x
took-fit script x took set =
    let few = set.few in
    let many = ap length took.groups in
    let below : (o : Option ℕ) → IfSome o (λ n. n < length script.groups) → IfSome o (λ n. n < length x.groups.items) =
    λ o. subst (λ m. IfSome o (λ n. n < m)) (sym many) in
    record {
      few = omega (arith, few, many);
      shares = subst (All (λ (y : GroupSet). 0 < y.share)) (sym took.groups) set.shares;
      in_group = below x.in_group (subst (λ o. IfSome o (λ n. n < length script.groups)) (sym took.in_group) set.in_group);
      out_group = below x.out_group (subst (λ o. IfSome o (λ n. n < length script.groups)) (sym took.out_group) set.out_group);
    }

-- and make the settings of the script's run, with what else it sets and with the hooks of these sides
pub took-set : (script : ScriptValue) (handed : HandedIn) (g : Settings) (x : RateGroups) (hooks : List SideId) → g ≡ script.settings →
    Took script x → hooks ≡ (settings_on script handed).hooks → settings_given g x hooks ≡ settings_on script handed
took-set script handed g x hooks set took sides =
    let groups = took.groups in
    let ins = took.in_group in
    let outs = took.out_group in
    λ i. made (set i) (groups i) (ins i) (outs i) (sides i)
  where
    made : Settings → List GroupSet → Option ℕ → Option ℕ → List SideId → model.Settings
    made g groups ins outs hooks =
        record (settings_with g hooks) { groups = map group_given groups; in_group = ins; out_group = outs }

-- in which timeouts fit as they do in the script's
pub timed-as : (g : Settings) (x : RateGroups) (hooks : List SideId) (script : ScriptValue) → g ≡ script.settings →
    TimeoutsFit (settings_of script) → TimeoutsFit (settings_given g x hooks)
timed-as g x hooks script set fit =
    subst (λ z. TimeoutsFit (settings_given z x hooks)) (sym set)
    (record { in_read = fit.in_read; in_write = fit.in_write; out_read = fit.out_read; out_write = fit.out_write })

-- and the hold mark is the script's
pub held-as : (g : Settings) (x : RateGroups) (hooks : List SideId) (script : ScriptValue) → g ≡ script.settings →
    HoldsSome (settings_of script) → HoldsSome (settings_given g x hooks)
held-as g x hooks script set some = subst (λ z. HoldsSome (settings_given z x hooks)) (sym set) (record { hold = some.hold })
