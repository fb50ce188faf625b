-- A relay in which no link was opened stands for the trace of no entries, with the groups that it was given.
use Rattle.std.proofs.Common.{◌≡◌, None, Some, refl, arith, [], ◌∷◌, ◌<◌, List, map, sym, subst}
use Rattle.std.specs.Prelude.{IfSome}
use Rattle.std.specs.List.{All, AllByRecursion}
use Rattle.std.proofs.lemmas.List.{length-map}
use Rattle.std.proofs.lemmas.List.Elements.{All-head, All-tail}
use Rattle.ev_types.specs.declared.settings.Settings as code
use Rattle.ev_types.specs.declared.side.SideId.{SideId}
use Rattle.rate_group.specs.declared.group_set.GroupSet as given
use Rattle.relay_model.specs.Settings.{Settings}
use Rattle.relay_model.specs.Stages.{Stage}
use Rattle.relay_model.specs.Turn.{Reaches}
use Rattle.relay_state.specs.State.{new_state}
use Rattle.relay_steps.specs.Meaning.{HasItsGroups, StandsFor}
use Rattle.relay_steps.proofs.MembershipSteps.{new-grouped}
use Rattle.relay_core.specs.GivenGroups.{group_given, settings_given, AreGroups}
use Rattle.relay_core.specs.declared.rate_groups.RateGroups.{RateGroups}
use Rattle.relay_model.proofs.AccountedLemmas.{nothing_is_accounted}

-- a given share is above 0
shares-given : (xs : List given.GroupSet) → All (λ (y : given.GroupSet). 0 < y.share) xs →
    AllByRecursion (λ x. 0 < x.share) (map group_given xs)
shares-given [] h = tt
shares-given (x ∷ xs) h =
    (All-head (λ (y : given.GroupSet). 0 < y.share) x xs h, shares-given xs (All-tail (λ (y : given.GroupSet). 0 < y.share) x xs h))

-- the settings of a run have the groups that it is given
pub groups-given : (g : code.Settings) (x : RateGroups) (hooks : List SideId) → AreGroups x → HasItsGroups (settings_given g x hooks)
groups-given g x hooks h =
    let many = length-map x.groups.items group_given in
    record {
      in_group = subst (λ m. IfSome x.in_group (λ n. n < m)) (sym many) h.in_group;
      out_group = subst (λ m. IfSome x.out_group (λ n. n < m)) (sym many) h.out_group;
      shares = shares-given x.groups.items h.shares;
    }

pub new_relay_stands : (g : Settings) → HasItsGroups g → StandsFor [] Stage.Between (new_state g)
new_relay_stands g has = record {
  reached = Reaches.begins;
  accounts = nothing_is_accounted g;
  many = refl;
  each = λ e lt. absurd (omega (arith, lt));
  groups = has;
  gauged = record { many = refl; each = λ e y is d. absurd (let unset : None ≡ Some y = is in cc) };
  grouped = new-grouped g;
}
