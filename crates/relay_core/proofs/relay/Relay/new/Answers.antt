use Rattle.std.proofs.Common.{◌≡◌, ◌∙◌, ◌≤◌, ◌<◌, List, [], ◌∷◌, length, sym, ap, subst, arith}
use Rattle.std.specs.Prelude.{map}
use Rattle.std.specs.List.{All}
use Rattle.std.proofs.lemmas.List.Elements.{All-nil, All-cons, All-head, All-tail}
use Rattle.rate_group.specs.declared.group_set.GroupSet.{GroupSet}
use Rattle.rate_group.specs.GroupValue.{GroupValue, GroupsValue}
use Rattle.rate_group.specs.Steps.{made}
use Rattle.relay_state.specs.Running.{Gauge}
use Rattle.relay_state.specs.State.{new_groups}
use Rattle.relay_sides.specs.Links.{Links}
use Rattle.relay_core.specs.GivenGroups.{group_given}
use Rattle.relay_core.specs.RelayView.{IsSoundSide}
use Rattle.relay_core.proofs.RelayLemmas.{length-map}
use Rattle.next_moments.specs.Earliest.{moment_for}
use Rattle.relay_core.proofs.relay.Relay.new.Goals as goal

-- as many groups are made as are given, and none where none is
made-many : (xs : List GroupSet) → length (new_groups (map group_given xs)).groups ≡ length xs
made-many xs = length-map _ (map group_given xs) ∙ length-map group_given xs

-- and no share is nothing
made-shares : (xs : List GroupSet) → All (λ (x : GroupSet). 0 < x.share) xs →
    All (λ (g : GroupValue). 1 ≤ g.least) (new_groups (map group_given xs)).groups
made-shares [] h = All-nil _
made-shares (x ∷ xs) h =
    All-cons (λ (g : GroupValue). 1 ≤ g.least) (made x.cfg x.share 0) (new_groups (map group_given xs)).groups
    (let s = All-head (λ (x : GroupSet). 0 < x.share) x xs h in omega (arith, s, x.cfg.reads, x.cfg.writes))
    (made-shares xs (All-tail (λ (x : GroupSet). 0 < x.share) x xs h))

pub invariant_of-ctl : goal.invariant_of-ctl
invariant_of-ctl c = record {
  timed = record {
    unset = λ e.
        let t = c.is_untimed-untimed.ensures.timeouts e in
        let q = c.is_untimed-untimed.ensures.rates e in
        record { in_timeouts = t.0; out_timeouts = t.1; in_rate = q.0; out_rate = q.1 };
    sides = subst (λ (k : Links). All (IsSoundSide 0 c.is_untimed-untimed.result) k.sides) (sym c.new.ensures.links) (All-nil _);
    gauges = subst (λ (k : Links). All (λ (x : Gauge). x.time ≤ 0) k.gauges) (sym c.new.ensures.links) (All-nil _);
  };
  grouped = record {
    many = ap (λ (z : GroupsValue). length z.groups) c.in_ok-groups.ensures ∙ made-many c.args.given.groups.items;
    few = c.requires.few;
    in_group = c.requires.in_group;
    out_group = c.requires.out_group;
    none = λ e. c.in_ok-groups.ensures ∙ ap (λ xs. new_groups (map group_given xs)) e;
    untimed = c.is_untimed-untimed.ensures.groups;
    shares = subst (λ (z : GroupsValue). All (λ (g : GroupValue). 1 ≤ g.least) z.groups) (sym c.in_ok-groups.ensures)
        (made-shares c.args.given.groups.items c.requires.shares);
  };
  watching = record {
    covers = (let none = ap (λ (k : Links). k.opened) c.new.ensures.links in omega (arith, none));
    places = (let none = ap (λ (k : Links). k.opened) c.new.ensures.links in omega (arith, none));
    absent = λ i past. ap (λ xs. moment_for xs i) c.new-5.ensures.moments;
    beside = λ e below out. absurd (let none = ap (λ (k : Links). k.opened) c.new.ensures.links in omega (arith, none, below));
  };
  grouping = record {
    covers = (let none = ap (λ (k : Links). k.opened) c.new.ensures.links in omega (arith, none));
    beside = λ e below out. absurd (let none = ap (λ (k : Links). k.opened) c.new.ensures.links in omega (arith, none, below));
  };
  time = omega arith;
  few = omega arith;
  room = omega arith;
  limits = omega arith;
}
