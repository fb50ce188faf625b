use Rattle.std.proofs.Common.{◌≡◌, [], None, sym, ◌∙◌, ap, subst, arith}
use Rattle.relay_core.specs.GivenGroups.{settings_given}
use Rattle.relay_state.specs.State.{State, new_state}
use Rattle.relay_waits.specs.WaitsValue.{hooks_of}
use Rattle.relay_drive.specs.DriveStands.{StandsBetween}
use Rattle.relay_drive.specs.Seats.{seated_sides, slots_taken, AreSeated}
use Rattle.relay_drive.proofs.FreshSeats.{fresh-seated, taken-hooks}
use Rattle.relay_drive.proofs.NewStands.{groups-given, new_relay_stands}
use Rattle.relay_drive.proofs.drive.Drive.new.Given.{Over}
use Rattle.relay_drive.proofs.drive.Drive.new.Goals.{After-new-4}
use Rattle.relay_drive.proofs.drive.Drive.new.Goals as goal

-- its sides with a hook are those whose slots are taken
state-is : (g : Over) (c : After-new-4 g) →
    c.in_ok-new.field-0.state ≡ new_state (settings_given c.args.settings c.args.given (seated_sides c.args.seats.now.hooks.items))
state-is g c =
    c.in_ok-new.ensures
    ∙ ap (λ hs. new_state (settings_given c.args.settings c.args.given (hooks_of hs)))
    (c.in_ok-taken.ensures ∙ ap slots_taken c.deref.ensures.value)
    ∙ ap (λ xs. new_state (settings_given c.args.settings c.args.given xs)) (taken-hooks c.args.seats.now.hooks.items)

pub returns-clause-value : goal.returns-clause-value
returns-clause-value g c =
    ap (λ (z : State). record { state = z; entries = 0; kept = None }) (state-is g c)

pub returns-clause-seated : goal.returns-clause-seated
returns-clause-seated g c =
    subst (λ z. AreSeated z c.args.seats.now.hooks.items c.args.seats.now.gone.items) (sym (state-is g c))
    (fresh-seated c.args.settings c.args.given c.args.seats.now.hooks.items c.args.seats.now.gone.items c.requires.fresh)

pub invariant_of-result : goal.invariant_of-result
invariant_of-result g c =
    let s = c.in_ok-new.field-0.state in
    let is : s ≡ new_state (settings_given c.args.settings c.args.given (hooks_of c.in_ok-taken.taken.items)) = c.in_ok-new.ensures in
    let none : s.plain.opened ≡ 0 = ap (λ (z : State). z.plain.opened) is in
    record {
      inbox = c.in-Ok.ensures.len;
      over = tt;
      ready = λ _. record {
        kept = record {
          pass_covers = omega (arith, none);
          close_covers = omega (arith, none);
          want_covers = omega (arith, none);
          live_covers = omega (arith, none);
          still = λ k lt out. absurd (omega (arith, lt, none));
          settled = λ k lt out. absurd (omega (arith, lt, none));
          gone = λ k lt out. absurd (omega (arith, lt, none));
        };
        named = record {
          links = omega (arith, none, c.new-3.ensures.links);
          named = λ k lt out. absurd (omega (arith, lt, none));
        };
        bare = ap (λ (z : State). z.batch) is;
        trace = [];
        stands = subst (StandsBetween []) (sym is)
            (new_relay_stands (settings_given c.args.settings c.args.given (hooks_of c.in_ok-taken.taken.items))
            (groups-given c.args.settings c.args.given (hooks_of c.in_ok-taken.taken.items) c.requires.groups));
      };
    }
