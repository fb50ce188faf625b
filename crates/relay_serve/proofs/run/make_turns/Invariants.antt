use Rattle.std.proofs.Common.{◌≡◌, None, true}
use Rattle.relay_model.specs.Settings.{settings_with}
use Rattle.relay_drive.specs.Seats.{telling, seated_sides, AreSeated}
use Rattle.relay_serve.specs.Seen.{seen, WasStopped}
use Rattle.relay_serve.proofs.TurnsLemmas.{Standing, AllTold}
use Rattle.relay_serve.proofs.run.make_turns.Given as goal

-- The drive keeps no answer, its hooks are in their seats, and it stands for what its turns put. Hooks that had plans have told that.
abbrev pub invariant-loop : goal.invariant-loop
invariant-loop g l = record {
  calm : l.drive.kept ≡ None;
  stopped : l.told ≡ true → WasStopped g.P.Port;
  seated : AreSeated l.drive.state l.seats.hooks.items l.seats.gone.items;
  went : (stood : Standing (settings_with l.settings (seated_sides l.fn.seats.hooks.items))
      (seen g.P.Port g.S.Scribe (l.fn.port, l.fn.scribe)) (seen g.P.Port g.S.Scribe (l.port, l.scribe)) l.drive l.turns)
      × AllTold (telling (λ h. (goal.Hook-dyn g (h.vtable, h.value)).heard h.value)
      (λ h. (goal.Hook-dyn g (h.vtable, h.value)).asked h.value) (λ h. (goal.Hook-dyn g (h.vtable, h.value)).planned h.value))
      l.fn.seats.hooks.items l.seats.hooks.items l.seats.gone.items stood.0.added;
}
