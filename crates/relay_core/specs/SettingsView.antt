-- What the sides of a new link get of the settings. The end of the In side is connected.
use Rattle.std.specs.Prelude.{ℕ, Bool, true, Option}
use Rattle.ev_types.specs.declared.settings.Settings.{Settings}
use Rattle.relay_sides.specs.declared.opening.NewSide.{NewSide}

abbrev pub near_of : Settings → Option ℕ → NewSide
near_of g group = record {
  marks = g.in_marks;
  timeouts = g.in_timeouts;
  read = g.in_read;
  write = g.in_write;
  limit = g.in_rate;
  group = group;
  connected = true;
}

abbrev pub far_of : Settings → Option ℕ → Bool → NewSide
far_of g group connected = record {
  marks = g.out_marks;
  timeouts = g.out_timeouts;
  read = g.out_read;
  write = g.out_write;
  limit = g.out_rate;
  group = group;
  connected = connected;
}
