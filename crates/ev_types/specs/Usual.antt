-- The settings of a run of which nothing was said.
use Rattle.std.specs.Prelude.{None}
use Rattle.ev_types.specs.declared.filter.FilterKind.TheVariants as kind
use Rattle.ev_types.specs.declared.settings.Marks.{Marks}
use Rattle.ev_types.specs.declared.settings.Timeouts.{Timeouts}
use Rattle.ev_types.specs.declared.settings.Settings.{Settings}

abbrev pub no_marks : Marks
no_marks = record { read_low = 0; read_high = 0; write_low = 0; write_high = 0 }

abbrev pub no_timeouts : Timeouts
no_timeouts = record { read_ms = 0; write_ms = 0 }

-- 524,288 bytes are held, no side has filters, a limit, marks or timeouts, and 256 links may come
abbrev pub usual : Settings
usual = record {
  hold = 524288;
  in_read = kind.None;
  in_write = kind.None;
  out_read = kind.None;
  out_write = kind.None;
  in_rate = None;
  out_rate = None;
  in_marks = no_marks;
  out_marks = no_marks;
  in_timeouts = no_timeouts;
  out_timeouts = no_timeouts;
  links = 256;
}
