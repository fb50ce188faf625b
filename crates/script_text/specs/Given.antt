-- What the `set` lines of a script give, each setting at most once. How such a line is spelled stands elsewhere.
use Rattle.std.specs.Prelude.{Option, Some, None, unwrap_or}
use Rattle.ev_types.specs.declared.side.Side.TheVariants.{In, Out}
use Rattle.token_bucket.specs.declared.limit.Dir.TheVariants.{Read, Write}
use Rattle.ev_types.specs.declared.settings.Settings.{Settings}
use Rattle.ev_types.specs.Usual.{usual}
use Rattle.script_text.specs.declared.setting.Setting.{Setting}
use Rattle.script_text.specs.declared.setting.Setting.TheVariants.{Hold, Filter, Marks, Timeouts, Rate, Group, Member}
use Rattle.script_text.specs.declared.members.Members.{Members}
use Rattle.script_text.specs.declared.setting.Given.{Given}

-- no side has a group
abbrev pub no_members : Members
no_members = record { in_group = None; out_group = None }

-- no line has set anything
abbrev pub nothing_given : Given
nothing_given = record {
  hold = None;
  in_read = None;
  in_write = None;
  out_read = None;
  out_write = None;
  in_marks = None;
  out_marks = None;
  in_timeouts = None;
  out_timeouts = None;
  in_rate = None;
  out_rate = None;
  members = no_members;
}

-- what is given with a line more, where that line's setting was not given before
abbrev pub once : {A : Type 0} → Option A → Given → Option Given
once None longer = Some longer
once (Some before) longer = None

-- What is given with this setting more. Each side has filters, marks and timeouts of its own, and a filter for each direction. The
-- sides of a name have one limit and are members of one group. A setting that was given before is not given again; a group has a number
-- of its own, and stands in a list of its own.
abbrev pub with_setting : Given → Setting → Option Given
with_setting g (Hold bytes) = once g.hold (record g { hold = Some bytes })
with_setting g (Filter In Read kind) = once g.in_read (record g { in_read = Some kind })
with_setting g (Filter In Write kind) = once g.in_write (record g { in_write = Some kind })
with_setting g (Filter Out Read kind) = once g.out_read (record g { out_read = Some kind })
with_setting g (Filter Out Write kind) = once g.out_write (record g { out_write = Some kind })
with_setting g (Marks In marks) = once g.in_marks (record g { in_marks = Some marks })
with_setting g (Marks Out marks) = once g.out_marks (record g { out_marks = Some marks })
with_setting g (Timeouts In timeouts) = once g.in_timeouts (record g { in_timeouts = Some timeouts })
with_setting g (Timeouts Out timeouts) = once g.out_timeouts (record g { out_timeouts = Some timeouts })
with_setting g (Rate In limit) = once g.in_rate (record g { in_rate = Some limit })
with_setting g (Rate Out limit) = once g.out_rate (record g { out_rate = Some limit })
with_setting g (Member In group) = once g.members.in_group (record g { members = record g.members { in_group = Some group } })
with_setting g (Member Out group) = once g.members.out_group (record g { members = record g.members { out_group = Some group } })
with_setting g (Group number group) = Some g

-- the settings of a run: what was given, and the usual ones where nothing was
abbrev pub settings_by : Given → Settings
settings_by g = record usual {
  hold = unwrap_or g.hold usual.hold;
  in_read = unwrap_or g.in_read usual.in_read;
  in_write = unwrap_or g.in_write usual.in_write;
  out_read = unwrap_or g.out_read usual.out_read;
  out_write = unwrap_or g.out_write usual.out_write;
  in_rate = g.in_rate;
  out_rate = g.out_rate;
  in_marks = unwrap_or g.in_marks usual.in_marks;
  out_marks = unwrap_or g.out_marks usual.out_marks;
  in_timeouts = unwrap_or g.in_timeouts usual.in_timeouts;
  out_timeouts = unwrap_or g.out_timeouts usual.out_timeouts;
}
