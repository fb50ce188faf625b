-- What a run was started with. What it does with that stands in the modules behind.
use Rattle.std.specs.Prelude.{◌≡◌, ℕ, ◌≤◌, List, [], Option, None}
use Rattle.ev_types.specs.declared.side.Side.{Side}
use Rattle.ev_types.specs.declared.side.Side.TheVariants.{In, Out}
use Rattle.ev_types.specs.declared.side.SideId.{SideId}
use Rattle.ev_types.specs.declared.filter.FilterKind.{FilterKind}
use Rattle.ev_types.specs.declared.settings.Marks.{Marks}
use Rattle.ev_types.specs.declared.settings.Timeouts.{Timeouts}
use Rattle.ev_types.specs.declared.settings.Settings as code
use Rattle.ev_types.specs.Usual.{usual as code_usual}
use Rattle.token_bucket.specs.declared.limit.LimitCfg.{LimitCfg}

-- a group: the limit that its members share, and the least share of one of them
pub record GroupSet : Type 0 where
  pub cfg : LimitCfg
  pub share : ℕ

pub record Settings : Type 0 where
  pub hold : ℕ  -- the hold mark, in bytes
  pub in_read : FilterKind
  pub in_write : FilterKind
  pub out_read : FilterKind
  pub out_write : FilterKind
  pub in_rate : Option LimitCfg
  pub out_rate : Option LimitCfg
  pub groups : List GroupSet
  pub in_group : Option ℕ
  pub out_group : Option ℕ
  pub in_marks : Marks
  pub out_marks : Marks
  pub in_timeouts : Timeouts
  pub out_timeouts : Timeouts
  pub links : ℕ  -- the greatest number of links
  pub hooks : List SideId  -- the sides with a hook

-- what a run is started with, and no groups and hooks
abbrev pub model_settings : code.Settings → Settings
model_settings g = record {
  hold = g.hold;
  in_read = g.in_read;
  in_write = g.in_write;
  out_read = g.out_read;
  out_write = g.out_write;
  in_rate = g.in_rate;
  out_rate = g.out_rate;
  groups = [];
  in_group = None;
  out_group = None;
  in_marks = g.in_marks;
  out_marks = g.out_marks;
  in_timeouts = g.in_timeouts;
  out_timeouts = g.out_timeouts;
  links = g.links;
  hooks = [];
}

-- the same of a run in which these sides have a hook
abbrev pub settings_with : code.Settings → List SideId → Settings
settings_with g hooks = record (model_settings g) { hooks = hooks }

-- the settings of a run of which nothing was said
abbrev pub usual : Settings
usual = model_settings code_usual

-- What a side gets of them as its link opens: its limit, its group, its marks and its timeouts.
abbrev pub rate_set : Settings → Side → Option LimitCfg
rate_set g In = g.in_rate
rate_set g Out = g.out_rate

abbrev pub group_set : Settings → Side → Option ℕ
group_set g In = g.in_group
group_set g Out = g.out_group

abbrev pub marks_set : Settings → Side → Marks
marks_set g In = g.in_marks
marks_set g Out = g.out_marks

abbrev pub timeouts_set : Settings → Side → Timeouts
timeouts_set g In = g.in_timeouts
timeouts_set g Out = g.out_timeouts

-- Ranges of settings, on which some laws rest.

-- the hold mark is not 0
pub record HoldsSome (g : Settings) : Type 0 where
  pub hold : 1 ≤ g.hold

-- No side has a hook, so that nothing is asked.
pub record HasNoHooks (g : Settings) : Type 0 where
  pub none : g.hooks ≡ []
