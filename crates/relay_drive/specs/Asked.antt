-- Of which link an ask changes what passing, closing and the table of wants look at.
use Rattle.std.specs.Prelude.{◌≡◌, ◌≢◌, ℕ, ◌<◌, false, Option, Some, None}
use Rattle.std.specs.List.{All}
use Rattle.ev_types.specs.declared.act.Act.{Act}
use Rattle.ev_types.specs.declared.act.Act.TheVariants as act
use Rattle.ev_types.specs.declared.answer.AskAnswer.TheVariants as ask
use Rattle.ev_types.specs.declared.entry.Entry.{Entry}
use Rattle.ev_types.specs.declared.entry.Entry.TheVariants as entry
use Rattle.ev_types.specs.Trace.{Event, Trace}
use Rattle.number_set.specs.Numbers.{NumberSetValue}
use Rattle.relay_drive.specs.declared.agenda.Agenda.{Agenda}

-- The link of the side that an ask names, where it may change something of that. A timer belongs to no link, nor does a reason that
-- becomes due.
abbrev pub link_changed : Act → Option ℕ
link_changed (act.Free e) = Some e.link
link_changed (act.Enable e d) = Some e.link
link_changed (act.Disable e d) = Some e.link
link_changed (act.Marks e d low high) = Some e.link
link_changed (act.Timeouts e r w) = Some e.link
link_changed (act.Rate e cfg) = Some e.link
link_changed (act.Join e n) = Some e.link
link_changed (act.Leave e) = Some e.link
link_changed (act.Incref e) = Some e.link
link_changed (act.Decref e) = Some e.link
link_changed _ = None

-- the link that an entry changes by what was asked: only an ask that was done does
abbrev pub link_changed_by : Entry → Option ℕ
link_changed_by (entry.Asked me a ask.Ok) = link_changed a
link_changed_by _ = None

abbrev pub IsAskedElsewhere : ℕ → Event → Type 0
IsAskedElsewhere k x = link_changed_by x.0 ≢ Some k

-- What a set says that was changed for these entries: a link that is not in it was not, and none of the entries changes it.
abbrev pub LeavesOut : Trace → ℕ → NumberSetValue → NumberSetValue → Type 0
LeavesOut log opened old new = (k : ℕ) → k < opened → new.has k ≡ false → (old.has k ≡ false) × All (IsAskedElsewhere k) log

-- Each link that these entries change is in all sets, and of no other one they say less.
pub record TouchedAsked (log : Trace) (opened : ℕ) (old new : Agenda) : Type 0 where
  pub pass_len : new.to_pass.len ≡ old.to_pass.len
  pub close_len : new.to_close.len ≡ old.to_close.len
  pub want_len : new.to_name.len ≡ old.to_name.len
  pub live_len : new.maybe_open.len ≡ old.maybe_open.len
  pub to_pass : LeavesOut log opened old.to_pass new.to_pass
  pub to_close : LeavesOut log opened old.to_close new.to_close
  pub to_name : LeavesOut log opened old.to_name new.to_name
  pub maybe_open : LeavesOut log opened old.maybe_open new.maybe_open
