-- The definitions of closing turns and of work at known values.
use Rattle.std.specs.Prelude.{◌≡◌, ℕ, true, false, List, [], ◌∷◌, ◌++◌, refl}
use Rattle.std.specs.List.{list_any}
use Rattle.ev_types.specs.declared.side.Side.TheVariants.{In, Out}
use Rattle.ev_types.specs.declared.side.SideId.{SideId}
use Rattle.ev_types.specs.declared.filter.FilterKind.TheVariants as kind
use Rattle.ev_types.specs.declared.answer.ConnAnswer.TheVariants as conn
use Rattle.ev_types.specs.declared.answer.ReadAnswer.TheVariants as read
use Rattle.ev_types.specs.declared.answer.WriteAnswer.TheVariants as write
use Rattle.ev_types.specs.declared.entry.Entry.TheVariants as entry
use Rattle.ev_types.specs.declared.turn_line.TurnLine.TheVariants as line
use Rattle.ev_types.specs.ScriptTurn.{ScriptTurn}
use Rattle.ev_types.specs.Trace.{Trace}
use Rattle.filter_model.specs.Filter.{filter_of}
use Rattle.relay_model.specs.Flow.{no_flow}
use Rattle.relay_model.specs.Settings.{usual}
use Rattle.relay_model.specs.Plain.{Plain, nothing_yet, with_link, freed}
use Rattle.relay_model.specs.OpenLinks.{open_link_count}
use Rattle.relay_model.specs.MovingOn.{moves_on}
use Rattle.relay_model.specs.Work.{weight, moves_on_in}
use Rattle.relay_model.specs.ClosingTurns.{unread_count, most_closing_turns, makes_one_more, scripted_links}

abbrev i : SideId
i = record { link = 0; side = In }

abbrev o : SideId
o = record { link = 0; side = Out }

abbrev hi : List ℕ
hi = 104 ∷ 105 ∷ []

-- One link, two bytes of In, and both ends. Its first turn was begun, and then its link was opened.
abbrev script : List ScriptTurn
script = (0, line.NewLink false ∷ []) ∷ (1, line.Pending i hi ∷ line.Eof i ∷ line.Eof o ∷ []) ∷ []

abbrev begins : Trace
begins = (entry.Turn 0, []) ∷ []

abbrev opens : Trace
opens = begins ++ (entry.Opened 0 true, []) ∷ []

abbrev linked : Plain
linked = with_link usual true nothing_yet

links-told : scripted_links script ≡ false ∷ []
links-told = refl

unread-all : unread_count script [] ≡ 2
unread-all = refl

unread-some : unread_count script ((entry.Read i 1 (read.Got 1), 104 ∷ []) ∷ []) ≡ 1
unread-some = refl

-- a link counts 24 while it waits and while it is open
most-waits : most_closing_turns script usual begins nothing_yet ≡ 48
most-waits = refl

most-open : most_closing_turns script usual opens linked ≡ 48
most-open = refl

-- four for what is left where nothing is, and eight for each byte that was read and waits
most-gone : most_closing_turns script usual (opens ++ (entry.Read i 2 (read.Got 2), hi) ∷ []) (freed o (freed i linked)) ≡ 4
most-gone = refl

most-buffered : most_closing_turns script usual (opens ++ (entry.Read i 2 (read.Got 2), hi) ∷ []) linked ≡ 44
most-buffered = refl

-- a link is open while a side of it lives
open-both : open_link_count linked ≡ 1
open-both = refl

open-one : open_link_count (freed i linked) ≡ 1
open-one = refl

open-none : open_link_count (freed o (freed i linked)) ≡ 0
open-none = refl

makes-one_more : makes_one_more script 48 opens linked ≡ true
makes-one_more = refl

makes-none_left : makes_one_more script 0 opens linked ≡ false
makes-none_left = refl

makes-none_open : makes_one_more script 48 opens (freed o (freed i linked)) ≡ false
makes-none_open = refl

-- two bytes of the raw input weigh eight, those of the input four, and the two filters three
weight-raw : weight (filter_of kind.None) (filter_of kind.None) hi no_flow ≡ 11
weight-raw = refl

weight-used : weight (filter_of kind.None) (filter_of kind.None) hi (record no_flow { used = 2 }) ≡ 7
weight-used = refl

weight-given : weight (filter_of kind.None) (filter_of kind.None) hi
    (record { used = 2; moved = 2; turned = 2; given = 2; read_done = true; write_done = true; held = false }) ≡ 0
weight-given = refl

-- the end that is read is that of the source, and the one that takes is the peer's
moves-read : moves_on_in i (entry.Read i 2 (read.Got 2), hi) ≡ true
moves-read = refl

moves-taken : moves_on_in i (entry.Write o 2 (write.Took 2), hi) ≡ true
moves-taken = refl

moves-not_other : moves_on_in i (entry.Write i 2 (write.Took 2), hi) ≡ false
moves-not_other = refl

moves-connected : list_any moves_on ((entry.Conn o conn.Pending, []) ∷ (entry.Conn o conn.Connected, []) ∷ []) ≡ true
moves-connected = refl

moves-not : list_any moves_on
    ((entry.Conn o conn.Pending, []) ∷ (entry.Read i 2 read.NotYet, []) ∷ (entry.Write o 2 write.NotYet, []) ∷ []) ≡ false
moves-not = refl
