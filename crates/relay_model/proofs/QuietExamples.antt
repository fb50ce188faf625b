-- The words on frees, failures and quiet at known values.
use Rattle.std.specs.Prelude.{◌≡◌, true, false, [], ◌∷◌, refl}
use Rattle.std.specs.List.{list_any}
use Rattle.ev_types.specs.declared.side.Side.TheVariants.{In, Out}
use Rattle.ev_types.specs.declared.side.SideId.{SideId}
use Rattle.ev_types.specs.declared.act.Act.TheVariants as act
use Rattle.ev_types.specs.declared.answer.AskAnswer.TheVariants as ask
use Rattle.ev_types.specs.declared.answer.ReadAnswer.TheVariants as read
use Rattle.ev_types.specs.declared.why.Cause.TheVariants as cause
use Rattle.ev_types.specs.declared.why.Why.TheVariants as why
use Rattle.ev_types.specs.declared.entry.Entry.TheVariants as entry
use Rattle.ev_types.specs.Trace.{Trace}
use Rattle.relay_model.specs.Told.{is_freed, is_end_closed, has_failed}
use Rattle.relay_model.specs.Quiet.{starts_at, asked_by, behind_fire}

abbrev a : SideId
a = record { link = 0; side = In }

abbrev b : SideId
b = record { link = 0; side = Out }

-- a hook of a frees it and asks on; then the hook of b is called
abbrev rest : Trace
rest = (entry.Asked a act.Stop ask.Ok, []) ∷ (entry.Freed b cause.Hook 0 0, []) ∷ (entry.Fired b why.Read, []) ∷
    (entry.Asked a act.Stop ask.Ok, []) ∷ []

fire-ends_at_the_next : behind_fire rest ≡ (entry.Fired b why.Read, []) ∷ (entry.Asked a act.Stop ask.Ok, []) ∷ []
fire-ends_at_the_next = refl

late_ask-is_seen : list_any (asked_by a) (behind_fire rest) ≡ true
late_ask-is_seen = refl

close-is_no_start : list_any (starts_at a) ((entry.Close a, []) ∷ (entry.CloseWrite b, []) ∷ []) ≡ false
close-is_no_start = refl

second_free-is_a_start : list_any (starts_at a) ((entry.Freed a cause.Done 0 0, []) ∷ []) ≡ true
second_free-is_a_start = refl

freed-is_of_its_side : is_freed a ((entry.Freed b cause.Done 3 4, []) ∷ []) ≡ false
freed-is_of_its_side = refl

failed-read : has_failed b ((entry.Read b 9 read.Failed, []) ∷ []) ≡ true
failed-read = refl

ended-is_no_failure : has_failed b ((entry.Read b 9 read.Ended, []) ∷ []) ≡ false
ended-is_no_failure = refl

closed-write_is_not_closed : is_end_closed a ((entry.CloseWrite a, []) ∷ []) ≡ false
closed-write_is_not_closed = refl
