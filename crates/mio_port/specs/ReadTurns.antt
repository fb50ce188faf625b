-- Bulky ends are read in turns: whose turn it is, for how long, and what a poll of a table marks by it.
use Rattle.std.specs.Prelude.{◌≡◌, ◌⊎◌, ⊤, ℕ, ◌+◌, ◌-◌, ◌*◌, ◌%◌, ◌<◌, ◌==◌, nat_lt, length, Bool, true, false, ◌&&◌, ◌||◌}
use Rattle.std.specs.Prelude.{not, if◌then◌else◌, List, [], map, filter, Option, None, Some, slice_index_or}
use Rattle.std.specs.List.{list_any}
use Rattle.ev_types.specs.Sides.{number}
use Rattle.number_set.specs.Next.{IsLeast}
use Rattle.number_set.specs.Numbers.{NumberSetValue}
use Rattle.ev_port.specs.declared.port.Polled.{Polled}
use Rattle.ev_port.specs.declared.port.Polled.TheVariants as polled
use Rattle.ev_port.specs.declared.port.Want.{Want}
use Rattle.ev_port.specs.Table.{WantsValue, is_marked, named}
use Rattle.mio_port.specs.declared.end.End.{End}
use Rattle.mio_port.specs.declared.turn.Turn.{Turn}
use Rattle.mio_port.specs.EndPlaces.{is_prompt, is_bulky, is_write_ready, came_short, can_write, wants_ready}

-- Whose turn it is

-- an end takes turns while it is wanted for reading, ready for that, and bulky
abbrev pub takes_turns : WantsValue → List (Option End) → ℕ → Bool
takes_turns t ends n = t.reads n && is_bulky (slice_index_or ends n None)

-- the same by the numbers of the bulky ends that are ready
abbrev pub in_turn : WantsValue → NumberSetValue → ℕ → Bool
in_turn t bulky n = t.reads n && bulky.has n

-- the next number behind this one that takes turns, or behind the last one the first; none where no number does
abbrev pub GoesTo : (ℕ → Bool) → ℕ → Option ℕ → Type 0
GoesTo takes who None = (n : ℕ) → takes n ≡ false
GoesTo takes who (Some n) = IsLeast takes (who + 1) n ⊎ (((k : ℕ) → who < k → takes k ≡ false) × IsLeast takes 0 n)

-- One poll more of the same turn; or the turn goes to the next, for 64 polls with this one; or nobody takes turns, and no poll is left to
-- whose turn it was.
abbrev pub TurnBy : Bool → (ℕ → Bool) → Turn → Turn → Type 0
TurnBy true takes old new = (new.who ≡ old.who) × (new.left ≡ old.left - 1)
TurnBy false takes old new =
    (GoesTo takes old.who (Some new.who) × (new.left ≡ 63)) ⊎ (GoesTo takes old.who None × ((new.who ≡ old.who) × (new.left ≡ 0)))

-- A turn before and at a poll, by who takes turns then: it stays where it is for 64 polls, or until that end takes no turns.
abbrev pub TurnWent : (ℕ → Bool) → Turn → Turn → Type 0
TurnWent takes old new = TurnBy (nat_lt 0 old.left && takes old.who) takes old new

-- What is marked

-- the other end of the link
abbrev pub other_end : ℕ → ℕ
other_end n = if n % 2 == 0 then n + 1 else n - 1

-- Whether the peer of the end whose turn it is drains, where that end is bulky: from a write that came short, through each poll at which
-- something waits for it and the turn stays.
abbrev pub drains_now : WantsValue → List (Option End) → Turn → ℕ → Bool
drains_now t ends old who =
    is_bulky (slice_index_or ends who None)
    && (t.writes (other_end who) && (came_short (slice_index_or ends (other_end who) None) || (old.peer_drains && (old.who == who))))

-- the end whose turn it is gives way to its peer while that drains, but not at the last poll of the turn
abbrev pub gives_way : Turn → Bool
gives_way turn = turn.peer_drains && nat_lt 0 turn.left

-- A ready end may be read if it isn't bulky, or if the turn is its own and it doesn't give way or its peer can't be written.
abbrev pub is_read_now : List (Option End) → Turn → ℕ → Bool
is_read_now ends turn n =
    is_prompt (slice_index_or ends n None)
    || ((n == turn.who)
    && (is_bulky (slice_index_or ends n None)
    && not (gives_way turn && is_write_ready (slice_index_or ends (other_end n) None))))

-- a want with a mark at what can be done, by the sets, as if the end with this number could be read too
abbrev pub marked_with : NumberSetValue → NumberSetValue → ℕ → Want → Want
marked_with readable writable who w = record w {
  can_read = w.read && ((number w.side == who) || readable.has (number w.side));
  can_write = w.write && writable.has (number w.side);
}

abbrev pub marked_in_turn : List (Option End) → Turn → Want → Want
marked_in_turn ends turn w = record w {
  can_read = w.read && is_read_now ends turn (number w.side);
  can_write = can_write ends w;
}

-- By turns it listed, with its marks, each want for a write that can be done, each for a read of a ready end that isn't bulky, and of the
-- others the one whose turn it is.
pub record ListedInTurn (ends : List (Option End)) (turn now_turn : Turn) (old new : WantsValue) : Type 0 where
  pub went : TurnWent (takes_turns old ends) turn now_turn
  pub drains : now_turn.peer_drains ≡ drains_now old ends turn now_turn.who
  pub list : new.list ≡ filter is_marked (map (marked_in_turn ends now_turn) (named old))

-- What a poll of a table listed. One that failed listed nothing and leaves the turn.
abbrev pub MarkedTable : List (Option End) → Turn → Turn → WantsValue → WantsValue → Polled → Type 0
MarkedTable ends turn now_turn old new (polled.Ready accept) = ListedInTurn ends turn now_turn old new
MarkedTable ends turn now_turn old new polled.Failed = (now_turn ≡ turn) × (new.list ≡ [])

-- where something that is wanted can be done, something is marked
abbrev pub SomeMarked : List (Option End) → WantsValue → WantsValue → Polled → Type 0
SomeMarked ends old new (polled.Ready accept) = list_any (wants_ready ends) (named old) ≡ true → 0 < length new.list
SomeMarked ends old new polled.Failed = ⊤

-- Nobody is passed over for ever. Through some polls, at which others may come and go, an end takes turns and is never marked; each end
-- that takes turns has a number below that of the sides. Then the polls are fewer than 64 for each side, and 64.
pub record PassedOver (tables : ℕ → WantsValue) (ends : ℕ → List (Option End)) (turns : ℕ → Turn) (sides end polls : ℕ) : Type 0 where
  pub went : (k : ℕ) → k < polls → TurnWent (takes_turns (tables k) (ends k)) (turns k) (turns (k + 1))
  pub waits : (k : ℕ) → k < polls → takes_turns (tables k) (ends k) end ≡ true
  pub passed : (k : ℕ) → k < polls → is_read_now (ends k) (turns (k + 1)) end ≡ false
  pub few : (k n : ℕ) → k < polls → takes_turns (tables k) (ends k) n ≡ true → n < sides
  pub first : (turns 0).who < sides
  pub short : (turns 0).left < 64

abbrev pub EachIsReadInTime : Type 0
EachIsReadInTime = (tables : ℕ → WantsValue) (ends : ℕ → List (Option End)) (turns : ℕ → Turn) (sides end polls : ℕ)
    → PassedOver tables ends turns sides end polls → polls < 64 * sides + 64
