-- What is told of calls at known traces.
use Rattle.std.proofs.Common.{◌≡◌, ◌⊎◌, ℕ, ◌≤◌, ◌-◌, ◌^◌, true, false, [], ◌∷◌, Some, None, count_by, sum_by, inl, inr, refl, arith}
use Rattle.ev_types.specs.declared.entry.Entry.TheVariants as entry
use Rattle.relay_model.specs.Settings.{Settings, usual}
use Rattle.relay_model.specs.Totals.{is_read_of, is_write_of, is_check_of, room_by, offered_by, wants_read_by, wants_write_by}
use Rattle.relay_model.specs.Totals.{marks_read_by, marks_write_by, is_made_connected, is_connected, is_closed, opened, opened_in_turn}
use Rattle.relay_model.specs.Totals.{times, last_timeout, polls_that_accept}
use Rattle.ev_types.specs.Told.{Counts, PortTold}
use Rattle.relay_model.specs.Tied.{TellsReading, ClosedAfterTurn}
use Rattle.relay_model.proofs.PlayedExamples.{i, o, both_trace, failed_trace}

reads-of_in : count_by (is_read_of i) both_trace ≡ 2
reads-of_in = refl

rooms-of_in : sum_by (room_by i) both_trace ≡ 32768
rooms-of_in = refl

writes-of_out : count_by (is_write_of o) both_trace ≡ 1
writes-of_out = refl

offers-of_out : sum_by (offered_by o) both_trace ≡ 3
offers-of_out = refl

wants-read_of_in : count_by (wants_read_by i) both_trace ≡ 2
wants-read_of_in = refl

wants-write_of_in : count_by (wants_write_by i) both_trace ≡ 1
wants-write_of_in = refl

marks-read_of_out : count_by (marks_read_by o) both_trace ≡ 2
marks-read_of_out = refl

marks-write_of_out : count_by (marks_write_by o) both_trace ≡ 1
marks-write_of_out = refl

connected-as_made : is_made_connected o both_trace ≡ true
connected-as_made = refl

connected-not_yet : is_made_connected o failed_trace ≡ false
connected-not_yet = refl

connected-in_always : is_made_connected i failed_trace ≡ true
connected-in_always = refl

connected-failed_check : is_connected o failed_trace ≡ false
connected-failed_check = refl

checks-of_out : count_by (is_check_of o) failed_trace ≡ 1
checks-of_out = refl

closed-of_in : is_closed i both_trace ≡ true
closed-of_in = refl

port-times : times both_trace ≡ 0 ∷ 1 ∷ 2 ∷ 3 ∷ []
port-times = refl

port-opened : opened both_trace ≡ 1
port-opened = refl

port-opened_in_last_turn : opened_in_turn both_trace ≡ 0
port-opened_in_last_turn = refl

port-timeout : last_timeout (Some 7) ((entry.Poll (Some 1), []) ∷ both_trace) ≡ None
port-timeout = refl

-- accepting is asked until no more links may be opened
port-polls_that_accept : polls_that_accept 1 0 both_trace ≡ 1
port-polls_that_accept = refl

port-polls_that_all_accept : polls_that_accept 2 0 both_trace ≡ 4
port-polls_that_all_accept = refl

-- a number that comes to its end need not be told on
number-told : Counts (Some 3) (Some 5) 2
number-told = λ fits. refl

number-at_its_end : Counts (Some (2 ^ 64 - 3)) None 2
number-at_its_end = λ fits. absurd (omega (arith, fits))

-- the clock may fall, and the time of a turn does not
reading-falls : TellsReading (Some 0) (Some 4) (7 ∷ 7 ∷ [])
reading-falls = refl

reading-first : TellsReading (Some 9) (Some 4) (4 ∷ [])
reading-first = refl

reading-as_before : TellsReading (Some 9) (Some 9) []
reading-as_before = refl

reading-cut : TellsReading (Some 0) (Some (2 ^ 63)) (1 ∷ 2 ^ 62 ∷ [])
reading-cut = refl

reading-passes : TellsReading (Some 0) (Some 8) (7 ∷ 7 ∷ []) → ⊥
reading-passes told = omega (arith, told)

-- Accepting is not left open behind a turn that opened one link of two.
abbrev left_open : PortTold
left_open = record {
  accept_polls = None;
  timeout = None;
  links = None;
  accepting = Some true;
  readings = None;
  reading = None;
  started = None;
}

abbrev links_at_most : ℕ → Settings
links_at_most n = record usual { links = n }

accepting-left_open : ClosedAfterTurn (links_at_most 2) left_open both_trace → ⊥
accepting-left_open told = few (told refl)
  where
    few : (opened_in_turn both_trace ≡ 64) ⊎ (2 ≤ opened both_trace) → ⊥
    few (inl h) = omega (arith, h)
    few (inr h) = omega (arith, h)

accepting-of_one : ClosedAfterTurn (links_at_most 1) left_open both_trace
accepting-of_one = λ open_still. inr (omega arith)
