-- The definitions at worked values. Bytes: 10 is LF, 13 is CR, 48 to 57 are digits, 97 is a.
use Rattle.std.proofs.Common.{◌≡◌, ℕ, zero, suc, true, false, List, [], ◌∷◌, Some, None, refl, arith}
use Rattle.std.specs.Prelude.{All}
use Rattle.ev_types.specs.declared.side.SideId.{SideId}
use Rattle.ev_types.specs.declared.side.Side.TheVariants.{In, Out}
use Rattle.ev_types.specs.declared.why.Cause.TheVariants as cause
use Rattle.ev_types.specs.declared.answer.ReadAnswer.TheVariants as read_answer
use Rattle.ev_types.specs.declared.answer.WriteAnswer.TheVariants as write_answer
use Rattle.ev_types.specs.declared.entry.Entry.TheVariants as entry
use Rattle.ev_types.specs.declared.filter.FilterKind.TheVariants as kind
use Rattle.ev_types.specs.Trace.{Trace}
use Rattle.relay_model.specs.Trace.{bytes_read, bytes_given, has_ended, moved_at_free, given_at_free, is_write_closed}
use Rattle.filter_model.specs.Filter.{Filter, filter_of, holds, met}
use Rattle.filter_model.specs.FilterLaws.{more, more_at_end}
use Rattle.relay_model.specs.Flow.{Flow, no_flow, middle, output, passed_at_end, passed}
use Rattle.relay_model.specs.Conserved.{Accounted, Holds, no_buffers, left}
use Rattle.filter_model.specs.Running.{Running}

abbrev crlf : Filter
crlf = filter_of kind.ToCrlf

abbrev lf : Filter
lf = filter_of kind.ToLf

abbrev hex : Filter
hex = filter_of kind.HexOut

abbrev unhex : Filter
unhex = filter_of kind.HexIn

-- to-crlf

a_first_lf_gets_its_cr : crlf.before (10 ∷ []) ≡ 13 ∷ 10 ∷ []
a_first_lf_gets_its_cr = refl

a_crlf_stays : crlf.before (13 ∷ 10 ∷ []) ≡ 13 ∷ 10 ∷ []
a_crlf_stays = refl

a_second_lf_gets_a_cr : crlf.before (13 ∷ 10 ∷ 10 ∷ []) ≡ 13 ∷ 10 ∷ 13 ∷ 10 ∷ []
a_second_lf_gets_a_cr = refl

a_lone_cr_stays : crlf.at_end (13 ∷ 97 ∷ 10 ∷ 13 ∷ []) ≡ 13 ∷ 97 ∷ 13 ∷ 10 ∷ 13 ∷ []
a_lone_cr_stays = refl

after_a_cut_the_cr_is_known : more crlf (97 ∷ 13 ∷ []) (10 ∷ []) ≡ 10 ∷ []
after_a_cut_the_cr_is_known = refl

-- to-lf

a_crlf_becomes_lf : lf.before (97 ∷ 13 ∷ 10 ∷ 97 ∷ []) ≡ 97 ∷ 10 ∷ 97 ∷ []
a_crlf_becomes_lf = refl

a_last_cr_is_held : lf.before (97 ∷ 13 ∷ []) ≡ 97 ∷ []
a_last_cr_is_held = refl

the_end_gives_the_held_cr : lf.at_end (97 ∷ 13 ∷ []) ≡ 97 ∷ 13 ∷ []
the_end_gives_the_held_cr = refl

of_two_crs_one_is_held : lf.before (13 ∷ 13 ∷ []) ≡ 13 ∷ []
of_two_crs_one_is_held = refl

a_cr_before_another_byte_stays : lf.before (13 ∷ 97 ∷ []) ≡ 13 ∷ 97 ∷ []
a_cr_before_another_byte_stays = refl

two_crs_and_an_lf : lf.before (13 ∷ 13 ∷ 10 ∷ []) ≡ 13 ∷ 10 ∷ []
two_crs_and_an_lf = refl

a_held_cr_outlives_a_cut : more lf (97 ∷ 13 ∷ []) (97 ∷ []) ≡ 13 ∷ 97 ∷ []
a_held_cr_outlives_a_cut = refl

a_held_cr_goes_before_lf : more lf (97 ∷ 13 ∷ []) (10 ∷ []) ≡ 10 ∷ []
a_held_cr_goes_before_lf = refl

to_lf_holds_a_cr : holds lf (97 ∷ 13 ∷ []) ≡ true
to_lf_holds_a_cr = refl

to_lf_holds_nothing_else : holds lf (13 ∷ 10 ∷ []) ≡ false
to_lf_holds_nothing_else = refl

-- hex-out

the_greatest_byte_in_digits : hex.before (255 ∷ 0 ∷ 10 ∷ []) ≡ 102 ∷ 102 ∷ 48 ∷ 48 ∷ 48 ∷ 97 ∷ []
the_greatest_byte_in_digits = refl

hex_out_ends_with_nothing_more : more_at_end hex (255 ∷ []) [] ≡ []
hex_out_ends_with_nothing_more = refl

-- hex-in

digits_of_either_case : unhex.before (102 ∷ 70 ∷ 48 ∷ 97 ∷ []) ≡ 255 ∷ 10 ∷ []
digits_of_either_case = refl

an_odd_digit_is_held : unhex.before (54 ∷ 49 ∷ 54 ∷ []) ≡ 97 ∷ []
an_odd_digit_is_held = refl

an_odd_digit_is_held_indeed : holds unhex (54 ∷ 49 ∷ 54 ∷ []) ≡ true
an_odd_digit_is_held_indeed = refl

an_even_count_holds_nothing : holds unhex (54 ∷ 49 ∷ []) ≡ false
an_even_count_holds_nothing = refl

an_odd_digit_is_good_before_the_end : unhex.bad (54 ∷ 49 ∷ 54 ∷ []) ≡ None
an_odd_digit_is_good_before_the_end = refl

an_odd_digit_at_the_end_is_bad_at_the_length : unhex.bad_at_end (54 ∷ 49 ∷ 54 ∷ []) ≡ Some 3
an_odd_digit_at_the_end_is_bad_at_the_length = refl

a_bad_first_digit : unhex.bad (54 ∷ 49 ∷ 103 ∷ 49 ∷ []) ≡ Some 2
a_bad_first_digit = refl

a_bad_second_digit : unhex.bad (54 ∷ 49 ∷ 54 ∷ 47 ∷ 49 ∷ []) ≡ Some 3
a_bad_second_digit = refl

output_stops_before_it : unhex.at_end (54 ∷ 49 ∷ 54 ∷ 58 ∷ 54 ∷ 49 ∷ []) ≡ 97 ∷ []
output_stops_before_it = refl

the_first_bad_place_stands_before_a_bad_end : unhex.bad_at_end (71 ∷ 49 ∷ 54 ∷ []) ≡ Some 0
the_first_bad_place_stands_before_a_bad_end = refl

bytes_beside_the_digits : unhex.bad (64 ∷ []) ≡ Some 0
bytes_beside_the_digits = refl

the_second_digit_comes_after_a_cut : more unhex (54 ∷ 49 ∷ 54 ∷ []) (50 ∷ 51 ∷ []) ≡ 98 ∷ []
the_second_digit_comes_after_a_cut = refl

-- places that are met

a_bad_next_byte_is_met : met unhex (54 ∷ 49 ∷ 103 ∷ []) 2 false true ≡ Some 2
a_bad_next_byte_is_met = refl

without_room_nothing_is_met : met unhex (54 ∷ 49 ∷ 103 ∷ []) 2 false false ≡ None
without_room_nothing_is_met = refl

a_bad_byte_further_on_is_not_met : met unhex (54 ∷ 49 ∷ 103 ∷ []) 1 false true ≡ None
a_bad_byte_further_on_is_not_met = refl

a_bad_end_is_met : met unhex (54 ∷ []) 1 true true ≡ Some 1
a_bad_end_is_met = refl

no_bad_end_is_met_before_the_end : met unhex (54 ∷ []) 1 false true ≡ None
no_bad_end_is_met_before_the_end = refl

-- a trace: four bytes are read from In, two are taken by Out in two writes, In ends and is freed

abbrev side_in : SideId
side_in = record { link = 0; side = In }

abbrev side_out : SideId
side_out = record { link = 0; side = Out }

abbrev run : Trace
run =
    (entry.Read side_in 16384 (read_answer.Got 3), 97 ∷ 13 ∷ 10 ∷ [])
    ∷ (entry.Read side_out 16384 read_answer.NotYet, [])
    ∷ (entry.Write side_out 2 (write_answer.Took 1), 97 ∷ [])
    ∷ (entry.Read side_in 16384 (read_answer.Got 1), 98 ∷ [])
    ∷ (entry.Write side_out 2 (write_answer.Took 1), 10 ∷ [])
    ∷ (entry.Read side_in 16384 read_answer.Ended, [])
    ∷ (entry.Freed side_in cause.Hook 3 0, [])
    ∷ (entry.CloseWrite side_in, [])
    ∷ []

what_in_read : bytes_read side_in run ≡ 97 ∷ 13 ∷ 10 ∷ 98 ∷ []
what_in_read = refl

out_read_nothing : bytes_read side_out run ≡ []
out_read_nothing = refl

what_out_took : bytes_given side_out run ≡ 97 ∷ 10 ∷ []
what_out_took = refl

in_has_ended : has_ended side_in run ≡ true
in_has_ended = refl

out_has_not_ended : has_ended side_out run ≡ false
out_has_not_ended = refl

the_free_told_what_was_moved : moved_at_free side_in run ≡ 3 ∷ []
the_free_told_what_was_moved = refl

the_free_told_what_was_given : given_at_free side_in run ≡ 0 ∷ []
the_free_told_what_was_given = refl

out_was_not_freed : moved_at_free side_out run ≡ []
out_was_not_freed = refl

writing_was_ended_at_in : is_write_closed side_in run ≡ true
writing_was_ended_at_in = refl

-- a direction: to-lf reads, to-crlf writes; CR LF and b are used, of LF and b the LF was moved, and one byte of CR LF given

abbrev half_way : Flow
half_way = record no_flow { used = 3; moved = 1; turned = 1; given = 1 }

abbrev came_in : List ℕ
came_in = 13 ∷ 10 ∷ 98 ∷ 13 ∷ []

the_four_buffers : left lf crlf came_in true true half_way
    ≡ record { raw_input = 13 ∷ []; input = 98 ∷ []; output = []; raw_output = 10 ∷ [] }
the_four_buffers = refl

the_buffers_after_the_side_was_freed : left lf crlf came_in false true half_way
    ≡ record { raw_input = []; input = []; output = []; raw_output = 10 ∷ [] }
the_buffers_after_the_side_was_freed = refl

moved_and_not_used : output lf came_in (record half_way { moved = 2 }) ≡ 98 ∷ []
moved_and_not_used = refl

before_the_end : passed lf crlf false came_in ≡ 13 ∷ 10 ∷ 98 ∷ []
before_the_end = refl

at_the_end : passed lf crlf true came_in ≡ 13 ∷ 10 ∷ 98 ∷ 13 ∷ []
at_the_end = refl

the_end_of_a_finished_read_filter : middle lf came_in (record half_way { used = 4; read_done = true }) ≡ 10 ∷ 98 ∷ 13 ∷ []
the_end_of_a_finished_read_filter = refl

a_bad_end_adds_no_end : passed_at_end unhex lf (48 ∷ 100 ∷ 48 ∷ []) ≡ []
a_bad_end_adds_no_end = refl

a_good_end_adds_both : passed_at_end unhex lf (48 ∷ 100 ∷ []) ≡ 13 ∷ []
a_good_end_adds_both = refl

-- the run above is accounted for: In's filter is to-lf and Out's none, all bytes of In were used and moved before its free

abbrev plainly : Filter
plainly = filter_of kind.None

abbrev after_run : Flow
after_run = record no_flow { used = 4; moved = 3; turned = 3; given = 2 }

one_number : (n : ℕ) → All (λ told. told ≡ n) (n ∷ [])
one_number n zero d lt = refl
one_number n (suc k) d lt = absurd (omega arith)

the_run_is_accounted_for : Accounted lf plainly run side_in (97 ∷ 13 ∷ 10 ∷ 98 ∷ []) (97 ∷ 10 ∷ []) true after_run
the_run_is_accounted_for = record {
  fits = record {
    used = omega arith;
    moved = omega arith;
    turned = omega arith;
    given = omega arith;
    read_done = λ done. absurd (cc);
    write_done = λ done. absurd (cc);
  };
  given = refl;
  side_freed = one_number 3;
  peer_freed = λ k d lt. absurd (omega arith);
  closed = λ closed. absurd (cc);
}

abbrev writer : Running
writer = record { kind = kind.None; since = 0; used = 3; last = Some 98; finished = false; stopped = None }

abbrev reader : Running
reader = record { kind = kind.ToLf; since = 0; used = 4; last = Some 98; finished = false; stopped = None }

what_is_left_is_held : Holds kind.ToLf kind.None lf plainly (97 ∷ 13 ∷ 10 ∷ 98 ∷ []) true false true after_run
    (record no_buffers { raw_output = 98 ∷ [] }) reader writer
what_is_left_is_held = record {
  buffers = refl;
  reads = λ live. absurd (cc);
  writes = λ live. (record {
    kind = refl;
    since = refl;
    begun = omega arith;
    used = refl;
    good = refl;
    last = refl;
    finished =
        refl;
    stopped = tt;
  });
}
