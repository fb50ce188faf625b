-- The definitions at a few worked values, so that a wrong rule in them does not check.
use Rattle.std.proofs.Common.{◌≡◌, ℕ, List, [], ◌∷◌, ◌++◌, true, false, refl, None, Some, Ok, Err, codes}
use Rattle.hex.specs.Hex.{decode_pairs}
use Rattle.ev_types.specs.declared.filter.FilterKind.TheVariants as kind
use Rattle.ev_types.specs.declared.side.Side.TheVariants.{In, Out}
use Rattle.ev_types.specs.declared.side.SideId.{SideId}
use Rattle.ev_types.specs.declared.turn_line.TurnLine.TheVariants.{NewLink, Conn, Pending, Eof, ReadFail, Take, WriteFail, Spur, PollFail}
use Rattle.ev_types.specs.Usual.{no_marks, no_timeouts, usual}
use Rattle.script_text.specs.Given.{no_members}
use Rattle.script_text.specs.Pieces.{lines, words}
use Rattle.script_text.specs.Numbers.{number_within}
use Rattle.script_text.specs.Spelled.{script_of}
use Rattle.script_text.specs.TraceSpelled.{trace_of}
use Rattle.ev_types.specs.declared.act.Act.TheVariants.{Rate}
use Rattle.ev_types.specs.declared.answer.ReadAnswer.TheVariants.{Got}
use Rattle.ev_types.specs.declared.answer.AskAnswer.TheVariants as answer
use Rattle.ev_types.specs.declared.entry.Entry.TheVariants as entry

-- lines, each with its LF
abbrev text : List (List ℕ) → List ℕ
text [] = []
text (line ∷ more) = line ++ 10 ∷ text more

abbrev in_end : SideId
in_end = record { link = 0; side = In }

abbrev out_end : SideId
out_end = record { link = 0; side = Out }

pub known_pieces : (lines (codes "a" ++ 10 ∷ 10 ∷ codes "b") ≡ codes "a" ∷ [] ∷ codes "b" ∷ []) × (lines (10 ∷ []) ≡ [] ∷ [])
    × (lines [] ≡ []) × (words (codes "  at  5 ") ≡ codes "at" ∷ codes "5" ∷ [])
known_pieces = (refl, refl, refl, refl)

pub known_numbers : (number_within 9 (codes "0") ≡ Some 0) × (number_within 99 (codes "90") ≡ Some 90)
    × (number_within 89 (codes "90") ≡ None) × (number_within 99 (codes "09") ≡ None) × (number_within 99 (codes "+9") ≡ None)
    × (number_within 99 [] ≡ None)
known_numbers = (refl, refl, refl, refl, refl, refl)

pub known_script : script_of
    (text (codes "# two turns" ∷ codes "at 5" ∷ codes "open" ∷ codes "w 0 out all" ∷ [] ∷ codes "r 0 in 61fF" ∷ codes "at 3" ∷ codes
    "eof 0 in" ∷ []))
    ≡ Ok (record {
      settings = usual;
      members = no_members;
      groups = [];
      plans = [];
      turns = (5, NewLink false ∷ Take out_end None ∷ Pending in_end (97 ∷ 255 ∷ []) ∷ []) ∷ (3, Eof in_end ∷ []) ∷ [];
    })
unfolding decode_pairs
known_script = refl

pub known_faults : script_of
    (text (codes "at 0" ∷ codes "open wait" ∷ codes "conn 0 fail" ∷ codes "conn 0 ok" ∷ codes "rfail 0 out" ∷ codes "w 0 in 7" ∷ codes
    "wfail 0 in" ∷ codes "spur 0 out" ∷ codes "pollfail" ∷ []))
    ≡ Ok (record {
      settings = usual;
      members = no_members;
      groups = [];
      plans = [];
      turns = (
        0,
        NewLink true ∷ Conn 0 false ∷ Conn 0 true ∷ ReadFail out_end ∷ Take in_end
            (Some 7) ∷ WriteFail in_end ∷ Spur out_end ∷ PollFail ∷ [],
      ) ∷ [];
    })
known_faults = refl

-- settings before the turns, in any order
pub known_settings : script_of
    (text (codes "# started with" ∷ codes "set marks out 0 1 2 16777216" ∷ [] ∷ codes "set hold 1" ∷ codes
    "set out-write to-crlf" ∷ codes "set timeouts in 0 1099511627776" ∷ codes "set in-read hex-in" ∷ codes "at 5" ∷ []))
    ≡ Ok (record {
      settings = record {
        hold = 1;
        in_read = kind.HexIn;
        in_write = kind.None;
        out_read = kind.None;
        out_write = kind.ToCrlf;
        in_rate = None;
        out_rate = None;
        in_marks = no_marks;
        out_marks = record { read_low = 0; read_high = 1; write_low = 2; write_high = 16777216 };
        in_timeouts = record { read_ms = 0; write_ms = 1099511627776 };
        out_timeouts = no_timeouts;
        links = 256;
      };
      members = no_members;
      groups = [];
      plans = [];
      turns = (5, []) ∷ [];
    })
known_settings = refl

-- a setting that is given again, and one behind a turn; a mark of 0 bytes, and one that is too high; a timeout that is too long; three
-- marks; a name that is none; no name; a filter that is given again, one behind a turn, one that is none, no filter, and two
pub known_bad_settings : (script_of (text (codes "set hold 5" ∷ [] ∷ codes "set hold 5" ∷ [])) ≡ Err 3)
    × (script_of (text (codes "set hold 5" ∷ codes "at 0" ∷ codes "set timeouts in 5 5" ∷ [])) ≡ Err 3)
    × (script_of (text (codes "set hold 0" ∷ [])) ≡ Err 1) × (script_of (text (codes "set marks in 0 0 0 16777217" ∷ [])) ≡ Err 1)
    × (script_of (text (codes "set timeouts out 0 1099511627777" ∷ [])) ≡ Err 1)
    × (script_of (text (codes "set marks in 0 0 0" ∷ [])) ≡ Err 1) × (script_of (text (codes "set links 5" ∷ [])) ≡ Err 1)
    × (script_of (text (codes "set" ∷ [])) ≡ Err 1)
    × (script_of (text (codes "set in-read none" ∷ codes "set out-read none" ∷ codes "set in-read to-lf" ∷ [])) ≡ Err 3)
    × (script_of (text (codes "at 0" ∷ codes "set in-read none" ∷ [])) ≡ Err 2)
    × (script_of (text (codes "set in-read None" ∷ [])) ≡ Err 1) × (script_of (text (codes "set in-read" ∷ [])) ≡ Err 1)
    × (script_of (text (codes "set in-read to-lf to-lf" ∷ [])) ≡ Err 1)
known_bad_settings = (refl, refl, refl, refl, refl, refl, refl, refl, refl, refl, refl, refl, refl)

-- a line before any turn; a word that is none, behind a skipped line; a link that was not opened; a decision of a link
-- that is none to decide; bytes of an end that was ended, and of one whose reads fail
pub known_bad : (script_of (text (codes "open" ∷ [])) ≡ Err 1) × (script_of (text (codes "at 5" ∷ [] ∷ codes "x" ∷ [])) ≡ Err 3)
    × (script_of (text (codes "at 5" ∷ codes "open" ∷ codes "spur 1 in" ∷ [])) ≡ Err 3)
    × (script_of (text (codes "at 5" ∷ codes "open wait" ∷ codes "open" ∷ codes "conn 1 ok" ∷ [])) ≡ Err 4)
    × (script_of (text (codes "at 5" ∷ codes "open" ∷ codes "eof 0 in" ∷ codes "r 0 in 61" ∷ [])) ≡ Err 4)
    × (script_of (text (codes "at 5" ∷ codes "open" ∷ codes "rfail 0 out" ∷ codes "r 0 in 61" ∷ codes "r 0 out 61" ∷ [])) ≡ Err 5)
unfolding decode_pairs
known_bad = (refl, refl, refl, refl, refl, refl)

pub known_trace : trace_of (text (codes "turn 5" ∷ codes "read  0 in 9 got 61ff" ∷ codes "asked 0 in rate 0 out none ok" ∷ []))
    ≡ Ok ((entry.Turn 5, []) ∷ (entry.Read in_end 9 (Got 2), 97 ∷ 255 ∷ []) ∷ (entry.Asked in_end (Rate out_end None) answer.Ok, []) ∷ [])
unfolding decode_pairs
known_trace = refl

-- an empty line; a capital digit; an In end that is connected; a limit with a rate of 0; the answer alone
pub known_bad_trace : (trace_of (text (codes "turn 5" ∷ [] ∷ codes "turn" ∷ [])) ≡ Err 2)
    × (trace_of (text (codes "write 0 in 9 took 6A" ∷ [])) ≡ Err 1)
    × (trace_of (text (codes "conn 0 in ok" ∷ [])) ≡ Err 1) × (trace_of (text (codes "asked 0 in rate 0 out 0 2 3 4 5 ok" ∷ [])) ≡ Err 1)
    × (trace_of (text (codes "asked 0 in ok" ∷ [])) ≡ Err 1)
unfolding decode_pairs
known_bad_trace = (refl, refl, refl, refl, refl)
