-- The text of a trace: a line for each entry.
use Rattle.std.specs.Prelude.{ℕ, List, [], ◌∷◌, ◌++◌, codes, true, false, Option, Some, None}
use Rattle.std.specs.Fmt.{decimal}
use Rattle.hex.specs.Hex.{encode_lower}
use Rattle.ev_types.specs.declared.answer.ConnAnswer.{ConnAnswer}
use Rattle.ev_types.specs.declared.answer.ConnAnswer.TheVariants as conn
use Rattle.ev_types.specs.declared.answer.ReadAnswer.{ReadAnswer}
use Rattle.ev_types.specs.declared.answer.ReadAnswer.TheVariants as read
use Rattle.ev_types.specs.declared.answer.WriteAnswer.{WriteAnswer}
use Rattle.ev_types.specs.declared.answer.WriteAnswer.TheVariants as write
use Rattle.ev_types.specs.declared.entry.Entry.{Entry}
use Rattle.ev_types.specs.declared.entry.Entry.TheVariants.{Turn, Poll, Want, Ready, PollFailed, Opened, Conn, Read, Write, Fired, Asked}
use Rattle.ev_types.specs.declared.entry.Entry.TheVariants.{Freed, CloseWrite, Close}
use Rattle.ev_types.specs.Trace.{Trace}
use Rattle.script_text.specs.Lines.{phrase, line_of, side_word, marks_word, why_word, cause_word}
use Rattle.script_text.specs.ActLine.{act_words, ask_word}

abbrev pub conn_word : ConnAnswer → List ℕ
conn_word conn.Connected = codes "ok"
conn_word conn.Pending = codes "wait"
conn_word conn.Failed = codes "fail"

-- what a read gave, with the bytes that it got
abbrev pub read_words : ReadAnswer → List ℕ → List (List ℕ)
read_words (read.Got count) bytes = codes "got" ∷ encode_lower bytes ∷ []
read_words read.Ended bytes = codes "end" ∷ []
read_words read.NotYet bytes = codes "notyet" ∷ []
read_words read.Failed bytes = codes "fail" ∷ []

-- What a write did, with the bytes that were taken. A write that lacked memory took nothing and leaves no entry, so no
-- trace of a run has its word; it has one of its own, so that no two entries look alike.
abbrev pub write_words : WriteAnswer → List ℕ → List (List ℕ)
write_words (write.Took count) bytes = codes "took" ∷ encode_lower bytes ∷ []
write_words write.NotYet bytes = codes "notyet" ∷ []
write_words write.Failed bytes = codes "fail" ∷ []
write_words write.NoMemory bytes = codes "nomemory" ∷ []

abbrev pub timeout_word : Option ℕ → List ℕ
timeout_word None = codes "none"
timeout_word (Some ms) = decimal ms

-- the words of an entry's line, with the bytes beside it
abbrev pub entry_words : Entry → List ℕ → List (List ℕ)
entry_words (Turn ms) bytes = codes "turn" ∷ decimal ms ∷ []
entry_words (Poll timeout) bytes = codes "poll" ∷ timeout_word timeout ∷ []
entry_words (Want end r w) bytes = codes "want" ∷ decimal end.link ∷ side_word end.side ∷ marks_word r w ∷ []
entry_words (Ready end r w) bytes = codes "ready" ∷ decimal end.link ∷ side_word end.side ∷ marks_word r w ∷ []
entry_words PollFailed bytes = codes "pollfail" ∷ []
entry_words (Opened link true) bytes = codes "open" ∷ decimal link ∷ []
entry_words (Opened link false) bytes = codes "open" ∷ decimal link ∷ codes "wait" ∷ []
entry_words (Conn end answer) bytes = codes "conn" ∷ decimal end.link ∷ side_word end.side ∷ conn_word answer ∷ []
entry_words (Read end room answer) bytes = codes "read" ∷ decimal end.link ∷ side_word end.side ∷ decimal room ∷ read_words answer bytes
entry_words (Write end offered answer) bytes = codes "write" ∷ decimal end.link ∷ side_word end.side ∷ decimal offered ∷ write_words answer bytes
entry_words (Fired end why) bytes = codes "fired" ∷ decimal end.link ∷ side_word end.side ∷ why_word why ∷ []
entry_words (Asked end act answer) bytes = codes "asked" ∷ decimal end.link ∷ side_word end.side ∷ phrase (act_words act) ∷ ask_word answer ∷ []
entry_words (Freed end cause moved given) bytes = codes "freed" ∷ decimal end.link ∷ side_word end.side ∷ cause_word cause ∷ decimal moved ∷ decimal given ∷ []
entry_words (CloseWrite end) bytes = codes "closewrite" ∷ decimal end.link ∷ side_word end.side ∷ []
entry_words (Close end) bytes = codes "close" ∷ decimal end.link ∷ side_word end.side ∷ []

-- the lines of a trace, one for each entry
abbrev pub trace_text : Trace → List ℕ
trace_text [] = []
trace_text (event ∷ more) = line_of (entry_words event.0 event.1) ++ trace_text more
