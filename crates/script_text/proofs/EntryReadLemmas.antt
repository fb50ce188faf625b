-- An entry is what its line says.
use Rattle.std.proofs.Common.{◌≡◌, ◌<◌, ◌^◌, ◌||◌, ℕ, true, false, Bool, List, [], ◌∷◌, ◌++◌, length, take, get_or, refl, ap, sym, ◌∙◌}
use Rattle.std.proofs.Common.{arith, codes, Option, Some, None, length-append}
use Rattle.std.specs.Prelude.{option_map, option_and_then}
use Rattle.std.specs.Fmt.{decimal}
use Rattle.std.specs.Str.{bytes_eq, all_ascii_digits}
use Rattle.std.proofs.lemmas.Bool.{false≢true}
use Rattle.std.proofs.lemmas.Slice.Eq.{bytes_eq-Decides}
use Rattle.std.proofs.lemmas.Fmt.{digits_decimal}
use Rattle.std.proofs.Math.Seq.{take-append_seam}
use Rattle.hex.specs.Hex.{encode_lower}
use Rattle.ev_types.specs.declared.side.Side.{Side}
use Rattle.ev_types.specs.declared.side.Side.TheVariants as side
use Rattle.ev_types.specs.declared.side.SideId.{SideId}
use Rattle.ev_types.specs.declared.answer.ConnAnswer.{ConnAnswer}
use Rattle.ev_types.specs.declared.answer.AskAnswer.{AskAnswer}
use Rattle.ev_types.specs.declared.act.Act.{Act}
use Rattle.ev_types.specs.declared.answer.ReadAnswer.TheVariants as read
use Rattle.ev_types.specs.declared.answer.WriteAnswer.TheVariants as write
use Rattle.ev_types.specs.declared.entry.Entry.{Entry}
use Rattle.ev_types.specs.declared.entry.Entry.TheVariants.{Turn, Poll, Want, Ready, PollFailed, Opened, Conn, Read, Write, Fired, Asked}
use Rattle.ev_types.specs.declared.entry.Entry.TheVariants.{Freed, CloseWrite, Close}
use Rattle.ev_types.specs.Trace.{Event}
use Rattle.script_text.specs.Lines.{side_word, marks_word, why_word, cause_word}
use Rattle.script_text.specs.ActLine.{act_words, ask_word}
use Rattle.script_text.specs.TraceText.{conn_word, entry_words}
use Rattle.script_text.specs.Numbers.{any_number}
use Rattle.script_text.specs.ValueGrammar.{why_of, cause_of, ask_of}
use Rattle.script_text.specs.ActGrammar.{act_of}
use Rattle.script_text.proofs.LawLemmas.{numerals}
use Rattle.ev_types.specs.declared.why.Why.{Why}
use Rattle.ev_types.specs.declared.why.Cause.{Cause}
use Rattle.script_text.specs.EntryGrammar.{event_said, asked_by, last_and_front, end_and_number_of}
use Rattle.script_text.specs.TraceLaws.{IsWide, IsEnd, IsOut, IsWhy, IsCause, IsAct, IsEntry, StandBeside, AreBytes}
use Rattle.script_text.proofs.ValueReadLemmas.{any_number-decimal, link_of-decimal, end_of-words, marks_of-word, conn_of-word, ask_of-word}
use Rattle.script_text.proofs.ValueReadLemmas.{why_of-word, cause_of-word, lower_bytes_of-encode_lower}
use Rattle.script_text.proofs.ActReadLemmas.{act_of-words}

-- the words of an entry's line, with those of an ask one by one
abbrev pub flat_words : Entry → List ℕ → List (List ℕ)
flat_words (Asked end act answer) bytes = codes "asked" ∷ decimal end.link ∷ side_word end.side ∷ act_words act ++ ask_word answer ∷ []
flat_words entry bytes = entry_words entry bytes

-- ---- an ask and its answer

last-pushed : (ws : List (List ℕ)) (w d : List ℕ) → get_or (ws ++ w ∷ []) (length ws) d ≡ w
last-pushed [] w d = refl
last-pushed (v ∷ vs) w d = last-pushed vs w d

last_and_front-pushed : (ws : List (List ℕ)) (w : List ℕ) → last_and_front (ws ++ w ∷ []) ≡ Some (w, ws)
last_and_front-pushed [] w = refl
last_and_front-pushed (v ∷ vs) w =
    let long : length (vs ++ w ∷ []) ≡ length (v ∷ vs) = length-append vs (w ∷ []) ∙ omega arith in
    let both : ℕ → Option (List ℕ × List (List ℕ)) = λ n. Some (get_or (v ∷ vs ++ w ∷ []) n v, take n (v ∷ vs ++ w ∷ [])) in
    ap both long
    ∙ ap (λ (last : List ℕ). Some (last, take (length (v ∷ vs)) (v ∷ vs ++ w ∷ []))) (last-pushed (v ∷ vs) w v)
    ∙ ap (λ (front : List (List ℕ)). Some (w, front)) (take-append_seam (v ∷ vs) (w ∷ []))

asked_by-words : (end : SideId) (a : Act) (answer : AskAnswer) (words : List (List ℕ)) → act_of words ≡ Some a →
    asked_by end (words ++ ask_word answer ∷ []) ≡ Some (Asked end a answer)
asked_by-words end a answer words says =
    let then : Option (List ℕ × List (List ℕ)) → Option Entry =
    λ o. option_and_then (λ w. option_and_then (λ b. option_and_then (λ c. Some (Asked end b c)) (ask_of w.0)) (act_of w.1)) o in
    ap then (last_and_front-pushed words (ask_word answer))
    ∙ ap (λ (o : Option Act). option_and_then (λ b. option_and_then (λ c. Some (Asked end b c)) (ask_of (ask_word answer))) o) says
    ∙ ap (λ (o : Option AskAnswer). option_and_then (λ c. Some (Asked end a c)) o) (ask_of-word answer)

-- ---- each entry

-- a number is no `none`
decimal-none : (n : ℕ) → IsWide n → bytes_eq (decimal n) (codes "none") ≡ false
decimal-none n wide = by_test (bytes_eq (decimal n) (codes "none")) refl
  where
    by_test : (b : Bool) → bytes_eq (decimal n) (codes "none") ≡ b → b ≡ false
    by_test false other = refl
    by_test true same =
        let word : decimal n ≡ codes "none" = (bytes_eq-Decides (decimal n) (codes "none")).0 same in
        let digits : all_ascii_digits (decimal n) ≡ true = digits_decimal numerals n wide in
        absurd (false≢true (ap all_ascii_digits (sym word) ∙ digits))

-- a line of a whole entry with no bytes beside it
plain : (e : Entry) (bytes : List ℕ) (o : Option Event) → o ≡ Some (e, []) → bytes ≡ [] → o ≡ Some (e, bytes)
plain e bytes o said none = said ∙ ap (λ (b : List ℕ). Some (e, b)) (sym none)

turn_read : (ms : ℕ) → IsWide ms → event_said (codes "turn" ∷ decimal ms ∷ []) ≡ Some (Turn ms, [])
turn_read ms wide = rw (any_number-decimal ms wide) refl

poll_read : (ms : ℕ) → IsWide ms → event_said (codes "poll" ∷ decimal ms ∷ []) ≡ Some (Poll (Some ms), [])
poll_read ms wide = rw (decimal-none ms wide, any_number-decimal ms wide) refl

want_read : (end : SideId) (r w : Bool) → IsEnd end → (r || w) ≡ true →
    event_said (codes "want" ∷ decimal end.link ∷ side_word end.side ∷ marks_word r w ∷ []) ≡ Some (Want end r w, [])
want_read end r w small some = rw (end_of-words end small, marks_of-word r w some) refl

ready_read : (end : SideId) (r w : Bool) → IsEnd end → (r || w) ≡ true →
    event_said (codes "ready" ∷ decimal end.link ∷ side_word end.side ∷ marks_word r w ∷ []) ≡ Some (Ready end r w, [])
ready_read end r w small some = rw (end_of-words end small, marks_of-word r w some) refl

opened_read : (link : ℕ) → link < 2 ^ 32 → event_said (codes "open" ∷ decimal link ∷ []) ≡ Some (Opened link true, [])
opened_read link small = rw (link_of-decimal link small) refl

waiting_read : (link : ℕ) → link < 2 ^ 32 → event_said (codes "open" ∷ decimal link ∷ codes "wait" ∷ []) ≡ Some (Opened link false, [])
waiting_read link small = rw (link_of-decimal link small) refl

conn_read : (link : ℕ) (s : Side) (a : ConnAnswer) → link < 2 ^ 32 → IsOut s →
    event_said (codes "conn" ∷ decimal link ∷ side_word s ∷ conn_word a ∷ []) ≡ Some (Conn (record { link = link; side = s }) a, [])
conn_read link side.In a small out = absurd out
conn_read link side.Out a small out = rw (link_of-decimal link small, conn_of-word a) refl

-- the end and the number of a read or a write
end_and_number_of-words : (end : SideId) (n : ℕ) → IsEnd end → IsWide n →
    end_and_number_of (decimal end.link) (side_word end.side) (decimal n) ≡ Some (end, n)
end_and_number_of-words end n small wide = rw (end_of-words end small, any_number-decimal n wide) refl

got_read : (end : SideId) (room n : ℕ) (bytes : List ℕ) → IsEnd end → IsWide room → AreBytes n bytes →
    event_said (codes "read" ∷ decimal end.link ∷ side_word end.side ∷ decimal room ∷ codes "got" ∷ encode_lower bytes ∷ []) ≡ Some
    (Read end room (read.Got n), bytes)
got_read end room n bytes small wide are =
    let some : 0 < length bytes = omega (arith, are.0, are.1) in
    rw (end_and_number_of-words end room small wide, lower_bytes_of-encode_lower bytes some are.2)
    (ap (λ (k : ℕ). Some (Read end room (read.Got k), bytes)) are.1)

took_read : (end : SideId) (offered n : ℕ) (bytes : List ℕ) → IsEnd end → IsWide offered → AreBytes n bytes →
    event_said (codes "write" ∷ decimal end.link ∷ side_word end.side ∷ decimal offered ∷ codes "took" ∷ encode_lower bytes ∷ []) ≡ Some
    (Write end offered (write.Took n), bytes)
took_read end offered n bytes small wide are =
    let some : 0 < length bytes = omega (arith, are.0, are.1) in
    rw (end_and_number_of-words end offered small wide, lower_bytes_of-encode_lower bytes some are.2)
    (ap (λ (k : ℕ). Some (Write end offered (write.Took k), bytes)) are.1)

fired_read : (end : SideId) (w : Why) → IsEnd end → IsWhy w →
    event_said (codes "fired" ∷ decimal end.link ∷ side_word end.side ∷ why_word w ∷ []) ≡ Some (Fired end w, [])
fired_read end w small is =
    let then : Option SideId → Option Event =
    λ o. option_map (λ e. (e, [])) (option_and_then (λ s. option_and_then (λ y. Some (Fired s y)) (why_of (why_word w))) o) in
    ap then (end_of-words end small)
    ∙ ap (λ (o : Option Why). option_map (λ e. (e, [])) (option_and_then (λ y. Some (Fired end y)) o)) (why_of-word w is)

freed_read : (end : SideId) (c : Cause) (moved given : ℕ) → IsEnd end → IsCause c → IsWide moved → IsWide given →
    event_said (codes "freed" ∷ decimal end.link ∷ side_word end.side ∷ cause_word c ∷ decimal moved ∷ decimal given ∷ []) ≡ Some
    (Freed end c moved given, [])
freed_read end c moved given small is wm wg =
    let after : SideId → Cause → Option Entry =
    λ s k. option_and_then (λ m. option_and_then (λ g. Some (Freed s k m g)) (any_number (decimal given)))
    (any_number (decimal moved)) in
    let alone : Option Entry → Option Event = λ o. option_map (λ e. (e, [])) o in
    ap (λ (o : Option SideId). alone (option_and_then (λ s. option_and_then (λ k. after s k) (cause_of (cause_word c))) o))
    (end_of-words end small)
    ∙ ap (λ (o : Option Cause). alone (option_and_then (λ k. after end k) o)) (cause_of-word c is)
    ∙ rw (any_number-decimal moved wm, any_number-decimal given wg) refl

asked_read : (end : SideId) (a : Act) (answer : AskAnswer) → IsEnd end → IsAct a →
    event_said (codes "asked" ∷ decimal end.link ∷ side_word end.side ∷ act_words a ++ ask_word answer ∷ []) ≡ Some (Asked end a answer, [])
asked_read end a answer small is =
    let alone : Option Entry → Option Event = λ o. option_map (λ e. (e, [])) o in
    ap (λ (o : Option SideId). alone (option_and_then (λ s. asked_by s (act_words a ++ ask_word answer ∷ [])) o)) (end_of-words end small)
    ∙ ap alone (asked_by-words end a answer (act_words a) (act_of-words a is))

close_write_read : (end : SideId) → IsEnd end →
    event_said (codes "closewrite" ∷ decimal end.link ∷ side_word end.side ∷ []) ≡ Some (CloseWrite end, [])
close_write_read end small = rw (end_of-words end small) refl

close_read : (end : SideId) → IsEnd end → event_said (codes "close" ∷ decimal end.link ∷ side_word end.side ∷ []) ≡ Some (Close end, [])
close_read end small = rw (end_of-words end small) refl

pub event_said-words : (e : Entry) (bytes : List ℕ) → IsEntry e → StandBeside bytes e → event_said (flat_words e bytes) ≡ Some (e, bytes)
event_said-words (Turn ms) bytes is none = plain (Turn ms) bytes (event_said (flat_words (Turn ms) bytes)) (turn_read ms is) none
event_said-words (Poll None) bytes is none = plain (Poll None) bytes (event_said (flat_words (Poll None) bytes)) refl none
event_said-words (Poll (Some ms)) bytes is none =
    plain (Poll (Some ms)) bytes (event_said (flat_words (Poll (Some ms)) bytes)) (poll_read ms is) none
event_said-words (Want end r w) bytes is none =
    plain (Want end r w) bytes (event_said (flat_words (Want end r w) bytes)) (want_read end r w is.0 is.1) none
event_said-words (Ready end r w) bytes is none =
    plain (Ready end r w) bytes (event_said (flat_words (Ready end r w) bytes)) (ready_read end r w is.0 is.1) none
event_said-words PollFailed bytes is none = plain PollFailed bytes (event_said (flat_words PollFailed bytes)) refl none
event_said-words (Opened link true) bytes is none =
    plain (Opened link true) bytes (event_said (flat_words (Opened link true) bytes)) (opened_read link is) none
event_said-words (Opened link false) bytes is none =
    plain (Opened link false) bytes (event_said (flat_words (Opened link false) bytes)) (waiting_read link is) none
event_said-words (Conn end a) bytes is none =
    plain (Conn end a) bytes (event_said (flat_words (Conn end a) bytes)) (conn_read end.link end.side a is.0 is.1) none
event_said-words (Read end room (read.Got n)) bytes is are = got_read end room n bytes is.0 is.1 are
event_said-words (Read end room read.Ended) bytes is none =
    plain (Read end room read.Ended) bytes (event_said (flat_words (Read end room read.Ended) bytes))
    (rw (end_and_number_of-words end room is.0 is.1) refl) none
event_said-words (Read end room read.NotYet) bytes is none =
    plain (Read end room read.NotYet) bytes (event_said (flat_words (Read end room read.NotYet) bytes))
    (rw (end_and_number_of-words end room is.0 is.1) refl) none
event_said-words (Read end room read.Failed) bytes is none =
    plain (Read end room read.Failed) bytes (event_said (flat_words (Read end room read.Failed) bytes))
    (rw (end_and_number_of-words end room is.0 is.1) refl) none
event_said-words (Write end offered (write.Took n)) bytes is are = took_read end offered n bytes is.0 is.1 are
event_said-words (Write end offered write.NotYet) bytes is none =
    plain (Write end offered write.NotYet) bytes (event_said (flat_words (Write end offered write.NotYet) bytes))
    (rw (end_and_number_of-words end offered is.0 is.1) refl) none
event_said-words (Write end offered write.Failed) bytes is none =
    plain (Write end offered write.Failed) bytes (event_said (flat_words (Write end offered write.Failed) bytes))
    (rw (end_and_number_of-words end offered is.0 is.1) refl) none
event_said-words (Write end offered write.NoMemory) bytes is none = absurd is
event_said-words (Fired end w) bytes is none =
    plain (Fired end w) bytes (event_said (flat_words (Fired end w) bytes)) (fired_read end w is.0 is.1) none
event_said-words (Asked end a answer) bytes is none =
    plain (Asked end a answer) bytes (event_said (flat_words (Asked end a answer) bytes)) (asked_read end a answer is.0 is.1) none
event_said-words (Freed end c moved given) bytes is none =
    plain (Freed end c moved given) bytes (event_said (flat_words (Freed end c moved given) bytes))
    (freed_read end c moved given is.0 is.1 is.2 is.3) none
event_said-words (CloseWrite end) bytes is none =
    plain (CloseWrite end) bytes (event_said (flat_words (CloseWrite end) bytes)) (close_write_read end is) none
event_said-words (Close end) bytes is none = plain (Close end) bytes (event_said (flat_words (Close end) bytes)) (close_read end is) none
