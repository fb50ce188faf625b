-- A trace is what its text says.
use Rattle.std.proofs.Common.{◌≡◌, ◌<◌, ◌+◌, ◌^◌, ℕ, true, false, lit<, List, [], ◌∷◌, ◌++◌, length, map, refl, ap, sym, ◌∙◌, arith, codes}
use Rattle.std.proofs.Common.{Option, Some, None, Ok, Err, zero, suc, get_or, ◌-◌, append_assoc, append-nil, length-append}
use Rattle.std.specs.Prelude.{option_map, IsSome}
use Rattle.std.specs.Fmt.{decimal}
use Rattle.hex.specs.Hex.{encode_lower}
use Rattle.ev_types.specs.declared.side.SideId.{SideId}
use Rattle.ev_types.specs.declared.act.Act.{Act}
use Rattle.ev_types.specs.declared.act.Act.TheVariants as act
use Rattle.ev_types.specs.declared.answer.ReadAnswer.TheVariants as read
use Rattle.ev_types.specs.declared.answer.WriteAnswer.TheVariants as write
use Rattle.ev_types.specs.declared.entry.Entry.{Entry}
use Rattle.ev_types.specs.declared.entry.Entry.TheVariants.{Turn, Poll, Want, Ready, PollFailed, Opened, Conn, Read, Write, Fired, Asked}
use Rattle.ev_types.specs.declared.entry.Entry.TheVariants.{Freed, CloseWrite, Close}
use Rattle.ev_types.specs.Trace.{Trace, Event}
use Rattle.script_text.specs.Pieces.{lines, words}
use Rattle.script_text.specs.Lines.{phrase, side_word, marks_word, why_word, cause_word}
use Rattle.script_text.specs.ActLine.{act_words, ask_word}
use Rattle.script_text.specs.TraceText.{conn_word, entry_words, trace_text}
use Rattle.script_text.specs.EntryGrammar.{event_said}
use Rattle.script_text.specs.Spelled.{going_on}
use Rattle.script_text.specs.TraceSpelled.{trace_line_read, trace_lines_read, trace_of}
use Rattle.script_text.specs.Laws.{AllLack, with_ends}
use Rattle.script_text.specs.TraceLaws.{IsWide, IsEnd, IsEntry, StandBeside, AreBytes, IsSpellable, IsFirstBadLine}
use Rattle.script_text.proofs.LawLemmas.{lines-with_ends, words-phrase}
use Rattle.script_text.proofs.SolidLemmas.{Solid, AreSolid, AreSolid-append, AreWords-solid, Lacks-phrase, line_of-phrase, Solid-decimal}
use Rattle.script_text.proofs.SolidLemmas.{Solid-encode_lower}
use Rattle.script_text.proofs.ValueReadLemmas.{computed, Solid-marks_word, Solid-conn_word, Solid-ask_word, Solid-why_word}
use Rattle.script_text.proofs.ValueReadLemmas.{Solid-cause_word}
use Rattle.script_text.proofs.ActReadLemmas.{AreSolid-end, AreSolid-act_words}
use Rattle.script_text.proofs.EntryReadLemmas.{flat_words, event_said-words}

-- ---- the words of an entry are words

-- some bytes as digits
digits_word : (n : ℕ) (bytes : List ℕ) → AreBytes n bytes → Solid (encode_lower bytes)
digits_word n bytes are = Solid-encode_lower bytes (omega (arith, are.0, are.1)) are.2

-- the words of a read or a write
moved_words : (first : List ℕ) (end : SideId) (n : ℕ) (more : List (List ℕ)) → Solid first → IsEnd end → IsWide n → AreSolid more →
    AreSolid (first ∷ decimal end.link ∷ side_word end.side ∷ decimal n ∷ more)
moved_words first end n more solid small wide rest = (solid, AreSolid-end end (decimal n ∷ more) small (Solid-decimal n wide, rest))

narrow : (link : ℕ) → link < 2 ^ 32 → Solid (decimal link)
narrow link small = Solid-decimal link (omega (arith, small))

pub AreSolid-flat_words : (e : Entry) (bytes : List ℕ) → IsEntry e → StandBeside bytes e → AreSolid (flat_words e bytes)
AreSolid-flat_words (Turn ms) bytes is none = (computed (codes "turn") (lit< tt) refl, (Solid-decimal ms is, tt))
AreSolid-flat_words (Poll None) bytes is none = (computed (codes "poll") (lit< tt) refl, (computed (codes "none") (lit< tt) refl, tt))
AreSolid-flat_words (Poll (Some ms)) bytes is none = (computed (codes "poll") (lit< tt) refl, (Solid-decimal ms is, tt))
AreSolid-flat_words (Want end r w) bytes is none =
    (computed (codes "want") (lit< tt) refl, AreSolid-end end (marks_word r w ∷ []) is.0 (Solid-marks_word r w, tt))
AreSolid-flat_words (Ready end r w) bytes is none =
    (computed (codes "ready") (lit< tt) refl, AreSolid-end end (marks_word r w ∷ []) is.0 (Solid-marks_word r w, tt))
AreSolid-flat_words PollFailed bytes is none = (computed (codes "pollfail") (lit< tt) refl, tt)
AreSolid-flat_words (Opened link true) bytes is none = (computed (codes "open") (lit< tt) refl, (narrow link is, tt))
AreSolid-flat_words (Opened link false) bytes is none =
    (computed (codes "open") (lit< tt) refl, (narrow link is, (computed (codes "wait") (lit< tt) refl, tt)))
AreSolid-flat_words (Conn end a) bytes is none =
    (computed (codes "conn") (lit< tt) refl, AreSolid-end end (conn_word a ∷ []) is.0 (Solid-conn_word a, tt))
AreSolid-flat_words (Read end room (read.Got n)) bytes is are =
    moved_words (codes "read") end room (codes "got" ∷ encode_lower bytes ∷ []) (computed (codes "read") (lit< tt) refl) is.0 is.1
    (computed (codes "got") (lit< tt) refl, (digits_word n bytes are, tt))
AreSolid-flat_words (Read end room read.Ended) bytes is none =
    moved_words (codes "read") end room (codes "end" ∷ []) (computed (codes "read") (lit< tt) refl) is.0 is.1
    (computed (codes "end") (lit< tt) refl, tt)
AreSolid-flat_words (Read end room read.NotYet) bytes is none =
    moved_words (codes "read") end room (codes "notyet" ∷ []) (computed (codes "read") (lit< tt) refl) is.0 is.1
    (computed (codes "notyet") (lit< tt) refl, tt)
AreSolid-flat_words (Read end room read.Failed) bytes is none =
    moved_words (codes "read") end room (codes "fail" ∷ []) (computed (codes "read") (lit< tt) refl) is.0 is.1
    (computed (codes "fail") (lit< tt) refl, tt)
AreSolid-flat_words (Write end offered (write.Took n)) bytes is are =
    moved_words (codes "write") end offered (codes "took" ∷ encode_lower bytes ∷ []) (computed (codes "write") (lit< tt) refl) is.0 is.1
    (computed (codes "took") (lit< tt) refl, (digits_word n bytes are, tt))
AreSolid-flat_words (Write end offered write.NotYet) bytes is none =
    moved_words (codes "write") end offered (codes "notyet" ∷ []) (computed (codes "write") (lit< tt) refl) is.0 is.1
    (computed (codes "notyet") (lit< tt) refl, tt)
AreSolid-flat_words (Write end offered write.Failed) bytes is none =
    moved_words (codes "write") end offered (codes "fail" ∷ []) (computed (codes "write") (lit< tt) refl) is.0 is.1
    (computed (codes "fail") (lit< tt) refl, tt)
AreSolid-flat_words (Write end offered write.NoMemory) bytes is none = absurd is
AreSolid-flat_words (Fired end w) bytes is none =
    (computed (codes "fired") (lit< tt) refl, AreSolid-end end (why_word w ∷ []) is.0 (Solid-why_word w is.1, tt))
AreSolid-flat_words (Asked end a answer) bytes is none = (
  computed (codes "asked") (lit< tt) refl,
  AreSolid-end end (act_words a ++ ask_word answer ∷ []) is.0
      (AreSolid-append (act_words a) (ask_word answer ∷ []) (AreSolid-act_words a is.1) (Solid-ask_word answer, tt)),
)
AreSolid-flat_words (Freed end c moved given) bytes is none = (
  computed (codes "freed") (lit< tt) refl,
  AreSolid-end end (cause_word c ∷ decimal moved ∷ decimal given ∷ []) is.0
      (Solid-cause_word c is.1, (Solid-decimal moved is.2, (Solid-decimal given is.3, tt))),
)
AreSolid-flat_words (CloseWrite end) bytes is none = (computed (codes "closewrite") (lit< tt) refl, AreSolid-end end [] is tt)
AreSolid-flat_words (Close end) bytes is none = (computed (codes "close") (lit< tt) refl, AreSolid-end end [] is tt)

-- ---- the line of an entry

-- the words of an ask among others are one phrase with them
phrase-more : (ws : List (List ℕ)) (w : List ℕ) → 0 < length ws → phrase (ws ++ w ∷ []) ≡ phrase ws ++ 32 ∷ w
phrase-more [] w some = absurd (omega arith)
phrase-more (v ∷ []) w some = refl
phrase-more (v ∷ u ∷ us) w some =
    ap (λ (more : List ℕ). v ++ 32 ∷ more) (phrase-more (u ∷ us) w (omega arith)) ∙ sym (append_assoc v (32 ∷ phrase (u ∷ us)) (32 ∷ w))

phrase-cons : (v : List ℕ) (ws : List (List ℕ)) → 0 < length ws → phrase (v ∷ ws) ≡ v ++ 32 ∷ phrase ws
phrase-cons v [] some = absurd (omega arith)
phrase-cons v (w ∷ ws) some = refl

phrase-within : (a b c w : List ℕ) (ws : List (List ℕ)) → 0 < length ws →
    phrase (a ∷ b ∷ c ∷ phrase ws ∷ w ∷ []) ≡ phrase (a ∷ b ∷ c ∷ ws ++ w ∷ [])
phrase-within a b c w ws some =
    let tail : phrase ws ++ 32 ∷ w ≡ phrase (ws ++ w ∷ []) = sym (phrase-more ws w some) in
    let longer : 0 < length (ws ++ w ∷ []) = omega (arith, length-append ws (w ∷ [])) in
    ap (λ (more : List ℕ). a ++ 32 ∷ (b ++ 32 ∷ (c ++ 32 ∷ more))) tail
    ∙ ap (λ (more : List ℕ). a ++ 32 ∷ (b ++ 32 ∷ more)) (sym (phrase-cons c (ws ++ w ∷ []) longer))

act_words-some : (a : Act) → 0 < length (act_words a)
act_words-some (act.Rate end None) = lit< tt
act_words-some (act.Rate end (Some limit)) = lit< tt
act_words-some _ = lit< tt

phrase-entry_words : (e : Entry) (bytes : List ℕ) → phrase (entry_words e bytes) ≡ phrase (flat_words e bytes)
phrase-entry_words (Asked end a answer) bytes =
    phrase-within (codes "asked") (decimal end.link) (side_word end.side) (ask_word answer) (act_words a) (act_words-some a)
phrase-entry_words _ bytes = refl

abbrev phrase_of : Event → List ℕ
phrase_of event = phrase (flat_words event.0 event.1)

-- a trace's text is its lines
trace_text-with_ends : (t : Trace) → trace_text t ≡ with_ends (map phrase_of t)
trace_text-with_ends [] = refl
trace_text-with_ends (event ∷ more) =
    ap (λ (line : List ℕ). line ++ trace_text more) (line_of-phrase (entry_words event.0 event.1))
    ∙ append_assoc (phrase (entry_words event.0 event.1)) (10 ∷ []) (trace_text more)
    ∙ ap (λ (p : List ℕ). p ++ 10 ∷ trace_text more) (phrase-entry_words event.0 event.1)
    ∙ ap (λ (rest : List ℕ). phrase_of event ++ 10 ∷ rest) (trace_text-with_ends more)

AllLack-phrases : (t : Trace) → IsSpellable t → AllLack 10 (map phrase_of t)
AllLack-phrases [] is = tt
AllLack-phrases (event ∷ more) is =
    (Lacks-phrase (flat_words event.0 event.1) (AreSolid-flat_words event.0 event.1 is.0 is.1), AllLack-phrases more is.2)

lines-trace_text : (t : Trace) → IsSpellable t → lines (trace_text t) ≡ map phrase_of t
lines-trace_text t is =
    ap lines (trace_text-with_ends t ∙ sym (append-nil (with_ends (map phrase_of t))))
    ∙ lines-with_ends (map phrase_of t) [] (AllLack-phrases t is)
    ∙ append-nil (map phrase_of t)

trace_line_read-phrase : (t : Trace) (event : Event) → IsEntry event.0 → StandBeside event.1 event.0 →
    trace_line_read t (phrase_of event) ≡ Some (t ++ event ∷ [])
trace_line_read-phrase t event is beside =
    let put : Option Event → Option Trace = λ o. option_map (λ (e : Event). t ++ e ∷ []) o in
    ap (λ (ws : List (List ℕ)). put (event_said ws))
    (words-phrase (flat_words event.0 event.1)
    (AreWords-solid (flat_words event.0 event.1) (AreSolid-flat_words event.0 event.1 is beside)))
    ∙ ap put (event_said-words event.0 event.1 is beside)

trace_lines_read-phrases : (before : Trace) (n : ℕ) (t : Trace) → IsSpellable t →
    trace_lines_read before n (map phrase_of t) ≡ Ok (before ++ t)
trace_lines_read-phrases before n [] is = ap Ok (sym (append-nil before))
trace_lines_read-phrases before n (event ∷ more) is =
    ap (λ (o : Option Trace). going_on o (n + 1) (λ longer. trace_lines_read longer (n + 1) (map phrase_of more)))
    (trace_line_read-phrase before event is.0 is.1)
    ∙ trace_lines_read-phrases (before ++ event ∷ []) (n + 1) more is.2
    ∙ ap Ok (append_assoc before (event ∷ []) more)

pub trace_of-trace_text : (t : Trace) → IsSpellable t → trace_of (trace_text t) ≡ Ok t
trace_of-trace_text t is =
    ap (λ (ls : List (List ℕ)). trace_lines_read [] 0 ls) (lines-trace_text t is) ∙ trace_lines_read-phrases [] 0 t is

-- ---- where a text is refused

-- where the lines from here on are first bad
record IsBadAt (before : ℕ) (ls : List (List ℕ)) (n : ℕ) : Type 0 where
  place : ℕ
  number : n ≡ before + place + 1
  within : place < length ls
  good : (k : ℕ) → k < place → IsSome (event_said (words (get_or ls k [])))
  bad : event_said (words (get_or ls place [])) ≡ None

one_more_good : (l : List ℕ) (ls : List (List ℕ)) (place : ℕ) → IsSome (event_said (words l)) →
    ((k : ℕ) → k < place → IsSome (event_said (words (get_or ls k [])))) →
    (k : ℕ) → k < suc place → IsSome (event_said (words (get_or (l ∷ ls) k [])))
one_more_good l ls place first rest zero lt = first
one_more_good l ls place first rest (suc k) lt = rest k (omega arith)

trace_lines_read-bad : (t : Trace) (before : ℕ) (ls : List (List ℕ)) (n : ℕ) → trace_lines_read t before ls ≡ Err n → IsBadAt before ls n
trace_lines_read-bad t before [] n refused = absurd cc
trace_lines_read-bad t before (l ∷ ls) n refused =
    elim (event_said (words l)) as
    (λ o. event_said (words l) ≡ o →
    going_on (option_map (λ (e : Event). t ++ e ∷ []) o) (before + 1) (λ longer. trace_lines_read longer (before + 1) ls) ≡ Err n →
    IsBadAt before (l ∷ ls) n) [
      | None ↦ λ here no.
          let same : before + 1 ≡ n = cc in
          record { place = 0; number = omega arith; within = omega arith; good = λ k lt. absurd (omega arith); bad = here }
      | Some e ↦ λ here on.
          let later = trace_lines_read-bad (t ++ e ∷ []) (before + 1) ls n on in
          let some : IsSome (event_said (words l)) = rw here refl in
          record {
            place = suc later.place;
            number = omega (arith, later.number);
            within = omega (arith, later.within);
            good = one_more_good l ls later.place some later.good;
            bad = later.bad;
          }
    ] refl refused

pub trace_of-bad : (text : List ℕ) (n : ℕ) → trace_of text ≡ Err n → IsFirstBadLine text n
trace_of-bad text n refused =
    let at = trace_lines_read-bad [] 0 (lines text) n refused in
    let place : at.place ≡ n - 1 = omega (arith, at.number) in
    record {
      above = omega (arith, at.number);
      within = omega (arith, at.number, at.within);
      before = λ k lt. at.good k (omega (arith, place));
      bad = rw (← place) at.bad;
    }
