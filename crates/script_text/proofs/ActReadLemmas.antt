-- An ask is what its words say, and they are words.
use Rattle.std.proofs.Common.{◌≡◌, ◌<◌, ◌≤◌, ◌^◌, ◌-◌, ℕ, lit<, List, [], ◌∷◌, refl, ap, ◌∙◌, arith, codes, Option, Some, None}
use Rattle.std.specs.Prelude.{option_map, option_and_then}
use Rattle.std.specs.Fmt.{decimal}
use Rattle.token_bucket.specs.declared.limit.Dir.{Dir}
use Rattle.token_bucket.specs.declared.limit.LimitCfg.{LimitCfg}
use Rattle.ev_types.specs.declared.side.SideId.{SideId}
use Rattle.ev_types.specs.declared.act.Act.{Act}
use Rattle.ev_types.specs.declared.act.Act.TheVariants as act
use Rattle.script_text.specs.declared.act_words.Verb.{Verb}
use Rattle.script_text.specs.declared.act_words.Verb.TheVariants as verb
use Rattle.script_text.specs.Numbers.{number_within}
use Rattle.script_text.specs.Ends.{end_of}
use Rattle.script_text.specs.ValueGrammar.{dir_of}
use Rattle.script_text.specs.ActGrammar.{verb_of, ask_by, act_of, marks_ask, timeouts_ask}
use Rattle.script_text.specs.Limits.{limit_said}
use Rattle.script_text.specs.Lines.{side_word, dir_word}
use Rattle.script_text.specs.ActLine.{limit_words, act_words}
use Rattle.script_text.specs.TraceLaws.{IsWide, IsEnd, IsAct}
use Rattle.script_text.proofs.LawLemmas.{number_within-decimal}
use Rattle.script_text.proofs.LimitLemmas.{limit_of-numbers}
use Rattle.script_text.proofs.SolidLemmas.{AreSolid, Solid-decimal}
use Rattle.script_text.proofs.ValueReadLemmas.{any_number-decimal, end_of-words, dir_of-word, computed, Solid-side_word, Solid-dir_word}

-- a limit's numbers fit
wide_read_rate : (limit : LimitCfg) → IsWide limit.read_rate
wide_read_rate limit = omega (arith, limit.read_within, limit.read_burst_within)

wide_read_burst : (limit : LimitCfg) → IsWide limit.read_burst
wide_read_burst limit = omega (arith, limit.read_burst_within)

wide_write_rate : (limit : LimitCfg) → IsWide limit.write_rate
wide_write_rate limit = omega (arith, limit.write_within, limit.write_burst_within)

wide_write_burst : (limit : LimitCfg) → IsWide limit.write_burst
wide_write_burst limit = omega (arith, limit.write_burst_within)

wide_tick : (limit : LimitCfg) → IsWide limit.tick_ms
wide_tick limit = omega (arith, limit.tick_within)

limit_said-words : (limit : LimitCfg) → limit_said (limit_words (Some limit)) ≡ Some limit
limit_said-words limit = rw (
  any_number-decimal limit.read_rate (wide_read_rate limit),
  any_number-decimal limit.read_burst (wide_read_burst limit),
  any_number-decimal limit.write_rate (wide_write_rate limit),
  any_number-decimal limit.write_burst (wide_write_burst limit),
  any_number-decimal limit.tick_ms (wide_tick limit),
) (limit_of-numbers limit)

-- an ask of an end
at_end : (verb : Verb) (word : List ℕ) (end : SideId) (more : List (List ℕ)) → verb_of word ≡ Some verb → IsEnd end →
    act_of (word ∷ decimal end.link ∷ side_word end.side ∷ more) ≡ ask_by verb end more
at_end verb word end more names small =
    let then : Verb → Option Act = λ v. option_and_then (λ e. ask_by v e more) (end_of (decimal end.link) (side_word end.side)) in
    ap (λ (o : Option Verb). option_and_then then o) names
    ∙ ap (λ (o : Option SideId). option_and_then (λ e. ask_by verb e more) o) (end_of-words end small)

directed : (made : Dir → Act) (dir : Dir) → option_map made (dir_of (dir_word dir)) ≡ Some (made dir)
directed made dir = ap (λ (o : Option Dir). option_map made o) (dir_of-word dir)

marks_ask-words : (end : SideId) (dir : Dir) (low high : ℕ) → IsWide low → IsWide high →
    marks_ask end (dir_word dir ∷ decimal low ∷ decimal high ∷ []) ≡ Some (act.Marks end dir low high)
marks_ask-words end dir low high wl wh = rw (dir_of-word dir, any_number-decimal low wl, any_number-decimal high wh) refl

timeouts_ask-words : (end : SideId) (read write : ℕ) → IsWide read → IsWide write →
    timeouts_ask end (decimal read ∷ decimal write ∷ []) ≡ Some (act.Timeouts end read write)
timeouts_ask-words end read write wr ww = rw (any_number-decimal read wr, any_number-decimal write ww) refl

numbered : (most n : ℕ) (made : ℕ → Act) → most < 2 ^ 64 → n ≤ most → option_map made (number_within most (decimal n)) ≡ Some (made n)
numbered most n made bound within = ap (λ (o : Option ℕ). option_map made o) (number_within-decimal most n bound within)

pub act_of-words : (a : Act) → IsAct a → act_of (act_words a) ≡ Some a
act_of-words (act.Free end) is = at_end verb.Free (codes "free") end [] refl is
act_of-words (act.Enable end dir) is =
    at_end verb.Enable (codes "enable") end (dir_word dir ∷ []) refl is ∙ directed (λ d. act.Enable end d) dir
act_of-words (act.Disable end dir) is =
    at_end verb.Disable (codes "disable") end (dir_word dir ∷ []) refl is ∙ directed (λ d. act.Disable end d) dir
act_of-words (act.Marks end dir low high) is =
    at_end verb.Marks (codes "marks") end (dir_word dir ∷ decimal low ∷ decimal high ∷ []) refl is.0
    ∙ marks_ask-words end dir low high is.1 is.2
act_of-words (act.Timeouts end read write) is =
    at_end verb.Timeouts (codes "timeouts") end (decimal read ∷ decimal write ∷ []) refl is.0 ∙ timeouts_ask-words end read write is.1 is.2
act_of-words (act.Rate end None) is = at_end verb.Rate (codes "rate") end (codes "none" ∷ []) refl is
act_of-words (act.Rate end (Some limit)) is =
    at_end verb.Rate (codes "rate") end (limit_words (Some limit)) refl is
    ∙ ap (λ (o : Option LimitCfg). option_and_then (λ l. Some (act.Rate end (Some l))) o) (limit_said-words limit)
act_of-words (act.Join end group) is =
    at_end verb.Join (codes "join") end (decimal group ∷ []) refl is.0
    ∙ numbered (2 ^ 32 - 1) group (λ g. act.Join end g) (lit< tt) (omega (arith, is.1))
act_of-words (act.Leave end) is = at_end verb.Leave (codes "leave") end [] refl is
act_of-words (act.Trigger end dir) is =
    at_end verb.Trigger (codes "trigger") end (dir_word dir ∷ []) refl is ∙ directed (λ d. act.Trigger end d) dir
act_of-words (act.Timer end ms) is =
    at_end verb.Timer (codes "timer") end (decimal ms ∷ []) refl is.0
    ∙ numbered (2 ^ 64 - 1) ms (λ n. act.Timer end n) (lit< tt) (omega (arith, is.1))
act_of-words (act.Cancel end) is = at_end verb.Cancel (codes "cancel") end [] refl is
act_of-words (act.Incref end) is = at_end verb.Incref (codes "incref") end [] refl is
act_of-words (act.Decref end) is = at_end verb.Decref (codes "decref") end [] refl is
act_of-words act.Stop is = refl

-- the two words of an end
pub AreSolid-end : (end : SideId) (more : List (List ℕ)) → IsEnd end → AreSolid more →
    AreSolid (decimal end.link ∷ side_word end.side ∷ more)
AreSolid-end end more small solid = (Solid-decimal end.link (omega (arith, small)), (Solid-side_word end.side, solid))

pub AreSolid-act_words : (a : Act) → IsAct a → AreSolid (act_words a)
AreSolid-act_words (act.Free end) is = (computed (codes "free") (lit< tt) refl, AreSolid-end end [] is tt)
AreSolid-act_words (act.Enable end dir) is =
    (computed (codes "enable") (lit< tt) refl, AreSolid-end end (dir_word dir ∷ []) is (Solid-dir_word dir, tt))
AreSolid-act_words (act.Disable end dir) is =
    (computed (codes "disable") (lit< tt) refl, AreSolid-end end (dir_word dir ∷ []) is (Solid-dir_word dir, tt))
AreSolid-act_words (act.Marks end dir low high) is = (
  computed (codes "marks") (lit< tt) refl,
  AreSolid-end end (dir_word dir ∷ decimal low ∷ decimal high ∷ []) is.0
      (Solid-dir_word dir, (Solid-decimal low is.1, (Solid-decimal high is.2, tt))),
)
AreSolid-act_words (act.Timeouts end read write) is = (
  computed (codes "timeouts") (lit< tt) refl,
  AreSolid-end end (decimal read ∷ decimal write ∷ []) is.0 (Solid-decimal read is.1, (Solid-decimal write is.2, tt)),
)
AreSolid-act_words (act.Rate end None) is =
    (computed (codes "rate") (lit< tt) refl, AreSolid-end end (codes "none" ∷ []) is (computed (codes "none") (lit< tt) refl, tt))
AreSolid-act_words (act.Rate end (Some limit)) is = (
  computed (codes "rate") (lit< tt) refl,
  AreSolid-end end (limit_words (Some limit)) is (
    Solid-decimal limit.read_rate (wide_read_rate limit),
    (
      Solid-decimal limit.read_burst (wide_read_burst limit),
      (
        Solid-decimal limit.write_rate (wide_write_rate limit),
        (Solid-decimal limit.write_burst (wide_write_burst limit), (Solid-decimal limit.tick_ms (wide_tick limit), tt)),
      ),
    ),
  ),
)
AreSolid-act_words (act.Join end group) is = (
  computed (codes "join") (lit< tt) refl,
  AreSolid-end end (decimal group ∷ []) is.0 (Solid-decimal group (omega (arith, is.1)), tt),
)
AreSolid-act_words (act.Leave end) is = (computed (codes "leave") (lit< tt) refl, AreSolid-end end [] is tt)
AreSolid-act_words (act.Trigger end dir) is =
    (computed (codes "trigger") (lit< tt) refl, AreSolid-end end (dir_word dir ∷ []) is (Solid-dir_word dir, tt))
AreSolid-act_words (act.Timer end ms) is =
    (computed (codes "timer") (lit< tt) refl, AreSolid-end end (decimal ms ∷ []) is.0 (Solid-decimal ms is.1, tt))
AreSolid-act_words (act.Cancel end) is = (computed (codes "cancel") (lit< tt) refl, AreSolid-end end [] is tt)
AreSolid-act_words (act.Incref end) is = (computed (codes "incref") (lit< tt) refl, AreSolid-end end [] is tt)
AreSolid-act_words (act.Decref end) is = (computed (codes "decref") (lit< tt) refl, AreSolid-end end [] is tt)
AreSolid-act_words act.Stop is = (computed (codes "stop") (lit< tt) refl, tt)
