-- A script as it is played on the two halves of a pair.
use Rattle.std.specs.Prelude.{ℕ, ◌+◌, ◌==◌, Bool, true, false, if◌then◌else◌, Option, Some, None, option_map, List, [], ◌∷◌, ◌++◌, codes}
use Rattle.std.specs.Prelude.{Result, Ok, Err}
use Rattle.std.specs.List.{list_all}
use Rattle.script_text.specs.Pieces.{lines, words}
use Rattle.script_text.specs.Spelled.{is_plain, going_on}
use Rattle.pairs_mode.specs.Pair.{HalfValue, moved, asked, refusal_of, raises_end}
use Rattle.pairs_mode.specs.Answers.{answer_text, end_text, lengths_text}
use Rattle.pairs_mode.specs.Grammar.{said}
use Rattle.pairs_mode.specs.declared.answer.Refusal.{Refusal}
use Rattle.pairs_mode.specs.declared.half.Half.{Half}
use Rattle.pairs_mode.specs.declared.half.Half.TheVariants.{A, B}
use Rattle.pairs_mode.specs.declared.line.PairAsk.{PairAsk}
use Rattle.pairs_mode.specs.declared.line.Line.{Line}

-- the two halves, and the text that was written
pub record Run : Type 0 where
  pub a : HalfValue
  pub b : HalfValue
  pub text : List ℕ

-- a new half: live, with writing enabled and reading not
abbrev pub new_half : HalfValue
new_half = record { live = true; reading = false; writing = true; high = 0; input = []; output = [] }

-- before the first line
abbrev pub fresh_run : Run
fresh_run = record { a = new_half; b = new_half; text = [] }

-- a run with these halves
abbrev pub with_halves : Run → HalfValue → HalfValue → Run
with_halves run first second = record run { a = first; b = second }

-- why a line is refused, if it is
abbrev pub refused_by : Run → Half → PairAsk → Option Refusal
refused_by run A ask = refusal_of ask run.a run.b
refused_by run B ask = refusal_of ask run.b run.a

-- a line does what it asks
abbrev pub done_by : Run → Half → PairAsk → Run
done_by run A ask = let halves = asked ask run.a run.b in with_halves run halves.0 halves.1
done_by run B ask = let halves = asked ask run.b run.a in with_halves run halves.1 halves.0

-- the bytes that go of themselves go from a to b, and then from b to a
abbrev pub settled : Run → Run
settled run =
    let there = moved run.a run.b in
    let back = moved there.1 there.0 in
    with_halves run back.1 back.0

-- what a line leaves; a refused one moves nothing
abbrev pub after_ask : Run → Half → PairAsk → Option Refusal → Run
after_ask run of_half ask None = settled (done_by run of_half ask)
after_ask run of_half ask (Some refusal) = run

-- the other half of one
abbrev pub other_half : Half → Half
other_half A = B
other_half B = A

-- the half at which a line raised end of file, if it did
abbrev pub end_at : Half → PairAsk → Option Refusal → Option Half
end_at of_half ask None = if raises_end ask then Some (other_half of_half) else None
end_at of_half ask (Some refusal) = None

-- the line of an answer is written, by why it was refused and where end of file was raised
abbrev pub written : Run → Option Refusal → Option Half → Run
written run refusal end =
    record run {
      text = run.text ++ answer_text refusal ++ end_text end
          ++ codes " a" ++ lengths_text run.a ++ codes " b" ++ lengths_text run.b ++ 10 ∷ [];
    }

-- the run after a line
abbrev pub line_played : Run → Line → Run
line_played run line =
    let refusal = refused_by run line.half line.ask in
    written (after_ask run line.half line.ask refusal) refusal (end_at line.half line.ask refusal)

-- a line of no words says nothing, and so does one whose first word begins with a number sign
abbrev pub is_skipped : List (List ℕ) → Bool
is_skipped [] = true
is_skipped ([] ∷ more) = false
is_skipped ((b ∷ bs) ∷ more) = b == 35

-- the run after the line of a text, where it is in the grammar; a line that is skipped does nothing
abbrev pub text_played : Run → List ℕ → Option Run
text_played run text =
    if list_all is_plain text
    then (if is_skipped (words text) then Some run else option_map (λ line. line_played run line) (said (words text)))
    else None

-- The run after some texts more, or the number of the first of them that is not in the grammar. So many stand before them.
abbrev pub texts_played : Run → ℕ → List (List ℕ) → Result Run ℕ
texts_played run before [] = Ok run
texts_played run before (text ∷ more) =
    going_on (text_played run text) (before + 1) (λ after. texts_played after (before + 1) more)

abbrev pub run_of : List ℕ → Result Run ℕ
run_of text = texts_played fresh_run 0 (lines text)

abbrev pub answered : Result Run ℕ → Result (List ℕ) ℕ
answered (Ok run) = Ok run.text
answered (Err line) = Err line

-- what the script is answered that a text spells, or the number of the first line that is not in the grammar
abbrev pub answers_of : List ℕ → Result (List ℕ) ℕ
answers_of text = answered (run_of text)
