use Rattle.std.proofs.Common.{◌≡◌, ◌≤◌, drop}
use Rattle.std.specs.Str.{all_ascii_digits}
use Rattle.script_text.specs.Numbers.{value_of}
use Rattle.script_text.proofs.NumberLemmas.{value_from}
use Rattle.script_text.proofs.words.number.Given as goal

abbrev pub invariant-loop-digit : goal.invariant-loop-digit
invariant-loop-digit l = record {
  within : l.value ≤ l.max;
  value : value_from l.value (drop l.digit-index l.word) ≡ value_of l.word;
  digits : all_ascii_digits (drop l.digit-index l.word) ≡ all_ascii_digits l.word;
}
