use Rattle.script_text.proofs.LawLemmas.{words-phrase}
use Rattle.script_text.proofs.laws.phrase_has_its_words.Goals as goal

pub returns : goal.returns
returns c = words-phrase
