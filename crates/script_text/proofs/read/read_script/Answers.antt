use Rattle.std.proofs.Common.{◌≡◌, Ok, length, sym, ◌∙◌}
use Rattle.std.proofs.lemmas.Bool.{eqb-true}
use Rattle.script_text.specs.Script.{whole}
use Rattle.script_text.specs.Spelled.{script_of}
use Rattle.script_text.proofs.LawLemmas.{script_of-last}
use Rattle.script_text.proofs.GroupsLemmas.{script_of-groups}
use Rattle.script_text.proofs.SpelledLengthLemmas.{script_of-bytes}
use Rattle.script_text.proofs.read.read_script.Goals as goal

-- each byte has two digits in the text
pub returns-clause-bytes : goal.returns-clause-bytes
returns-clause-bytes c =
    let text = c.args.text.now in
    let rest = c.loop-rest.rest.now in
    let none : length rest ≡ 0 = eqb-true (length rest) 0 (sym c.is_empty.ensures ∙ c.loop-rest-test.false) in
    let spelled : script_of text ≡ Ok (whole c.loop-rest.reading) =
    script_of-last text rest c.loop-rest.reading c.loop-rest.before none c.loop-rest.invariant.spelled in
    rw c.finish.ensures (script_of-bytes text (whole c.loop-rest.reading) spelled)

-- the groups are those that its lines set
pub returns-clause-groups : goal.returns-clause-groups
returns-clause-groups c =
    let text = c.args.text.now in
    let rest = c.loop-rest.rest.now in
    let none : length rest ≡ 0 = eqb-true (length rest) 0 (sym c.is_empty.ensures ∙ c.loop-rest-test.false) in
    let spelled : script_of text ≡ Ok (whole c.loop-rest.reading) =
    script_of-last text rest c.loop-rest.reading c.loop-rest.before none c.loop-rest.invariant.spelled in
    rw c.finish.ensures (script_of-groups text (whole c.loop-rest.reading) spelled)
