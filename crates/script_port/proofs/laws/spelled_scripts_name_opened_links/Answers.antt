use Rattle.script_port.proofs.ScriptSpelledLemmas.{spelled_names_opened}
use Rattle.script_port.proofs.laws.spelled_scripts_name_opened_links.Goals as goal

pub returns : goal.returns
returns c = spelled_names_opened
