-- How a program ends whose words are not taken.
use Rattle.std.specs.declared.io.ErrorKind.{ErrorKind}
use Rattle.std.specs.declared.io.ErrorKind.TheVariants.{OutOfMemory}
use Rattle.ev_types.specs.declared.status.Status.{Status}
use Rattle.ev_types.specs.declared.status.Status.TheVariants as status
use Rattle.command_words.specs.declared.fault.WordsFault.{WordsFault}
use Rattle.command_words.specs.declared.words.BadWords.{BadWords}
use Rattle.command_words.specs.declared.words.BadWords.TheVariants as words
use Rattle.command_words.specs.declared.fault.WordsFault.TheVariants.{Usage, Memory}

abbrev pub status_of_words : WordsFault → Status
status_of_words Usage = status.Usage
status_of_words Memory = status.Memory

-- the status where the words can't be read
abbrev pub words_status : BadWords → Status
words_status words.NotText = status.Usage
words_status words.Memory = status.Memory

-- why the words can't be read, by the kind of the system's error
abbrev pub bad_words : ErrorKind → BadWords
bad_words OutOfMemory = words.Memory
bad_words _ = words.NotText
