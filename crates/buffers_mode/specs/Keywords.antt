-- The kinds of lines, by their first words.
use Rattle.std.specs.Prelude.{ℕ, List, codes, if◌then◌else◌, Option, Some, None}
use Rattle.std.specs.Option.{option_or}
use Rattle.std.specs.Str.{bytes_eq}
use Rattle.buffers_mode.specs.declared.keyword.Keyword.{Keyword}
use Rattle.buffers_mode.specs.declared.keyword.Keyword.TheVariants.{Add, Prepend, AddReference, Drain, Remove, AddBuffer, RemoveBuffer}
use Rattle.buffers_mode.specs.declared.keyword.Keyword.TheVariants.{Pullup, PullupAll, Search, SearchEol, Readln, Peek, Len, Freeze}
use Rattle.buffers_mode.specs.declared.keyword.Keyword.TheVariants.{Unfreeze, AddCb, RemoveCb, EnableCb, DisableCb, Defer, Reports}

-- the kinds of lines that bring, take or move bytes
abbrev pub change_keyword : List ℕ → Option Keyword
change_keyword word =
    if bytes_eq word (codes "add") then Some Add
    else (if bytes_eq word (codes "prepend") then Some Prepend
    else (if bytes_eq word (codes "ref") then Some AddReference
    else (if bytes_eq word (codes "drain") then Some Drain
    else (if bytes_eq word (codes "remove") then Some Remove
    else (if bytes_eq word (codes "addbuf") then Some AddBuffer
    else (if bytes_eq word (codes "rembuf") then Some RemoveBuffer
    else None))))))

-- the kinds of lines that look at bytes, those that make bytes contiguous, and the one that reads a line
abbrev pub look_keyword : List ℕ → Option Keyword
look_keyword word =
    if bytes_eq word (codes "pullup") then Some Pullup
    else (if bytes_eq word (codes "pullall") then Some PullupAll
    else (if bytes_eq word (codes "search") then Some Search
    else (if bytes_eq word (codes "eol") then Some SearchEol
    else (if bytes_eq word (codes "readln") then Some Readln
    else (if bytes_eq word (codes "peek") then Some Peek
    else (if bytes_eq word (codes "len") then Some Len
    else None))))))

-- the kinds of lines that freeze an end or deal with callbacks
abbrev pub callback_keyword : List ℕ → Option Keyword
callback_keyword word =
    if bytes_eq word (codes "freeze") then Some Freeze
    else (if bytes_eq word (codes "unfreeze") then Some Unfreeze
    else (if bytes_eq word (codes "cb") then Some AddCb
    else (if bytes_eq word (codes "rmcb") then Some RemoveCb
    else (if bytes_eq word (codes "cbon") then Some EnableCb
    else (if bytes_eq word (codes "cboff") then Some DisableCb
    else (if bytes_eq word (codes "defer") then Some Defer
    else (if bytes_eq word (codes "reports") then Some Reports
    else None)))))))

-- the kind of a line
abbrev pub keyword_of : List ℕ → Option Keyword
keyword_of word = option_or (option_or (change_keyword word) (look_keyword word)) (callback_keyword word)
