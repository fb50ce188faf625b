-- What a line asks, by cases on its words.
use Rattle.std.specs.Prelude.{ℕ, ◌^◌, ◌-◌, ◌<◌, List, [], ◌∷◌, codes, Bool, true, false, if◌then◌else◌, Option, Some, None, option_map}
use Rattle.std.specs.Prelude.{option_and_then}
use Rattle.std.specs.Str.{bytes_eq}
use Rattle.evbuf.specs.declared.place.Place.{Place}
use Rattle.evbuf.specs.declared.place.Place.TheVariants.{Front, End}
use Rattle.evbuf_scan.specs.declared.eol.Eol.{Eol}
use Rattle.evbuf_scan.specs.declared.eol.Eol.TheVariants as eol
use Rattle.script_text.specs.Numbers.{number_within, bytes_of}
use Rattle.buffers_mode.specs.declared.keyword.Keyword.{Keyword}
use Rattle.buffers_mode.specs.declared.keyword.Keyword.TheVariants as keyword
use Rattle.buffers_mode.specs.declared.line.Op.{Op}
use Rattle.buffers_mode.specs.declared.line.Op.TheVariants as op
use Rattle.buffers_mode.specs.declared.line.BufferAsk.{BufferAsk}
use Rattle.buffers_mode.specs.declared.line.BufferAsk.TheVariants as ask
use Rattle.buffers_mode.specs.declared.line.Line.{Line}
use Rattle.buffers_mode.specs.Keywords.{keyword_of}

-- the number of one of the sixteen buffers
abbrev pub buffer_of : List ℕ → Option ℕ
buffer_of word = number_within 15 word

-- a number of bytes: at most 2^24
abbrev pub count_of : List ℕ → Option ℕ
count_of word = number_within (2 ^ 24) word

-- a ticket, or the number of a callback: below 2^32
abbrev pub callback_of : List ℕ → Option ℕ
callback_of word = number_within (2 ^ 32 - 1) word

-- the place from which a search begins
abbrev pub from_of : List ℕ → Option ℕ
from_of word = number_within (2 ^ 62) word

abbrev pub place_of : List ℕ → Option Place
place_of word = if bytes_eq word (codes "front") then Some Front else (if bytes_eq word (codes "end") then Some End else None)

abbrev pub style_of : List ℕ → Option Eol
style_of word =
    if bytes_eq word (codes "any") then Some eol.Any
    else (if bytes_eq word (codes "crlf") then Some eol.Crlf
    else (if bytes_eq word (codes "strict") then Some eol.CrlfStrict
    else (if bytes_eq word (codes "lf") then Some eol.Lf
    else (if bytes_eq word (codes "nul") then Some eol.Nul
    else None))))

abbrev pub switch_of : List ℕ → Option Bool
switch_of word = if bytes_eq word (codes "on") then Some true else (if bytes_eq word (codes "off") then Some false else None)

-- what a line asks of one buffer that has no word behind the buffer's number
abbrev pub plain_op : Keyword → Option Op
plain_op keyword.PullupAll = Some op.PullupAll
plain_op keyword.AddCb = Some op.AddCb
plain_op keyword.Len = Some op.Len
plain_op _ = None

-- what a line asks that has one
abbrev pub one_op : Keyword → List ℕ → Option Op
one_op keyword.Add word = option_map (λ bytes. op.Add bytes) (bytes_of word)
one_op keyword.Prepend word = option_map (λ bytes. op.Prepend bytes) (bytes_of word)
one_op keyword.Drain word = option_map (λ n. op.Drain n) (count_of word)
one_op keyword.Remove word = option_map (λ n. op.Remove n) (count_of word)
one_op keyword.Pullup word = option_map (λ n. op.Pullup n) (count_of word)
one_op keyword.Peek word = option_map (λ n. op.Peek n) (count_of word)
one_op keyword.Readln word = option_map (λ style. op.Readln style) (style_of word)
one_op keyword.Freeze word = option_map (λ place. op.Freeze place) (place_of word)
one_op keyword.Unfreeze word = option_map (λ place. op.Unfreeze place) (place_of word)
one_op keyword.RemoveCb word = option_map (λ cb. op.RemoveCb cb) (callback_of word)
one_op keyword.EnableCb word = option_map (λ cb. op.SetCbEnabled cb true) (callback_of word)
one_op keyword.DisableCb word = option_map (λ cb. op.SetCbEnabled cb false) (callback_of word)
one_op _ word = None

-- what a line asks that has two
abbrev pub two_op : Keyword → List ℕ → List ℕ → Option Op
two_op keyword.AddReference digits ticket =
    option_and_then (λ bytes. option_map (λ t. op.AddReference bytes t) (callback_of ticket)) (bytes_of digits)
two_op keyword.Search digits from =
    option_and_then (λ bytes. option_map (λ place. op.Search bytes place) (from_of from)) (bytes_of digits)
two_op keyword.SearchEol style from = option_and_then (λ s. option_map (λ place. op.SearchEol s place) (from_of from)) (style_of style)
two_op _ first second = None

-- what a line of a kind asks of one buffer alone, by the words behind the buffer's number
abbrev pub op_by : Keyword → List (List ℕ) → Option Op
op_by kind [] = plain_op kind
op_by kind (a ∷ []) = one_op kind a
op_by kind (a ∷ b ∷ []) = two_op kind a b
op_by kind (a ∷ b ∷ c ∷ more) = None

-- what a line of a kind asks, by the words behind the buffer's number
abbrev pub ask_by : Keyword → List (List ℕ) → Option BufferAsk
ask_by keyword.AddBuffer (from ∷ []) = option_map (λ b. ask.AddBuffer b) (buffer_of from)
ask_by keyword.RemoveBuffer (to ∷ count ∷ []) = option_and_then (λ b. option_map (λ n. ask.RemoveBuffer b n) (count_of count)) (buffer_of to)
ask_by keyword.Defer (switch ∷ []) = option_map (λ on. ask.Defer on) (switch_of switch)
ask_by keyword.Reports [] = Some ask.Reports
ask_by kind more = option_map (λ asked. ask.Own asked) (op_by kind more)

-- what a line says by all its words: its kind, its buffer's number, and what belongs to the kind
abbrev pub said : List (List ℕ) → Option Line
said [] = None
said (first ∷ []) = None
said (first ∷ number ∷ more) =
    option_and_then (λ kind. option_and_then (λ b. option_map (λ asked. record { buffer = b; ask = asked }) (ask_by kind more)) (buffer_of number)) (keyword_of first)

-- the further buffers that a line names are there
abbrev pub AskNames : BufferAsk → Type 0
AskNames (ask.Own asked) = Unit {0}
AskNames (ask.AddBuffer from) = from < 16
AskNames (ask.RemoveBuffer to n) = to < 16
AskNames (ask.Defer on) = Unit {0}
AskNames ask.Reports = Unit {0}

-- all buffers that a line names are there
abbrev pub NamesBuffers : Line → Type 0
NamesBuffers line = (line.buffer < 16) × AskNames line.ask
