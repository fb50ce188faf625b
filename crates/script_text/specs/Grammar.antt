-- What a line says, by cases on its words. Which lines may stand behind which stands elsewhere.
use Rattle.std.specs.Prelude.{ℕ, ◌^◌, List, [], ◌∷◌, ◌==◌, codes, Bool, true, false, if◌then◌else◌, nat_lt, Option, Some, None}
use Rattle.std.specs.Prelude.{option_map, option_and_then}
use Rattle.std.specs.Str.{bytes_eq}
use Rattle.ev_types.specs.declared.side.Side.TheVariants.{In, Out}
use Rattle.ev_types.specs.declared.side.SideId.{SideId}
use Rattle.token_bucket.specs.declared.limit.Dir.TheVariants.{Read, Write}
use Rattle.ev_types.specs.declared.settings.Marks.{Marks}
use Rattle.ev_types.specs.declared.settings.Timeouts.{Timeouts}
use Rattle.script_text.specs.Numbers.{number_within, bytes_of}
use Rattle.script_text.specs.FilterNames.{filter_kind_of}
use Rattle.script_text.specs.Ends.{side_of, link_of, end_of}
use Rattle.script_text.specs.Limits.{limit_said}
use Rattle.script_text.specs.GroupsAndPlans.{group_of, group_set_of, planned_of}
use Rattle.script_text.specs.ValueGrammar.{◌>>=◌}
use Rattle.ev_types.specs.declared.turn_line.TurnLine.{TurnLine}
use Rattle.ev_types.specs.declared.turn_line.TurnLine.TheVariants as turn
use Rattle.script_text.specs.declared.line.Keyword.{Keyword}
use Rattle.script_text.specs.declared.line.Keyword.TheVariants.{Set, At, Open, Conn, Pending, Eof, ReadFail, Take, WriteFail, Spur}
use Rattle.script_text.specs.declared.line.Keyword.TheVariants.{PollFail, On}
use Rattle.script_text.specs.declared.setting.Setting.{Setting}
use Rattle.script_text.specs.declared.setting.Setting.TheVariants as setting
use Rattle.script_text.specs.declared.setting.SettingName.{SettingName}
use Rattle.script_text.specs.declared.setting.SettingName.TheVariants as name
use Rattle.script_text.specs.declared.line.Line.{Line}
use Rattle.script_text.specs.declared.line.Line.TheVariants as line

-- the kind of a line, by its first word
abbrev pub keyword_of : List ℕ → Option Keyword
keyword_of word =
    if bytes_eq word (codes "set") then Some Set
    else (if bytes_eq word (codes "at") then Some At
    else (if bytes_eq word (codes "open") then Some Open
    else (if bytes_eq word (codes "conn") then Some Conn
    else (if bytes_eq word (codes "r") then Some Pending
    else (if bytes_eq word (codes "eof") then Some Eof
    else (if bytes_eq word (codes "rfail") then Some ReadFail
    else (if bytes_eq word (codes "w") then Some Take
    else (if bytes_eq word (codes "wfail") then Some WriteFail
    else (if bytes_eq word (codes "spur") then Some Spur
    else (if bytes_eq word (codes "pollfail") then Some PollFail
    else (if bytes_eq word (codes "on") then Some On
    else None)))))))))))

-- whether a connection is made
abbrev pub made_of : List ℕ → Option Bool
made_of word = if bytes_eq word (codes "ok") then Some true else (if bytes_eq word (codes "fail") then Some false else None)

-- how many bytes more may be taken: any number, or so many, at most 2^40
abbrev pub more_of : List ℕ → Option (Option ℕ)
more_of word = if bytes_eq word (codes "all") then Some None else option_map (λ n. Some n) (number_within (2 ^ 40) word)

-- what a line says of the end that two words name
abbrev pub of_end : (SideId → TurnLine) → List ℕ → List ℕ → Option Line
of_end what link side = option_map (λ e. line.Within (what e)) (end_of link side)

-- which setting a word names
abbrev pub setting_name_of : List ℕ → Option SettingName
setting_name_of word =
    if bytes_eq word (codes "hold") then Some name.Hold
    else (if bytes_eq word (codes "marks") then Some name.Marks
    else (if bytes_eq word (codes "timeouts") then Some name.Timeouts
    else (if bytes_eq word (codes "in-read") then Some (name.Filter In Read)
    else (if bytes_eq word (codes "in-write") then Some (name.Filter In Write)
    else (if bytes_eq word (codes "out-read") then Some (name.Filter Out Read)
    else (if bytes_eq word (codes "out-write") then Some (name.Filter Out Write)
    else (if bytes_eq word (codes "rate") then Some name.Rate
    else (if bytes_eq word (codes "group") then Some name.Group
    else (if bytes_eq word (codes "member") then Some name.Member
    else None)))))))))

-- the hold mark, of 1 to 2^24 bytes
abbrev pub hold_of : List ℕ → Option ℕ
hold_of word = number_within (2 ^ 24) word >>= (λ n. if nat_lt 0 n then Some n else None)

-- four marks, each at most 2^24 bytes: low and high for reading, low and high for writing
abbrev pub side_marks_of : List ℕ → List ℕ → List ℕ → List ℕ → Option Marks
side_marks_of read_low read_high write_low write_high = do
  rl ← number_within (2 ^ 24) read_low
  rh ← number_within (2 ^ 24) read_high
  wl ← number_within (2 ^ 24) write_low
  wh ← number_within (2 ^ 24) write_high
  Some (record { read_low = rl; read_high = rh; write_low = wl; write_high = wh })

-- the timeouts for reading and for writing, each at most 2^40 ms
abbrev pub side_timeouts_of : List ℕ → List ℕ → Option Timeouts
side_timeouts_of read write = do
  r ← number_within (2 ^ 40) read
  w ← number_within (2 ^ 40) write
  Some (record { read_ms = r; write_ms = w })

-- what a line sets that names a setting, by the words behind the name
abbrev pub set_by : SettingName → List (List ℕ) → Option Setting
set_by name.Hold (bytes ∷ []) = option_map (λ n. setting.Hold n) (hold_of bytes)
set_by name.Marks (side ∷ rl ∷ rh ∷ wl ∷ wh ∷ []) =
    side_of side >>= (λ s. option_map (λ marks. setting.Marks s marks) (side_marks_of rl rh wl wh))
set_by name.Timeouts (side ∷ r ∷ w ∷ []) =
    side_of side >>= (λ s. option_map (λ timeouts. setting.Timeouts s timeouts) (side_timeouts_of r w))
set_by (name.Filter side dir) (filter ∷ []) = option_map (λ kind. setting.Filter side dir kind) (filter_kind_of filter)
set_by name.Rate (side ∷ numbers) = side_of side >>= (λ s. option_map (λ limit. setting.Rate s limit) (limit_said numbers))
set_by name.Group (number ∷ rr ∷ rb ∷ wr ∷ wb ∷ tick ∷ share ∷ []) =
    group_of number >>= (λ n. option_map (λ group. setting.Group n group) (group_set_of rr rb wr wb tick share))
set_by name.Member (side ∷ number ∷ []) = side_of side >>= (λ s. option_map (λ n. setting.Member s n) (group_of number))
set_by _ _ = None

-- What a line of a kind says by its further words. A moment is at most 2^40 ms.
abbrev pub said_by : Keyword → List (List ℕ) → Option Line
said_by Set (what ∷ more) = setting_name_of what >>= (λ named. option_map (λ s. line.Set s) (set_by named more))
said_by At (ms ∷ []) = option_map (λ n. line.At n) (number_within (2 ^ 40) ms)
said_by Open [] = Some (line.Within (turn.NewLink false))
said_by Open (word ∷ []) = if bytes_eq word (codes "wait") then Some (line.Within (turn.NewLink true)) else None
said_by Conn (link ∷ word ∷ []) =
    option_and_then (λ made. option_map (λ l. line.Within (turn.Conn l made)) (link_of link)) (made_of word)
said_by Pending (link ∷ side ∷ digits ∷ []) =
    option_and_then (λ e. option_map (λ bytes. line.Within (turn.Pending e bytes)) (bytes_of digits)) (end_of link side)
said_by Eof (link ∷ side ∷ []) = of_end (λ e. turn.Eof e) link side
said_by ReadFail (link ∷ side ∷ []) = of_end (λ e. turn.ReadFail e) link side
said_by Take (link ∷ side ∷ count ∷ []) = option_and_then (λ more. of_end (λ e. turn.Take e more) link side) (more_of count)
said_by WriteFail (link ∷ side ∷ []) = of_end (λ e. turn.WriteFail e) link side
said_by Spur (link ∷ side ∷ []) = of_end (λ e. turn.Spur e) link side
said_by PollFail [] = Some (line.Within turn.PollFail)
said_by On (link ∷ side ∷ why ∷ nth ∷ act) = planned_of link side why nth act
said_by _ _ = None

-- a word that begins a comment
abbrev pub is_comment : List ℕ → Bool
is_comment [] = false
is_comment (b ∷ bs) = b == 35

-- What a line says, by all its words. A line without words and a comment are skipped.
abbrev pub said : List (List ℕ) → Option Line
said [] = Some line.Skipped
said (first ∷ more) =
    if is_comment first then Some line.Skipped else option_and_then (λ keyword. said_by keyword more) (keyword_of first)
