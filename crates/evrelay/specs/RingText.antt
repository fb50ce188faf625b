-- The text of the last entries of a run: their lines, with the number of the bytes in place of the bytes.
use Rattle.std.specs.Prelude.{◌≡◌, ℕ, ◌-◌, List, [], ◌∷◌, codes, drop, length}
use Rattle.std.specs.declared.alloc.Global.{Global}
use Rattle.std.specs.declared.vec.Vec.{Vec}
use Rattle.std.specs.List.{flat_map}
use Rattle.std.specs.Fmt.{decimal}
use Rattle.ev_types.specs.declared.answer.ReadAnswer.TheVariants as read
use Rattle.ev_types.specs.declared.answer.WriteAnswer.TheVariants as write
use Rattle.ev_types.specs.declared.side.SideId.{SideId}
use Rattle.ev_types.specs.declared.entry.Entry.{Entry}
use Rattle.ev_types.specs.declared.entry.Entry.TheVariants as entry
use Rattle.script_text.specs.Lines.{line_of, side_word}
use Rattle.script_text.specs.Room.{GrewBy, room_of}
use Rattle.script_text.specs.TraceText.{entry_words}

-- the line of a call that moved so many bytes of at most so many
abbrev pub moved_line : List ℕ → SideId → ℕ → List ℕ → ℕ → List ℕ
moved_line call e most answer count =
    line_of (call ∷ decimal e.link ∷ side_word e.side ∷ decimal most ∷ answer ∷ decimal count ∷ [])

abbrev pub counted_line : Entry → List ℕ
counted_line (entry.Read e room (read.Got n)) = moved_line (codes "read") e room (codes "got") n
counted_line (entry.Write e offered (write.Took n)) = moved_line (codes "write") e offered (codes "took") n
counted_line x = line_of (entry_words x [])

abbrev pub ring_text : List Entry → List ℕ
ring_text entries = flat_map counted_line entries

-- A text grew by the lines of some entries but for the first so many, of which so many are not among them.
pub record SpeltBehind (entries : List Entry) (passed left : ℕ) (old new : Vec ℕ Global) : Type 0 where
  pub fewer : left ≡ passed - length entries
  pub grew : GrewBy (ring_text (drop passed entries)) (room_of (length entries - passed) 0) old new
