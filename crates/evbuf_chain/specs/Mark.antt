-- The marks that added references leave on the bytes of a buffer. Which call changes them how stands with the calls.
use Rattle.std.specs.Prelude.{◌≡◌, ℕ, zero, suc, ◌==◌, nat_le, if◌then◌else◌, Option, Some, None, List, [], ◌∷◌, ◌++◌, length, replicate}

-- A byte of an added reference has its mark: the ticket of the reference, and how many bytes of the reference
-- stand behind this one. Bytes leave a reference from its front alone, so its last mark is the one with no byte
-- behind. Two references with one ticket are two, since the marks of each run down to 0.
pub record Mark : Type 0 where
  pub ticket : ℕ
  pub behind : ℕ

-- for each byte of a buffer, front first, the mark that it has, or none
abbrev pub Marks : Type 0
Marks = List (Option Mark)

-- the marks of so many bytes that are in the buffer's own memory: none
abbrev pub unmarked : ℕ → Marks
unmarked n = replicate n None

-- the marks of a whole reference of so many bytes
abbrev pub reference_marks : ℕ → ℕ → Marks
reference_marks of_ticket zero = []
reference_marks of_ticket (suc n) = Some (record { ticket = of_ticket; behind = n }) ∷ reference_marks of_ticket n

-- the ticket of a mark that is the last of its reference
abbrev pub last_ticket : Mark → List ℕ
last_ticket mark = if mark.behind == 0 then mark.ticket ∷ [] else []

-- the tickets of the references whose last mark is among these, front first
abbrev pub ended_tickets : Marks → List ℕ
ended_tickets [] = []
ended_tickets (None ∷ marks) = ended_tickets marks
ended_tickets (Some mark ∷ marks) = last_ticket mark ++ ended_tickets marks

-- a mark, where all the rest of its reference is among the bytes behind, of which there are so many
abbrev pub uncut_mark : ℕ → Mark → Option Mark
uncut_mark bytes_behind mark = if nat_le mark.behind bytes_behind then Some mark else None

-- the marks, but none for a reference that goes on beyond the last byte
abbrev pub uncut_marks : Marks → Marks
uncut_marks [] = []
uncut_marks (None ∷ marks) = None ∷ uncut_marks marks
uncut_marks (Some mark ∷ marks) = uncut_mark (length marks) mark ∷ uncut_marks marks

-- behind each marked byte stands all the rest of its reference
abbrev pub AreWhole : Marks → Type 0
AreWhole [] = Unit {0}
AreWhole (None ∷ marks) = AreWhole marks
AreWhole (Some mark ∷ marks) =
    ((rest : Marks) × (marks ≡ reference_marks mark.ticket mark.behind ++ rest)) × AreWhole marks
