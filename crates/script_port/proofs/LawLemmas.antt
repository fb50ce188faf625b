-- What lines and reads make of the bytes of an end.
use Rattle.std.proofs.Common.{◌≡◌, ◌≢◌, ℕ, List, [], ◌∷◌, ◌++◌, Some, refl, sym, ap, ◌∙◌, append_assoc, append-nil, inl, inr}
use Rattle.std.specs.Prelude.{option_map, slice_get, IsSomeAnd}
use Rattle.std.proofs.lemmas.Bool.{cases_eq}
use Rattle.ev_types.specs.Sides.{number}
use Rattle.ev_types.specs.declared.side.SideId.{SideId}
use Rattle.ev_types.specs.declared.turn_line.TurnLine.{TurnLine}
use Rattle.ev_types.specs.declared.turn_line.TurnLine.TheVariants as line
use Rattle.script_port.specs.ScriptState.{EndState, LinksState}
use Rattle.script_port.specs.ScriptEnds.{end_after_line}
use Rattle.script_port.specs.ScriptLinks.{at_end, out_end, end_of, after_line, after_lines}
use Rattle.script_port.specs.ScriptKept.{line_bytes, bytes_of}
use Rattle.script_port.proofs.ListLemmas.{slice_get-changed_same, slice_get-changed_other}
use Rattle.script_port.proofs.ScriptLemmas.{bytes_here, bytes_elsewhere}

-- these bytes came in behind what was pending, and nothing else of an end's bytes changed
record Came (before after : EndState) (bytes : List ℕ) : Type 0 where
  pending : after.pending ≡ before.pending ++ bytes
  given : after.given ≡ before.given
  taken : after.taken ≡ before.taken

Came-none : (s : EndState) → Came s s []
Came-none s = record { pending = sym (append-nil s.pending); given = refl; taken = refl }

Came-join : (a b c : EndState) (xs ys : List ℕ) → Came a b xs → Came b c ys → Came a c (xs ++ ys)
Came-join a b c xs ys p q = record {
  pending = q.pending ∙ ap (λ t. t ++ ys) p.pending ∙ append_assoc a.pending xs ys;
  given = q.given ∙ p.given;
  taken = q.taken ∙ p.taken;
}

-- a change at one end, seen at another
changed_there : (side e : SideId) (f : EndState → EndState) (l : LinksState) (s : EndState) (here : List ℕ) (bytes : List ℕ) →
    end_of l e ≡ Some s → (number e ≡ number side → bytes ≡ here) → (number e ≢ number side → bytes ≡ []) → Came s (f s) here →
    (t : EndState) × (end_of (at_end side f l) e ≡ Some t) × Came s t bytes
changed_there side e f l s here bytes found same other came =
    elim (cases_eq (number e) (number side)) [
      | inl at ↦
          let now = slice_get-changed_same f l.ends (number side) in
          let before : slice_get l.ends (number side) ≡ Some s = ap (slice_get l.ends) (sym at) ∙ found in
          (f s, ap (slice_get (at_end side f l).ends) at ∙ now ∙ ap (option_map f) before, rw (same at) came)
      | inr off ↦ (s, slice_get-changed_other f l.ends (number side) (number e) off ∙ found, rw (other off) (Came-none s))
    ]

-- a change that brings in no bytes
quiet_line : (side e : SideId) (f : EndState → EndState) (l : LinksState) (s : EndState) → end_of l e ≡ Some s →
    ((t : EndState) → Came t (f t) []) → (t : EndState) × (end_of (at_end side f l) e ≡ Some t) × Came s t []
quiet_line side e f l s found came = changed_there side e f l s [] [] found (λ _. refl) (λ _. refl) (came s)

one_line : (x : TurnLine) (l : LinksState) (e : SideId) (s : EndState) → end_of l e ≡ Some s → (t : EndState) ×
    (end_of (after_line x l) e ≡ Some t) × Came s t (line_bytes (number e) x)
one_line (line.NewLink wait) l e s found = (s, found, Came-none s)
one_line line.PollFail l e s found = (s, found, Came-none s)
one_line (line.Conn link connected) l e s found = quiet_line (out_end link) e (end_after_line l.turn (line.Conn link connected)) l
    s found (λ t. record { pending = sym (append-nil t.pending); given = refl; taken = refl })
one_line (line.Pending side bytes) l e s found =
    changed_there side e (end_after_line l.turn (line.Pending side bytes)) l s bytes (line_bytes (number e)
    (line.Pending side bytes)) found (bytes_here side bytes (number e)) (bytes_elsewhere side bytes (number e))
    (record { pending = refl; given = refl; taken = refl })
one_line (line.Eof side) l e s found = quiet_line side e (end_after_line l.turn (line.Eof side)) l s found
    (λ t. record { pending = sym (append-nil t.pending); given = refl; taken = refl })
one_line (line.ReadFail side) l e s found = quiet_line side e (end_after_line l.turn (line.ReadFail side)) l s found
    (λ t. record { pending = sym (append-nil t.pending); given = refl; taken = refl })
one_line (line.Take side more) l e s found = quiet_line side e (end_after_line l.turn (line.Take side more)) l s found
    (λ t. record { pending = sym (append-nil t.pending); given = refl; taken = refl })
one_line (line.WriteFail side) l e s found = quiet_line side e (end_after_line l.turn (line.WriteFail side)) l s found
    (λ t. record { pending = sym (append-nil t.pending); given = refl; taken = refl })
one_line (line.Spur side) l e s found = quiet_line side e (end_after_line l.turn (line.Spur side)) l s found
    (λ t. record { pending = sym (append-nil t.pending); given = refl; taken = refl })

all_lines : (xs : List TurnLine) (l : LinksState) (e : SideId) (s : EndState) → end_of l e ≡ Some s → (t : EndState) ×
    (end_of (after_lines xs l) e ≡ Some t) × Came s t (bytes_of (number e) xs)
all_lines [] l e s found = (s, found, Came-none s)
all_lines (x ∷ xs) l e s found =
    let one = one_line x l e s found in
    let more = all_lines xs (after_line x l) e one.0 one.1 in
    (more.0, more.1, Came-join s one.0 more.0 (line_bytes (number e) x) (bytes_of (number e) xs) one.2 more.2)

pub lines_bring : (xs : List TurnLine) (l : LinksState) (e : SideId) (s : EndState) → end_of l e ≡ Some s →
    IsSomeAnd (end_of (after_lines xs l) e) (λ t. (t.pending ≡ s.pending ++ bytes_of (number e) xs) × (t.given ≡ s.given) ×
    (t.taken ≡ s.taken))
lines_bring xs l e s found =
    let all = all_lines xs l e s found in
    rw all.1 (all.2.pending, all.2.given, all.2.taken)
