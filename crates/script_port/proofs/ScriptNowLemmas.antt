-- Where lines and calls leave a script port in the running turn.
use Rattle.std.proofs.Common.{◌≡◌, ℕ, ◌+◌, ◌<◌, Bool, true, false, ◌||◌, List, [], ◌∷◌, ◌++◌, Option, Some, None, refl, sym, ap, subst, ◌∙◌}
use Rattle.std.proofs.Common.{arith, append_assoc, append-nil, inl, inr}
use Rattle.std.specs.List.{list_any}
use Rattle.std.proofs.lemmas.Bool.Decides.{eqb_tells}
use Rattle.ev_types.specs.declared.side.Side.TheVariants.{In}
use Rattle.ev_types.specs.declared.side.SideId.{SideId}
use Rattle.ev_types.specs.declared.turn_line.TurnLine.{TurnLine}
use Rattle.ev_types.specs.declared.turn_line.TurnLine.TheVariants as line
use Rattle.relay_model.specs.Lines.{marks_all, fails_poll}
use Rattle.script_port.specs.ScriptState.{EndState, LinksState}
use Rattle.script_port.specs.ScriptEnds.{end_after_line, same_turn, is_spurred, accepted}
use Rattle.ev_types.specs.Sides.{number}
use Rattle.script_port.specs.ScriptLinks.{end_of, at_end, out_end, after_line, after_lines, entered, accept_first}
use Rattle.script_port.specs.ScriptNow.{RunsTurn}
use Rattle.script_port.specs.ScriptClosing.{closing_end, closing_ends}
use Rattle.script_port.proofs.ListLemmas.{slice_get-mapped}
use Rattle.script_port.proofs.ScriptStandLemmas.{any-push, end_changed, map_some, from_some}
use Rattle.script_port.proofs.ScriptTraceLemmas.{or_false, Like}

-- Calls

pub runs-like : (now : List TurnLine) (n : ℕ) (l new : LinksState) → Like l new → RunsTurn now n l → RunsTurn now n new
runs-like now n l new k h = record {
  poll = k.poll_fails ∙ h.poll;
  spurs = λ e s found.
      let old = k.ends e s found in
      (λ i. same_turn (k.turn i) (old.2.said.spurred i)) ∙ h.spurs e old.0 old.1;
  earlier = λ e s found turn is.
      let old = k.ends e s found in
      h.earlier e old.0 old.1 turn (sym old.2.said.spurred ∙ is);
}

pub runs-at_end : (now : List TurnLine) (n : ℕ) (side : SideId) (f : EndState → EndState) (l : LinksState) →
    ((s : EndState) → (f s).spurred ≡ s.spurred) → RunsTurn now n l → RunsTurn now n (at_end side f l)
runs-at_end now n side f l same h = record {
  poll = h.poll;
  spurs = λ e s found.
      elim (end_changed side e f l s found) [
        | inl own ↦ ap (λ (z : EndState). is_spurred l.turn z) own.1.2 ∙ ap (same_turn l.turn) (same own.1.0) ∙ h.spurs e own.1.0 own.1.1
        | inr stayed ↦ h.spurs e s stayed.1
      ];
  earlier = λ e s found turn is.
      elim (end_changed side e f l s found) [
        | inl own ↦ h.earlier e own.1.0 own.1.1 turn (sym (same own.1.0) ∙ ap (λ (z : EndState). z.spurred) (sym own.1.2) ∙ is)
        | inr stayed ↦ h.earlier e s stayed.1 turn is
      ];
}

pub runs-accept : (now : List TurnLine) (n link : ℕ) (ws : List Bool) (l : LinksState) → RunsTurn now n l → RunsTurn now n
    (accept_first link ws l)
runs-accept now n link [] l h = h
runs-accept now n link (wait ∷ ws) l h =
    let fewer : LinksState = record l { waiting = ws } in
    let in_end : SideId = record { link = link; side = In } in
    runs-at_end now n (out_end link) (accepted _) (at_end in_end (accepted true) fewer) (λ s. refl)
    (runs-at_end now n in_end (accepted true) fewer (λ s. refl) (record { poll = h.poll; spurs = h.spurs; earlier = h.earlier }))

-- A turn begins

fresh : (k : ℕ) (o : Option ℕ) → ((turn : ℕ) → o ≡ Some turn → turn < k) → same_turn (Some k) o ≡ false
fresh k None h = refl
fresh k (Some turn) h = let less = h turn refl in elim (eqb_tells k turn) [
  | inl t ↦ absurd
      (let e = t.1 in omega (arith, less, e))
  | inr t ↦ t.0
]

pub runs-entered : (now : List TurnLine) (k : ℕ) (l : LinksState) → RunsTurn now k l → RunsTurn [] (k + 1) (entered (Some k) l)
runs-entered now k l h = record {
  poll = refl;
  spurs = λ e s found. fresh k s.spurred (h.earlier e s found);
  earlier = λ e s found turn is. let before = h.earlier e s found turn is in omega (arith, before);
}

-- A closing turn has no lines.
pub runs-closing : (now : List TurnLine) (k : ℕ) (l : LinksState) → RunsTurn now k l → RunsTurn [] (k + 1)
    (closing_ends (entered None l))
runs-closing now k l h = record {
  poll = refl;
  spurs = λ e s found. refl;
  earlier = λ e s found turn is.
      let old = map_some closing_end (end_of l e) s (sym (slice_get-mapped closing_end l.ends (number e)) ∙ found) in
      let before = h.earlier e old.0 old.1 turn (ap (λ (z : EndState). z.spurred) (sym old.2) ∙ is) in
      omega (arith, before);
}

-- One line

-- a line that says nothing of one turn alone
still : (now : List TurnLine) (n : ℕ) (y : TurnLine) (l : LinksState) → fails_poll y ≡ false →
    ((e : SideId) → marks_all e y ≡ false) → RunsTurn now n l → RunsTurn (now ++ y ∷ []) n l
still now n y l fails marks h = record {
  poll = h.poll ∙ sym (any-push fails_poll now y ∙ ap (λ z. list_any fails_poll now || z) fails ∙ or_false (list_any fails_poll now));
  spurs = λ e s found. h.spurs e s found ∙ sym (any-push (marks_all e) now y ∙ ap (λ z. list_any (marks_all e) now || z) (marks e)
      ∙ or_false (list_any (marks_all e) now));
  earlier = h.earlier;
}

or_true : (b : Bool) → (b || true) ≡ true
or_true true = refl
or_true false = refl

same_turn-self : (k : ℕ) (o : Option ℕ) → o ≡ Some k → same_turn o o ≡ true
same_turn-self k o is = ap (λ z. same_turn z z) is ∙ elim (eqb_tells k k) [ inl t ↦ t.0 | inr t ↦ absurd (t.1 refl) ]

-- all that is wanted of an end is marked in the turn that runs
spurred : (now : List TurnLine) (k : ℕ) (side : SideId) (l : LinksState) → l.turn ≡ Some k → RunsTurn now (k + 1) l → RunsTurn
    (now ++ line.Spur side ∷ []) (k + 1) (at_end side (λ s. record s { spurred = l.turn }) l)
spurred now k side l runs h = record {
  poll = h.poll ∙ sym (any-push fails_poll now (line.Spur side) ∙ or_false (list_any fails_poll now));
  spurs = λ e s found.
      elim (end_changed side e (λ x. record x { spurred = l.turn }) l s found) [
        | inl own ↦
            ap (λ (z : EndState). is_spurred l.turn z) own.1.2 ∙ same_turn-self k l.turn runs
            ∙ sym (any-push (marks_all e) now (line.Spur side) ∙ ap (λ z. list_any (marks_all e) now || z) own.0 ∙ or_true
            (list_any (marks_all e) now))
        | inr other ↦
            h.spurs e s other.1
            ∙ sym (any-push (marks_all e) now (line.Spur side) ∙ ap (λ z. list_any (marks_all e) now || z) other.0 ∙ or_false
            (list_any (marks_all e) now))
      ];
  earlier = λ e s found turn is.
      elim (end_changed side e (λ x. record x { spurred = l.turn }) l s found) [
        | inl own ↦
            let same : turn ≡ k = from_some turn k (sym is ∙ ap (λ (z : EndState). z.spurred) own.1.2 ∙ runs) in
            omega (arith, same)
        | inr other ↦ h.earlier e s other.1 turn is
      ];
}

runs-line : (now : List TurnLine) (k : ℕ) (x : TurnLine) (l : LinksState) → l.turn ≡ Some k → RunsTurn now (k + 1) l → RunsTurn
    (now ++ x ∷ []) (k + 1) (after_line x l)
runs-line now k (line.NewLink wait) l runs h = still now (k + 1) (line.NewLink wait) (after_line (line.NewLink wait) l) refl
    (λ e. refl) (record { poll = h.poll; spurs = h.spurs; earlier = h.earlier })
runs-line now k line.PollFail l runs h = record {
  poll = sym (any-push fails_poll now line.PollFail ∙ or_true (list_any fails_poll now));
  spurs = λ e s found. h.spurs e s found ∙ sym (any-push (marks_all e) now line.PollFail ∙ or_false (list_any (marks_all e) now));
  earlier = h.earlier;
}
runs-line now k (line.Conn link connected) l runs h =
    still now (k + 1) (line.Conn link connected) (after_line (line.Conn link connected) l) refl (λ e. refl)
    (runs-at_end now (k + 1) (out_end link) (end_after_line l.turn (line.Conn link connected)) l (λ s. refl) h)
runs-line now k (line.Pending side bytes) l runs h =
    still now (k + 1) (line.Pending side bytes) (after_line (line.Pending side bytes) l) refl (λ e. refl)
    (runs-at_end now (k + 1) side (end_after_line l.turn (line.Pending side bytes)) l (λ s. refl) h)
runs-line now k (line.Eof side) l runs h =
    still now (k + 1) (line.Eof side) (after_line (line.Eof side) l) refl (λ e. refl) (runs-at_end now (k + 1) side
    (end_after_line l.turn (line.Eof side)) l (λ s. refl) h)
runs-line now k (line.ReadFail side) l runs h =
    still now (k + 1) (line.ReadFail side) (after_line (line.ReadFail side) l) refl (λ e. refl)
    (runs-at_end now (k + 1) side (end_after_line l.turn (line.ReadFail side)) l (λ s. refl) h)
runs-line now k (line.Take side more) l runs h =
    still now (k + 1) (line.Take side more) (after_line (line.Take side more) l) refl (λ e. refl)
    (runs-at_end now (k + 1) side (end_after_line l.turn (line.Take side more)) l (λ s. refl) h)
runs-line now k (line.WriteFail side) l runs h =
    still now (k + 1) (line.WriteFail side) (after_line (line.WriteFail side) l) refl (λ e. refl)
    (runs-at_end now (k + 1) side (end_after_line l.turn (line.WriteFail side)) l (λ s. refl) h)
runs-line now k (line.Spur side) l runs h = spurred now k side l runs h

-- no line changes which turn runs
line_runs : (x : TurnLine) (l : LinksState) → (after_line x l).turn ≡ l.turn
line_runs (line.NewLink wait) l = refl
line_runs line.PollFail l = refl
line_runs (line.Conn link connected) l = refl
line_runs (line.Pending side bytes) l = refl
line_runs (line.Eof side) l = refl
line_runs (line.ReadFail side) l = refl
line_runs (line.Take side more) l = refl
line_runs (line.WriteFail side) l = refl
line_runs (line.Spur side) l = refl

-- lines in their order
pub runs-lines : (now : List TurnLine) (k : ℕ) (xs : List TurnLine) (l : LinksState) → l.turn ≡ Some k → RunsTurn now (k + 1) l →
    RunsTurn (now ++ xs) (k + 1) (after_lines xs l)
runs-lines now k [] l runs h = subst (λ z. RunsTurn z (k + 1) l) (sym (append-nil now)) h
runs-lines now k (x ∷ xs) l runs h =
    subst (λ z. RunsTurn z (k + 1) (after_lines xs (after_line x l))) (append_assoc now (x ∷ []) xs)
    (runs-lines (now ++ x ∷ []) k xs (after_line x l) (line_runs x l ∙ runs) (runs-line now k x l runs h))
