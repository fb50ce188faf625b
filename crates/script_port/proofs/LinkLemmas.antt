-- What a call on one end makes of all links.
use Rattle.std.proofs.Common.{◌≡◌, ℕ, ◌+◌, ◌-◌, ◌^◌, ◌<◌, Bool, true, false, ◌==◌, ◌&&◌, ◌||◌, not, if◌then◌else◌, List, [], ◌∷◌}
use Rattle.std.proofs.Common.{◌++◌, length, get_or, set, map}
use Rattle.std.proofs.Common.{take, drop, Option, Some, None, refl, sym, ap, subst, ◌∙◌, arith}
use Rattle.std.specs.Prelude.{slice_get, option_map}
use Rattle.std.specs.Option.{option_map_or}
use Rattle.std.proofs.Math.Path.{fun_ext}
use Rattle.ev_types.specs.declared.side.SideId.{SideId}
use Rattle.ev_types.specs.declared.answer.WriteAnswer.{WriteAnswer}
use Rattle.ev_types.specs.declared.answer.WriteAnswer.TheVariants as write
use Rattle.ev_types.specs.Sides.{number}
use Rattle.std.proofs.lemmas.List.{get_or_default, get_or_at, drop_more, length-map, length-take}
use Rattle.std.proofs.lemmas.List.Edits.{map_over_more}
use Rattle.ev_port.specs.declared.port.Want.{Want}
use Rattle.ev_port.specs.Marking.{marks_by, after_marks}
use Rattle.script_port.specs.ScriptState.{EndState, EndKept, LinksKept, LinksState}
use Rattle.script_port.specs.ScriptKept.{Wrote}
use Rattle.script_port.specs.ScriptEnds.{after_write, write_answer, can_read, can_write, is_spurred, wanted}
use Rattle.script_port.specs.ScriptLinks.{end_of, at_end, marked, unmarked, polled, after_wants, taken_at, beyond_answer}
use Rattle.script_port.specs.ScriptLinks.{write_answer_at, WroteAt}
use Rattle.script_port.specs.ScriptPort.{poll_marks}
use Rattle.script_port.proofs.ListLemmas.{changed_set, same_set, part_read, slice_get-changed_same, told-changed}

abbrev states : List EndKept → List EndState
states es = map (λ e. e.state) es

took : (waiting : List Bool) (turn : Option ℕ) (fails closing : Bool) (es : List EndKept) (e : SideId) (k : ℕ) (x y : EndKept)
    (from : List ℕ) → k ≡ number e → k < length es → x ≡ get_or es k x → y ≡ record x { state = after_write x.state from } →
    ◌≡◌ {A = LinksState} (record { waiting = waiting; ends = states (set es k y); turn = turn; poll_fails = fails; closing = closing })
    (at_end e (λ s. after_write s from)
    (record { waiting = waiting; ends = states es; turn = turn; poll_fails = fails; closing = closing }))
took waiting turn fails closing es e k x y from n within read w =
    let whole = changed_set (λ e. e.state) (λ s. after_write s from) es k x y within read (ap (λ e. e.state) w) in
    rw (whole, n)

answers : (waiting : List Bool) (turn : Option ℕ) (fails closing : Bool) (es : List EndKept) (e : SideId) (k : ℕ) (x : EndKept) (offer : ℕ)
    → k ≡ number e → k < length es → x ≡ get_or es k x →
    write_answer_at (record { waiting = waiting; ends = states es; turn = turn; poll_fails = fails; closing = closing }) e offer ≡
    write_answer x.state offer
answers waiting turn fails closing es e k x offer n within read =
    let found = part_read (λ e. e.state) es k x within read in
    rw (← n, found)

keeps : (waiting : List Bool) (turn : Option ℕ) (fails closing : Bool) (es : List EndKept) (e : SideId) (k : ℕ) (x y : EndKept) → k ≡
    number e → k < length es → x ≡ get_or es k x → length y.state.taken < 2 ^ 64 - 1 →
    length (taken_at (record {
      waiting = waiting;
      ends = states
          (set es k y);
      turn = turn;
      poll_fails = fails;
      closing = closing;
    }) e) < 2 ^ 64 - 1
keeps waiting turn fails closing es e k x y n within read h =
    let whole = changed_set (λ e. e.state) (λ _. y.state) es k x y within read refl in
    let found = part_read (λ e. e.state) es k x within read in
    let here : slice_get (states (set es k y)) (number e) ≡ Some y.state =
    ap (slice_get (states (set es k y))) (sym n) ∙ ap (λ z. slice_get z k) whole ∙ slice_get-changed_same (λ _. y.state)
    (states es) k ∙ ap (option_map (λ _. y.state)) found in
    subst (λ (o : Option EndState). length (option_map_or (λ (s : EndState). s.taken) o []) < 2 ^ 64 - 1) (sym here) h

-- a write to an end that there is
pub wrote_within : (waiting : List Bool) (turn : Option ℕ) (fails closing : Bool) (es : List EndKept) (e : SideId) (k : ℕ) (x y : EndKept)
    (from : List ℕ) (answer : WriteAnswer) → k ≡ number e → k < length es → x ≡ get_or es k x → Wrote x y from answer →
    WroteAt (record { waiting = waiting; ends = states es; turn = turn; poll_fails = fails; closing = closing })
    (record { waiting = waiting; ends = states (set es k y); turn = turn; poll_fails = fails; closing = closing }) e from answer
wrote_within waiting turn fails closing es e k x y from write.NoMemory n within read w =
    let same = same_set (λ e. e.state) es k x y read (ap (λ e. e.state) w.0) in (
      rw same,
      rw (answers waiting turn fails closing es e k x (length from) n within read) w.1,
      rw (answers waiting turn fails closing es e k x
          (length from) n within read) w.2,
    )
wrote_within waiting turn fails closing es e k x y from (write.Took count) n within read w = (
  took waiting turn fails closing es e k x y from n within read w.0,
  w.1 ∙ sym (answers waiting turn fails closing es e k x (length from) n
      within read),
  keeps waiting turn fails closing es e k x y n within read w.2,
)
wrote_within waiting turn fails closing es e k x y from write.NotYet n within read w = (
  took waiting turn fails closing es e k x y from n within read w.0,
  w.1 ∙ sym (answers waiting turn fails closing es e k x (length from) n
      within read),
  keeps waiting turn fails closing es e k x y n within read w.2,
)
wrote_within waiting turn fails closing es e k x y from write.Failed n within read w = (
  took waiting turn fails closing es e k x y from n within read w.0,
  w.1 ∙ sym (answers waiting turn fails closing es e k x (length from) n
      within read),
  keeps waiting turn fails closing es e k x y n within read w.2,
)

-- a write to an end that there is not
pub wrote_beyond : (l : LinksState) (e : SideId) (from : List ℕ) → end_of l e ≡ None →
    WroteAt l (at_end e (λ s. after_write s from) l) e from (beyond_answer l.closing (length from))
wrote_beyond l e from none = by_test (l.closing && not (length from == 0)) refl
  where
    here : end_of (at_end e (λ s. after_write s from) l) e ≡ None
    here = slice_get-changed_same (λ s. after_write s from) l.ends (number e) ∙ ap (option_map (λ s. after_write s from)) none

    answer : write_answer_at l e (length from) ≡ beyond_answer l.closing (length from)
    answer = ap (λ (o : Option EndState). option_map_or (λ s. write_answer s (length from)) o (beyond_answer l.closing (length from))) none

    fits : length (taken_at (at_end e (λ s. after_write s from) l) e) < 2 ^ 64 - 1
    fits = subst (λ (o : Option EndState). length (option_map_or (λ s. s.taken) o []) < 2 ^ 64 - 1) (sym here) (omega arith)

    by_test : (b : Bool) → (l.closing && not (length from == 0)) ≡ b →
        WroteAt l (at_end e (λ s. after_write s from) l) e from (if b then write.Took (length from) else write.NotYet)
    by_test true is = (refl, sym (answer ∙ ap (λ b. if b then write.Took (length from) else write.NotYet) is), fits)
    by_test false is = (refl, sym (answer ∙ ap (λ b. if b then write.Took (length from) else write.NotYet) is), fits)

-- a write leaves the bytes to come
pub keeps_to_come : (es : List EndKept) (k : ℕ) (x y : EndKept) (from : List ℕ) (answer : WriteAnswer) → x ≡ get_or es k x → Wrote
    x y from answer → map (λ e. e.to_come) (set es k y) ≡ map (λ e. e.to_come) es
keeps_to_come es k x y from write.NoMemory read w = same_set (λ e. e.to_come) es k x y read (ap (λ e. e.to_come) w.0)
keeps_to_come es k x y from (write.Took count) read w = same_set (λ e. e.to_come) es k x y read (ap (λ e. e.to_come) w.0)
keeps_to_come es k x y from write.NotYet read w = same_set (λ e. e.to_come) es k x y read (ap (λ e. e.to_come) w.0)
keeps_to_come es k x y from write.Failed read w = same_set (λ e. e.to_come) es k x y read (ap (λ e. e.to_come) w.0)

-- one more want is changed
pub marks_more : (f : Want → Want) (xs ys : List Want) (i : ℕ) (d r : Want) → i < length xs → i < length ys → ys ≡ map f
    (take i xs) ++ drop i xs → r ≡ f (get_or ys i d) → set ys i r ≡ map f (take (i + 1) xs) ++ drop (i + 1) xs
marks_more f xs ys i d r within also so_far e =
    ap (set ys i) e ∙ map_over_more f xs ys i (get_or ys i d) within so_far (get_or_default ys i d (get_or ys i d) also)

-- at an end that there is not, what is left of a mark
pub or_false : (b : Bool) → (b || false) ≡ b
or_false true = refl
or_false false = refl

-- counting a want leaves what is marked
pub marked-wanted : (l : LinksState) (e : SideId) (v w : Want) → marked (at_end e (wanted v) l) w ≡ marked l w
marked-wanted l e v w =
    let reads = told-changed can_read (wanted v) (λ s. refl) false l.ends (number e) (number w.side) in
    let writes = told-changed can_write (wanted v) (λ s. refl) l.closing l.ends (number e) (number w.side) in
    let spurs = told-changed (is_spurred l.turn) (wanted v) (λ s. refl) false l.ends (number e) (number w.side) in
    rw (reads, writes, spurs)

-- a poll that fails or not marks as before, too
pub polled-wanted : (l : LinksState) (e : SideId) (v w : Want) → polled (at_end e (wanted v) l) w ≡ polled l w
polled-wanted l e v w = ap (λ (m : Want). if l.poll_fails then unmarked w else m) (marked-wanted l e v w)

polled-side : (l : LinksState) (w : Want) → (polled l w).side ≡ w.side
polled-side l w = by_line l.poll_fails
  where
    by_line : (b : Bool) → (if b then unmarked w else marked l w).side ≡ w.side
    by_line true = refl
    by_line false = refl

marks-polled : (l : LinksState) (ws : List Want) → map (λ w. polled l w) ws ≡ poll_marks l ws
marks-polled l ws = by_line l.poll_fails
  where
    by_line : (b : Bool) → map (λ w. if b then unmarked w else marked l w) ws ≡ (if b then map unmarked ws else map (λ w. marked l w) ws)
    by_line true = refl
    by_line false = refl

-- Wants that are marked one by one

abbrev mark_one : LinksKept → Want → Want
mark_one k w = polled k.state w

abbrev after_one : LinksKept → Want → LinksKept
after_one k w = record k { state = at_end w.side (wanted (polled k.state w)) k.state }

marks-kept : (ws : List Want) (k : LinksKept) → marks_by mark_one after_one k ws ≡ map (λ w. polled k.state w) ws
marks-kept [] k = refl
marks-kept (w ∷ ws) k =
    ap (λ ms. polled k.state w ∷ ms) (marks-kept ws (after_one k w)
    ∙ ap (λ (f : Want → Want). map f ws) (fun_ext (λ x. polled-wanted k.state w.side (polled k.state w) x)))

after-kept : (ws : List Want) (k : LinksKept)
    → after_marks after_one k ws ≡ record k { state = after_wants (map (λ w. polled k.state w) ws) k.state }
after-kept [] k = refl
after-kept (w ∷ ws) k =
    after-kept ws (after_one k w)
    ∙ ap (λ (f : Want → Want). record k { state = after_wants (map f ws) (at_end w.side (wanted (polled k.state w)) k.state) })
    (fun_ext (λ x. polled-wanted k.state w.side (polled k.state w) x))
    ∙ ap (λ e. record k { state = after_wants (map (λ x. polled k.state x) ws) (at_end e (wanted (polled k.state w)) k.state) })
    (sym (polled-side k.state w))

pub table-marks : (ws : List Want) (k : LinksKept) → marks_by mark_one after_one k ws ≡ poll_marks k.state ws
table-marks ws k = marks-kept ws k ∙ marks-polled k.state ws

pub table-after : (ws : List Want) (k : LinksKept)
    → after_marks after_one k ws ≡ record k { state = after_wants (poll_marks k.state ws) k.state }
table-after ws k = after-kept ws k ∙ ap (λ ms. record k { state = after_wants ms k.state }) (marks-polled k.state ws)

-- one more want is counted with its marks
pub wanted_more : (f : Want → Want) (xs ys : List Want) (i : ℕ) (d r : Want) (l next whole : LinksState) →
    ((w : Want) → (f w).side ≡ w.side) → i < length xs → ys ≡ map f (take i xs) ++ drop i xs → r ≡ f (get_or ys i d) → next ≡ at_end
    (get_or ys i d).side (wanted r) l → after_wants (map f (drop i xs)) l ≡ whole → after_wants (map f (drop (i + 1) xs)) next ≡ whole
wanted_more f xs ys i d r l next whole sided within so_far e after h =
    let x = get_or xs i d in
    let front = map f (take i xs) in
    let long : length front ≡ i = length-map (take i xs) f ∙ omega (arith, length-take i xs) in
    let parts : ys ≡ front ++ x ∷ drop (i + 1) xs = so_far ∙ ap (λ z. front ++ z) (drop_more xs i d within) in
    let read : get_or ys i d ≡ x = ap (λ z. get_or z i d) parts ∙ get_or_at front _ _ d i long in
    let marks : r ≡ f x = e ∙ ap f read in
    let named : (get_or ys i d).side ≡ (f x).side = ap (λ w. w.side) read ∙ sym (sided x) in
    let moved : next ≡ at_end (f x).side (wanted (f x)) l = after ∙ ap (λ n. at_end n (wanted r) l) named
    ∙ ap (λ w. at_end (f x).side (wanted w) l) marks in
    ap (after_wants (map f (drop (i + 1) xs))) moved ∙ ap (λ z. after_wants (map f z) l) (sym (drop_more xs i d within)) ∙ h

-- a want that was marked by one rule is marked by another that marks alike
pub marked_alike : (f g : Want → Want) → ((w : Want) → f w ≡ g w) → (ys : List Want) (i : ℕ) (d r : Want) → r ≡ f (get_or ys i d) → r ≡
    g (get_or ys i d)
marked_alike f g alike ys i d r e = e ∙ alike (get_or ys i d)
