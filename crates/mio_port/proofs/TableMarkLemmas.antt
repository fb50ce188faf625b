-- What a poll of a table marks: by the sets of the numbers that are ready it is what the ends tell, and it is a poll of a port
-- that tells nothing.
use Rattle.std.proofs.Common.{◌≡◌, ◌∙◌, ℕ, ◌==◌, ◌&&◌, ◌||◌, not, Bool, true, false, List, [], ◌∷◌}
use Rattle.std.proofs.Common.{Option, Some, None, map, sym, ap, refl, get_or, eqb-true, rules}
use Rattle.std.specs.Prelude.{filter, ⊤}
use Rattle.std.specs.List.{list_any}
use Rattle.std.proofs.Math.Path.{fun_ext}
use Rattle.std.proofs.lemmas.List.{get_or-map, length-map}
use Rattle.ev_types.specs.Sides.{number}
use Rattle.ev_types.specs.Trace.{Trace}
use Rattle.ev_port.specs.declared.port.Polled.{Polled}
use Rattle.ev_port.specs.declared.port.Polled.TheVariants as polled
use Rattle.ev_port.specs.declared.port.Want.{Want}
use Rattle.ev_port.specs.EndSteps.{AllWent}
use Rattle.ev_port.specs.Polling.{IsMarked, AllMarked, poll_step}
use Rattle.ev_port.specs.Silent.{silent_end}
use Rattle.ev_port.specs.Table.{WantsValue, TablePolled, is_marked, is_ready_by, marked_by, named}
use Rattle.number_set.specs.Numbers.{NumberSetValue}
use Rattle.mio_port.specs.declared.end.End.{End}
use Rattle.mio_port.specs.declared.turn.Turn.{Turn}
use Rattle.mio_port.specs.EndPlaces.{is_bulky, is_prompt, is_read_ready, is_write_ready, can_write, wants_ready, unmarked}
use Rattle.mio_port.specs.ReadTurns.{MarkedTable, gives_way, in_turn, marked_in_turn, marked_with, is_read_now, other_end, takes_turns}

-- The sets and the ends

-- the set has the number of each end that is ready in this way, and no other
abbrev pub Tells : NumberSetValue → List (Option End) → (Option End → Bool) → Type 0
Tells set ends is_ready = (n : ℕ) → set.has n ≡ is_ready (get_or ends n None)

-- an end that is ready for reading is bulky or isn't
pub ready-parts : (place : Option End) → (is_prompt place || is_bulky place) ≡ is_read_ready place
ready-parts None = refl
ready-parts (Some e) = parts e.read_ready e.bulky
  where
    parts : (a b : Bool) → ((a && not b) || (a && b)) ≡ a
    parts true true = refl
    parts true false = refl
    parts false b = refl

pub read_ready-sets : (ends : List (Option End)) (prompt bulky : NumberSetValue) → Tells prompt ends is_prompt → Tells bulky ends is_bulky
    → (n : ℕ) → (prompt.has n || bulky.has n) ≡ is_read_ready (get_or ends n None)
read_ready-sets ends prompt bulky prompts bulks n =
    (λ i. prompts n i || bulks n i) ∙ ready-parts (get_or ends n None)

-- Whether something can be done

any-or : (p q : Want → Bool) (ws : List Want) → (list_any p ws || list_any q ws) ≡ list_any (λ w. p w || q w) ws
any-or p q [] = refl
any-or p q (w ∷ ws) = swap (p w) (list_any p ws) (q w) (list_any q ws) ∙ ap (λ b. (p w || q w) || b) (any-or p q ws)
  where
    swap : (a b c d : Bool) → ((a || b) || (c || d)) ≡ ((a || c) || (b || d))
    swap true b c d = refl
    swap false true true d = refl
    swap false true false d = refl
    swap false false true d = refl
    swap false false false d = refl

split_ready : (r p b w x : Bool) → (((r && p) || (w && x)) || ((r && b) || (w && x))) ≡ ((r && (p || b)) || (w && x))
split_ready true true b w x = refl
split_ready true false true true true = refl
split_ready true false true true false = refl
split_ready true false true false x = refl
split_ready true false false true true = refl
split_ready true false false true false = refl
split_ready true false false false x = refl
split_ready false p b true true = refl
split_ready false p b true false = refl
split_ready false p b false x = refl

pub any-ends : (ends : List (Option End)) (prompt bulky writable : NumberSetValue) → Tells prompt ends is_prompt → Tells bulky ends is_bulky
    → Tells writable ends is_write_ready → (ws : List Want)
    → (list_any (is_ready_by prompt writable) ws || list_any (is_ready_by bulky writable) ws) ≡ list_any (wants_ready ends) ws
any-ends ends prompt bulky writable prompts bulks writes ws =
    let same : (w : Want) → (is_ready_by prompt writable w || is_ready_by bulky writable w) ≡ wants_ready ends w =
    λ w. split_ready w.read (prompt.has (number w.side)) (bulky.has (number w.side)) w.write (writable.has (number w.side))
    ∙ (λ i. (w.read && read_ready-sets ends prompt bulky prompts bulks (number w.side) i) || (w.write && writes (number w.side) i)) in
    any-or (is_ready_by prompt writable) (is_ready_by bulky writable) ws ∙ ap (λ p. list_any p ws) (fun_ext same)

-- What is marked by turns

taken : (r a p b : Bool) → b ≡ true → (r && (a || p)) ≡ (r && (p || (a && b)))
taken r true true b h = refl
taken r true false b h = ap (λ c. r && c) (sym h)
taken r false true b h = refl
taken r false false b h = refl

left : (r a p b : Bool) → b ≡ false → (r && p) ≡ (r && (p || (a && b)))
left r a true b h = refl
left r true false b h = ap (λ c. r && c) (sym h)
left r false false b h = refl

-- where an end isn't that of the turn, it doesn't matter what is known of that one
elsewhere : (r a p b c : Bool) → (a ≡ true → b ≡ c) → (r && (p || (a && b))) ≡ (r && (p || (a && c)))
elsewhere r true p b c h = ap (λ x. r && (p || x)) (h refl)
elsewhere r false p b c h = refl

module _ (ends : List (Option End)) (prompt bulky writable : NumberSetValue) (turn : Turn)
    (prompts : Tells prompt ends is_prompt) (bulks : Tells bulky ends is_bulky) (writes : Tells writable ends is_write_ready) where
  abbrev who : ℕ
  who = turn.who

  -- it may be read by the sets
  abbrev may : ℕ → Bool
  may n = bulky.has n && not (gives_way turn && writable.has (other_end n))

  -- the same by the ends
  abbrev may_end : ℕ → Bool
  may_end n = is_bulky (get_or ends n None) && not (gives_way turn && is_write_ready (get_or ends (other_end n) None))

  at_who : (n : ℕ) → (n == who) ≡ true → may who ≡ may_end n
  at_who n is = ap may (sym (eqb-true n who is)) ∙ (λ i. bulks n i && not (gives_way turn && writes (other_end n) i))

  write_mark : (w : Want) → (w.write && writable.has (number w.side)) ≡ can_write ends w
  write_mark w = λ i. w.write && writes (number w.side) i

  read_mark : (r : Bool) (n : ℕ) → (r && (prompt.has n || ((n == who) && may who))) ≡ (r && is_read_now ends turn n)
  read_mark r n =
      ap (λ p. r && (p || ((n == who) && may who))) (prompts n)
      ∙ elsewhere r (n == who) (is_prompt (get_or ends n None)) (may who) (may_end n) (at_who n)

  pub marked-turn : may who ≡ true → marked_with prompt writable who ≡ marked_in_turn ends turn
  marked-turn h =
      let same : (w : Want) → marked_with prompt writable who w ≡ marked_in_turn ends turn w =
      λ w. λ i. record w {
        can_read = (taken w.read (number w.side == who) (prompt.has (number w.side)) (may who) h ∙ read_mark w.read (number w.side)) i;
        can_write = write_mark w i;
      } in
      fun_ext same

  pub marked-left : may who ≡ false → marked_by prompt writable ≡ marked_in_turn ends turn
  marked-left h =
      let same : (w : Want) → marked_by prompt writable w ≡ marked_in_turn ends turn w =
      λ w. λ i. record w {
        can_read = (left w.read (number w.side == who) (prompt.has (number w.side)) (may who) h ∙ read_mark w.read (number w.side)) i;
        can_write = write_mark w i;
      } in
      fun_ext same

pub in_turn-ends : (t : WantsValue) (ends : List (Option End)) (bulky : NumberSetValue) → Tells bulky ends is_bulky
    → in_turn t bulky ≡ takes_turns t ends
in_turn-ends t ends bulky bulks = fun_ext (λ n. λ i. t.reads n && bulks n i)

-- What every port says of a poll of a table

filter-unmarked : (ws : List Want) → filter is_marked (map unmarked ws) ≡ []
filter-unmarked [] = refl
filter-unmarked (w ∷ ws) = filter-unmarked ws

all_marked : (mark : Want → Want) → ((w : Want) → IsMarked w (mark w)) → (ws : List Want) → AllMarked ws (map mark ws)
all_marked mark each ws k d within = rw (get_or-map mark ws k d d within) (each (get_or ws k d))

one_marked : (ends : List (Option End)) (turn : Turn) (w : Want) → IsMarked w (marked_in_turn ends turn w)
one_marked ends turn w = search rules

one_unmarked : (w : Want) → IsMarked w (unmarked w)
one_unmarked w = search rules

silent : (ws : List Want) (answer : Polled) → AllWent silent_end silent_end (poll_step ws answer)
silent ws answer = search rules

-- a port that tells nothing and vouches for nothing, and lists in a table what is ready, or nothing where it failed
pub table-polled : (ends : List (Option End)) (turn now_turn : Turn) (old new : WantsValue) (timeout : Option ℕ) (answer : Polled)
    (by by' : ⊤ → Trace → Type 0)
    → MarkedTable ends turn now_turn old new answer → ((plan : ⊤) (t : Trace) → by plan t → ⊥)
    → TablePolled old new timeout answer silent_end silent_end by by'
table-polled ends turn now_turn old new timeout (polled.Ready accept) by by' listed none = record {
  marked = map (marked_in_turn ends now_turn) (named old);
  marks = all_marked (marked_in_turn ends now_turn) (one_marked ends now_turn) (named old);
  many = length-map (named old) _;
  list = listed.list;
  ends = silent (map (marked_in_turn ends now_turn) (named old)) (polled.Ready accept);
  vouched = λ plan t was. absurd (none plan t was);
}
table-polled ends turn now_turn old new timeout polled.Failed by by' listed none = record {
  marked = map unmarked (named old);
  marks = all_marked unmarked one_unmarked (named old);
  many = length-map (named old) _;
  list = listed.1 ∙ sym (filter-unmarked (named old));
  ends = silent (map unmarked (named old)) polled.Failed;
  vouched = λ plan t was. absurd (none plan t was);
}
