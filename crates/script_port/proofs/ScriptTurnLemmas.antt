-- What a script port vouches for at first, with each reading of the clock, and with each closing turn that is announced.
use Rattle.std.proofs.Common.{◌≡◌, ◌⊎◌, ℕ, zero, suc, ◌+◌, ◌-◌, ◌*◌, ◌^◌, ◌<◌, ◌≤◌, Bool, true, false, nat_lt, if◌then◌else◌, List, [], ◌∷◌}
use Rattle.std.proofs.Common.{◌++◌, length, get_or, take, drop, Option, Some, None, refl, sym, ap, subst, ◌∙◌, arith, inl, inr}
use Rattle.std.specs.Prelude.{count_by, slice_get}
use Rattle.std.specs.Option.{option_map_or}
use Rattle.std.specs.List.{flat_map}
use Rattle.std.proofs.lemmas.Bool.{cases_lt}
use Rattle.std.proofs.lemmas.Bool.Decides.{leb_tells}
use Rattle.std.proofs.lemmas.List.{length-map, take_all}
use Rattle.std.proofs.lemmas.List.Sums.{sum_by-append}
use Rattle.std.proofs.lemmas.Option.{slice_get_within, slice_get-get_or}
use Rattle.ev_types.specs.declared.side.Side.{Side}
use Rattle.ev_types.specs.declared.side.Side.TheVariants.{In, Out}
use Rattle.ev_types.specs.declared.side.SideId.{SideId}
use Rattle.ev_types.specs.declared.entry.Entry.TheVariants as entry
use Rattle.ev_types.specs.Sides.{half, number}
use Rattle.ev_types.specs.Trace.{Trace}
use Rattle.ev_types.specs.ScriptTurn.{ScriptTurn, lines_of}
use Rattle.ev_types.specs.Times.{turn_time}
use Rattle.ev_types.specs.declared.turn_line.TurnLine.{TurnLine}
use Rattle.ev_types.specs.declared.turn_line.TurnLine.TheVariants as line
use Rattle.relay_model.specs.RatesKept.{is_turn}
use Rattle.relay_model.specs.Lines.{decides}
use Rattle.relay_model.specs.Scripted as model
use Rattle.relay_model.specs.Scripted.{reading}
use Rattle.relay_model.specs.Plays as plays
use Rattle.relay_model.proofs.PlayedLemmas.{answers_go_on}
use Rattle.ev_port.specs.Calls.{Ticked}
use Rattle.script_port.specs.ScriptState.{EndState, LinksState, PortState}
use Rattle.script_port.specs.ScriptEnds.{new_end, decided, end_after_line}
use Rattle.script_port.specs.ScriptClosing.{closing_end, closing_ends, is_announced, announced}
use Rattle.script_port.specs.ScriptLinks.{end_of, out_end, new_ends, new_links, links_of, entered, after_line, after_lines}
use Rattle.script_port.specs.ScriptPortView.{ClosesInOrder}
use Rattle.script_port.specs.ScriptPort.{new_port, next_turn, clock_answer, clock_behind, begin_behind, begin_turn, count_reading}
use Rattle.script_port.specs.ScriptPort.{after_now}
use Rattle.script_port.specs.ScriptNow.{RunsTurn}
use Rattle.script_port.specs.ScriptPlan.{first_plan, closings, IsCalledBy}
use Rattle.script_port.specs.ScriptVouched.{decided_at, EndStands, LinksStand, last_reading, PortStands, AreUnheard, ScriptVouches}
use Rattle.script_port.specs.ScriptVouched.{VouchesOn}
use Rattle.script_port.proofs.CallLemmas.{length-at_end}
use Rattle.script_port.proofs.ListLemmas.{slice_get-mapped}
use Rattle.script_port.proofs.ScriptPlayedLemmas.{lines_more, lines_of_turn, moment_next}
use Rattle.script_port.proofs.ScriptStandLemmas.{map_some, map_none, from_some, lines_stand}
use Rattle.script_port.proofs.ScriptTraceLemmas.{like, links_silent}
use Rattle.script_port.proofs.ScriptNowLemmas.{runs-entered, runs-closing, runs-lines}
use Rattle.script_port.proofs.ScriptQuietLemmas.{quiet-unheard, silent-turn}
use Rattle.script_port.proofs.ScriptClockLemmas.{reading_goes_on, length_of_plan, no_lines_now}
use Rattle.script_port.proofs.ScriptVouchLemmas.{own_plan, StandsIf, called_before, kept_of, stands_if, vouches_by, vouched_so}

-- The clock

abbrev TickedOn : (Trace → Type 0) → (Trace → Type 0) → ℕ → Type 0
TickedOn old new reading = (t : Trace) → old t → new (t ++ (entry.Turn (turn_time t reading), []) ∷ [])

-- which turn runs says nothing of what lasts
entered_stands : (closing : Bool) (waits : List Bool) (ls : List TurnLine) (t : Trace) (turn : Option ℕ) (l : LinksState) →
    LinksStand closing waits ls t l → LinksStand closing waits ls t (entered turn l)
entered_stands closing waits ls t turn l h = record {
  is_closing = h.is_closing;
  in_order = h.in_order;
  waiting = h.waiting;
  ends = h.ends;
  beyond = h.beyond;
}

-- one turn more
one_more : (t : Trace) (ms : ℕ) → count_by is_turn (t ++ (entry.Turn ms, []) ∷ []) ≡ count_by is_turn t + 1
one_more t ms = let parts = sum_by-append (λ x. if is_turn x then 1 else 0) t ((entry.Turn ms, []) ∷ []) in omega (arith, parts)

next_reading : (turns : List ScriptTurn) (step n : ℕ) → last_reading turns step (n + 1) ≡ reading turns step n
next_reading turns step n = let one : n + 1 ≡ suc n = omega arith in ap (last_reading turns step) one

not_yet : (a b : ℕ) → b ≤ a → nat_lt a b ≡ false
not_yet a b h = elim (leb_tells (suc a) b) [ inl less ↦ absurd (let k = less.1 in omega (arith, k, h)) | inr more ↦ more.0 ]

now_less : (a b : ℕ) → a < b → nat_lt a b ≡ true
now_less a b h = elim (leb_tells (suc a) b) [ inl less ↦ less.0 | inr more ↦ absurd (let k = more.1 in omega (arith, k, h)) ]

length-lines : (xs : List TurnLine) (l : LinksState) → length (after_lines xs l).ends ≡ length l.ends
length-lines [] l = refl
length-lines (x ∷ xs) l = length-lines xs (after_line x l) ∙ one x
  where
    one : (y : TurnLine) → length (after_line y l).ends ≡ length l.ends
    one (line.NewLink wait) = refl
    one line.PollFail = refl
    one (line.Conn link connected) = length-at_end (out_end link) (end_after_line l.turn (line.Conn link connected)) l
    one (line.Pending side bytes) = length-at_end side (end_after_line l.turn (line.Pending side bytes)) l
    one (line.Eof side) = length-at_end side (end_after_line l.turn (line.Eof side)) l
    one (line.ReadFail side) = length-at_end side (end_after_line l.turn (line.ReadFail side)) l
    one (line.Take side more) = length-at_end side (end_after_line l.turn (line.Take side more)) l
    one (line.WriteFail side) = length-at_end side (end_after_line l.turn (line.WriteFail side)) l
    one (line.Spur side) = length-at_end side (end_after_line l.turn (line.Spur side)) l

-- An end after a closing turn began

closing_decides : (closing : Bool) (side : Side) (ds : List Bool) → decided (decided_at closing side ds) true ≡ decided_at true side ds
closing_decides true In ds = refl
closing_decides false In ds = refl
closing_decides closing Out (d ∷ ds) = refl
closing_decides true Out [] = refl
closing_decides false Out [] = refl

end_closes : (closing : Bool) (waits : List Bool) (ls : List TurnLine) (t : Trace) (e : SideId) (s : EndState) →
    EndStands closing waits ls t e s → EndStands true waits ls t e (closing_end s)
end_closes closing waits ls t e s h = record {
  came = h.came;
  eof = h.eof;
  read_fails = h.read_fails;
  taken = h.taken;
  may_take = refl;
  write_fails = refl;
  wait = h.wait;
  decision = ap (λ o. decided o true) h.decision ∙ closing_decides closing e.side (flat_map (decides e.link) ls);
  made_connected = h.made_connected;
  connected = h.connected;
}

links_close : (closing : Bool) (waits : List Bool) (ls : List TurnLine) (t : Trace) (l : LinksState) →
    LinksStand closing waits ls t l → LinksStand true waits ls t (closing_ends l)
links_close closing waits ls t l h = record {
  is_closing = refl;
  in_order = h.in_order;
  waiting = h.waiting;
  ends = λ e s found.
      let here = slice_get-mapped closing_end l.ends (number e) in
      let old = map_some closing_end (end_of l e) s (sym here ∙ found) in
      subst (EndStands true waits ls t e) (sym old.2) (end_closes closing waits ls t e old.0 (h.ends e old.0 old.1));
  beyond = λ e found. h.beyond e (map_none closing_end (end_of l e) (sym (slice_get-mapped closing_end l.ends (number e)) ∙ found));
}

module _ (p : PortState) (step : ℕ) (t : Trace) (stands : PortStands p step t) where
  abbrev waits : List Bool
  waits = links_of (lines_of p.turns)

  turn_begins : (turn : ScriptTurn) → next_turn p ≡ Some turn → PortStands (count_reading (begin_turn (Some turn) p)) step
      (t ++ (entry.Turn (turn_time t turn.0), []) ∷ [])
  turn_begins turn next =
      let ms = turn_time t turn.0 in
      let u : Trace = (entry.Turn ms, []) ∷ [] in
      let n = model.begun p.turns t in
      let count = one_more t ms in
      let begun = stands.begun in
      let here : slice_get p.turns n ≡ Some turn = ap (slice_get p.turns) (sym begun) ∙ next in
      let within : n < length p.turns = slice_get_within p.turns n turn here in
      let before : model.is_closing p.turns t ≡ false = not_yet (length p.turns) n (omega (arith, within)) in
      let still_open : model.is_closing p.turns (t ++ u) ≡ false = not_yet (length p.turns) (model.begun p.turns (t ++ u))
      (omega (arith, within, count)) in
      let lines : model.lines p.turns (t ++ u) ≡ model.lines p.turns t ++ turn.1 =
      ap (λ k. lines_of (take k p.turns)) count ∙ lines_more n p.turns turn here in
      let running = entered (Some p.begun) p.links in
      let read : reading p.turns step n ≡ turn.0 = moment_next n p.turns turn _ here in
      record {
        answered = subst (λ z. plays.IsAnswered p.turns step (t ++ (entry.Turn z, []) ∷ [])) (ap (turn_time t) read)
            (answers_go_on p.turns step t stands.answered plays.PlayStep.Now);
        begun = ap (λ k. k + 1) begun ∙ sym count;
        clock = sym (next_reading p.turns step p.begun ∙ ap (reading p.turns step) begun ∙ read);
        many = length-lines turn.1 running ∙ stands.many;
        links = subst (λ c. LinksStand c waits (model.lines p.turns (t ++ u)) (t ++ u) (after_lines turn.1 running)) (sym still_open)
            (subst (λ z. LinksStand false waits z (t ++ u) (after_lines turn.1 running)) (sym lines)
            (lines_stand waits (model.lines p.turns t) (t ++ u) turn.1 running (entered_stands false waits (model.lines p.turns t)
            (t ++ u) (Some p.begun) p.links (links_silent false waits (model.lines p.turns t) t u p.links p.links (silent-turn ms)
            (like p.links) (subst (λ c. LinksStand c waits (model.lines p.turns t) t p.links) before stands.links)))));
        now = subst (λ z. RunsTurn z (p.begun + 1) (after_lines turn.1 running))
            (sym (ap (λ k. flat_map (λ turn. turn.1) (drop (k - 1) (take k p.turns))) count ∙ lines_of_turn n p.turns turn here))
            (runs-lines [] p.begun turn.1 running refl (runs-entered (model.lines_now p.turns t) p.begun p.links stands.now));
      }

  closing_begins : length p.turns ≤ p.begun → p.step ≡ step → PortStands (count_reading (begin_behind true p)) step
      (t ++ (entry.Turn (turn_time t (p.clock + p.step)), []) ∷ [])
  closing_begins past same =
      let ms = turn_time t (p.clock + p.step) in
      let u : Trace = (entry.Turn ms, []) ∷ [] in
      let n = model.begun p.turns t in
      let count = one_more t ms in
      let begun = stands.begun in
      let all : length p.turns ≤ n = omega (arith, begun, past) in
      let closes : model.is_closing p.turns (t ++ u) ≡ true = now_less (length p.turns) (model.begun p.turns (t ++ u))
      (omega (arith, all, count)) in
      let lines : model.lines p.turns (t ++ u) ≡ model.lines p.turns t =
      ap lines_of (take_all (model.begun p.turns (t ++ u)) p.turns (omega (arith, all, count)) ∙ sym (take_all n p.turns all)) in
      let quiet = entered None p.links in
      let read : reading p.turns step n ≡ p.clock + p.step =
      reading_goes_on p.turns step n all ∙ (λ i. last_reading p.turns step (sym begun i) + sym same i)
      ∙ ap (λ k. k + p.step) (sym stands.clock) in
      record {
        answered = subst (λ z. plays.IsAnswered p.turns step (t ++ (entry.Turn z, []) ∷ [])) (ap (turn_time t) read)
            (answers_go_on p.turns step t stands.answered plays.PlayStep.Now);
        begun = ap (λ k. k + 1) begun ∙ sym count;
        clock = sym (next_reading p.turns step p.begun ∙ ap (reading p.turns step) begun ∙ read);
        many = length-map p.links.ends closing_end ∙ stands.many;
        links = subst (λ c. LinksStand c waits (model.lines p.turns (t ++ u)) (t ++ u) (closing_ends quiet)) (sym closes)
            (subst (λ z. LinksStand true waits z (t ++ u) (closing_ends quiet)) (sym lines)
            (links_close (model.is_closing p.turns t) waits (model.lines p.turns t) (t ++ u) quiet (entered_stands
            (model.is_closing p.turns t) waits (model.lines p.turns t) (t ++ u) None p.links (links_silent
            (model.is_closing p.turns t) waits (model.lines p.turns t) t u p.links p.links (silent-turn ms) (like p.links)
            stands.links))));
        now = subst (λ z. RunsTurn z (p.begun + 1) (closing_ends quiet))
            (sym (ap (λ k. flat_map (λ turn. turn.1) (drop (k - 1) (take k p.turns))) count ∙ no_lines_now p.turns n all))
            (runs-closing (model.lines_now p.turns t) p.begun p.links stands.now);
      }

-- behind the turns of the script a reading that is called for begins an announced closing turn
behind_by : (p : PortState) (step : ℕ) (same : (p.closing ≡ 0) ⊎ (p.step ≡ step)) (closes : Bool) → is_announced p ≡ closes →
    next_turn p ≡ None → TickedOn (StandsIf step p) (StandsIf step (count_reading (begin_behind closes p)))
    (if closes then p.clock + p.step else p.clock)
behind_by p step same closes is next = λ t vouched asked. by_case closes is t vouched asked
  where
    left : (t : Trace) (ms : ℕ) → IsCalledBy (own_plan p step) (t ++ (entry.Turn ms, []) ∷ []) → PortStands p step t →
        p.begun + 1 ≤ length p.turns + p.closing
    left t ms asked stands =
        let count = one_more t ms in
        let few = asked.turns_left in
        let long = length_of_plan p.turns p.closing in
        let begun = stands.begun in
        omega (arith, count, few, long, begun)

    past : length p.turns ≤ p.begun
    past = elim (cases_lt p.begun (length p.turns)) [
      | inl less ↦ absurd (let some = slice_get-get_or p.turns p.begun (0, []) less in cc)
      | inr more ↦ more
    ]

    by_step : (same : (p.closing ≡ 0) ⊎ (p.step ≡ step)) → p.begun + 1 ≤ length p.turns + p.closing → p.step ≡ step
    by_step (inl none) few = let all = past in absurd (omega (arith, none, few, all))
    by_step (inr s) few = s

    by_case : (b : Bool) → is_announced p ≡ b → TickedOn (StandsIf step p) (StandsIf step (count_reading (begin_behind b p)))
        (if b then p.clock + p.step else p.clock)
    by_case true e t vouched asked =
        let ms = turn_time t (p.clock + p.step) in
        let stands = vouched (called_before (p.turns ++ closings p.closing) t ((entry.Turn ms, []) ∷ []) asked) in
        closing_begins p step t stands past (by_step same (left t ms asked stands))
    by_case false e t vouched asked =
        let ms = turn_time t p.clock in
        let stands = vouched (called_before (p.turns ++ closings p.closing) t ((entry.Turn ms, []) ∷ []) asked) in
        let few = left t ms asked stands in
        let more = now_less p.begun (length p.turns + p.closing) (omega (arith, few)) in
        absurd (cc)

now_by : (p : PortState) (step : ℕ) → (p.closing ≡ 0) ⊎ (p.step ≡ step) → (turn : Option ScriptTurn) → next_turn p ≡ turn →
    TickedOn (StandsIf step p) (StandsIf step (count_reading (begin_turn turn p)))
    (option_map_or (λ (x : ScriptTurn). x.0) turn (clock_behind p))
now_by p step same None next = behind_by p step same (is_announced p) refl next
now_by p step same (Some turn) next = λ t vouched asked. turn_begins p step t
    (vouched (called_before (p.turns ++ closings p.closing) t ((entry.Turn (turn_time t turn.0), []) ∷ []) asked)) turn next

-- The beginning

new_at : (waits : List Bool) (link : ℕ) (side : Side) (s : EndState) → slice_get (new_ends waits) (2 * link + half side) ≡ Some s →
    s ≡ new_end (model.undecided_at side (get_or waits link false))
new_at [] link side s h = absurd (cc)
new_at (wait ∷ waits) zero In s h = sym (from_some (new_end false) s h)
new_at (wait ∷ waits) zero Out s h = sym (from_some (new_end wait) s h)
new_at (wait ∷ waits) (suc link) side s h =
    let two : 2 * suc link + half side ≡ suc (suc (2 * link + half side)) = omega arith in
    new_at waits link side s (subst (λ n. slice_get (new_ends (wait ∷ waits)) n ≡ Some s) two h)

new_past : (waits : List Bool) (link : ℕ) (side : Side) → slice_get (new_ends waits) (2 * link + half side) ≡ None → length waits ≤ link
new_past [] link side h = omega arith
new_past (wait ∷ waits) zero In h = absurd (cc)
new_past (wait ∷ waits) zero Out h = absurd (cc)
new_past (wait ∷ waits) (suc link) side h =
    let two : 2 * suc link + half side ≡ suc (suc (2 * link + half side)) = omega arith in
    let rest = new_past waits link side (subst (λ n. slice_get (new_ends (wait ∷ waits)) n ≡ None) two h) in
    omega (arith, rest)

undecided_yet : (side : Side) → None ≡ decided_at false side []
undecided_yet In = refl
undecided_yet Out = refl

new_stands : (waits : List Bool) (e : SideId) (undecided : Bool) → undecided ≡ model.undecided_at e.side
    (get_or waits e.link false) → EndStands false waits [] [] e (new_end undecided)
new_stands waits e undecided is = record {
  came = refl;
  eof = refl;
  read_fails = refl;
  taken = refl;
  may_take = (refl, record { least = omega arith; most = omega arith; within = omega arith });
  write_fails = refl;
  wait = is;
  decision = undecided_yet e.side;
  made_connected = refl;
  connected = refl;
}

length-new_ends : (waits : List Bool) → length (new_ends waits) ≡ 2 * length waits
length-new_ends [] = refl
length-new_ends (wait ∷ waits) = let rest = length-new_ends waits in omega (arith, rest)

pub new_stood : (turns : List ScriptTurn) (step : ℕ) → StandsIf step (new_port turns) []
new_stood turns step = λ asked. record {
  answered = ([], refl);
  begun = refl;
  clock = refl;
  many = length-new_ends (links_of (lines_of turns));
  links = subst (λ c. LinksStand c (links_of (lines_of turns)) [] [] (new_links (links_of (lines_of turns)))) (sym (not_yet
      (length turns) 0 (omega arith))) (record {
        is_closing = refl;
        in_order = omega arith;
        waiting = refl;
        ends = λ e s found.
            let waits = links_of (lines_of turns) in
            subst (EndStands false waits [] [] e) (sym (new_at waits e.link e.side s found)) (new_stands waits e
            (model.undecided_at e.side (get_or waits e.link false)) refl);
        beyond = λ e found. new_past (links_of (lines_of turns)) e.link e.side found;
      });
  now = record {
    poll = refl;
    spurs = λ e s found. refl;
    earlier = λ e s found turn is. absurd (let none = ap (λ (z : EndState). z.spurred) (new_at (links_of (lines_of turns)) e.link
        e.side s found) in cc);
  };
}

-- What is vouched for

clock_begun : (turn : Option ScriptTurn) (p : PortState) → (begin_turn turn p).clock ≡ option_map_or (λ (x : ScriptTurn). x.0) turn
    (clock_behind p)
clock_begun None p = behind (is_announced p)
  where
    behind : (b : Bool) → (begin_behind b p).clock ≡ (if b then p.clock + p.step else p.clock)
    behind true = refl
    behind false = refl
clock_begun (Some turn) p = refl

turns_begun : (turn : Option ScriptTurn) (p : PortState) → kept_of (begin_turn turn p) ≡ kept_of p
turns_begun None p = behind (is_announced p)
  where
    behind : (b : Bool) → kept_of (begin_behind b p) ≡ kept_of p
    behind true = refl
    behind false = refl
turns_begun (Some turn) p = refl

-- a reading that left this port
pub reading_vouched : (p begun : PortState) → begun ≡ begin_turn (next_turn p) p → Ticked (ScriptVouches p)
    (ScriptVouches (count_reading begun)) begun.clock
reading_vouched p begun is =
    subst (λ z. Ticked (ScriptVouches p) (ScriptVouches (count_reading z)) z.clock) (sym is)
    (subst (λ n. Ticked (ScriptVouches p) (ScriptVouches (after_now p)) n) (sym (clock_begun (next_turn p) p))
    (λ plan t vouched. vouched_so p (after_now p) plan t (t ++ (entry.Turn (turn_time t (clock_answer p)), []) ∷ [])
    (turns_begun (next_turn p) p) (now_by p plan.step vouched.step (next_turn p) refl t (stands_if p plan t vouched)) vouched))

pub new_from : (turns : List ScriptTurn) (p : PortState) → p ≡ new_port turns → (step : ℕ) → ScriptVouches p (first_plan turns step) []
new_from turns p is step = subst (λ z. ScriptVouches z (first_plan turns step) []) (sym is)
    (vouches_by (new_port turns) (first_plan turns step) [] refl refl (inl refl) (new_stood turns step))

-- Closing turns

unheard_turns : (own : Trace) → AreUnheard own → count_by is_turn own ≡ 0
unheard_turns [] h = refl
unheard_turns ((x, bytes) ∷ own) h =
    let rest = unheard_turns own h.2 in
    let one = (quiet-unheard x h.0).turns in
    let parts = sum_by-append (λ y. if is_turn y then 1 else 0) ((x, bytes) ∷ []) own in
    let first : count_by is_turn ((x, bytes) ∷ []) ≡ 0 = ap (λ z. count_by is_turn ((x, z) ∷ [])) h.1 ∙ one in
    omega (arith, rest, parts, first)

-- a called-for trace that a port vouched for it vouches for with one closing turn more
pub vouches_on : (step : ℕ) (p : PortState) → (p.closing ≡ 0) ⊎ (p.step ≡ step) → VouchesOn step p (announced step p)
vouches_on step p same = λ plan t is asked vouched. record {
  turns = vouched.turns;
  closing = ap (λ n. n + 1) vouched.closing;
  step = inr (sym is);
  stands = λ own unheard later.
      let none = unheard_turns own unheard in
      let parts = sum_by-append (λ x. if is_turn x then 1 else 0) t own in
      let few = asked.turns_left in
      let stands = vouched.stands own unheard (record {
        lines = asked.lines;
        turns_left = omega (arith, none, parts, few);
        in_order = later.in_order;
      }) in
      record {
        answered = stands.answered;
        begun = stands.begun;
        clock = stands.clock;
        many = stands.many;
        links = stands.links;
        now = stands.now;
      };
}

-- How announced turns are counted

-- a turn of the script begins before any closing turn
pub closes_still : (turns begun closing clock step moment : ℕ) → begun < turns → ClosesInOrder turns begun closing clock step →
    ClosesInOrder turns (begun + 1) closing moment step
closes_still turns begun closing clock step moment within h =
    let order = h.order in record {
      count = h.count;
      order = λ some. (let few = order some in omega (arith, few));
      moment = λ some more. absurd (let few = order some in omega (arith, few, within, some));
    }

-- the announced one begins
pub closes_on : (turns begun closing clock step : ℕ) → turns ≤ begun → begun < turns + closing → ClosesInOrder turns begun closing clock
    step → ClosesInOrder turns (begun + 1) closing (clock + step) step
closes_on turns begun closing clock step past left h =
    let order = h.order in record {
      count = h.count;
      order = λ some. (let few = order some in omega (arith, few));
      moment = λ some more. absurd (let few = order some in omega (arith, few, more));
    }

-- one is announced
pub closes_more : (turns begun closing clock step new : ℕ) → begun ≡ turns + closing → clock + new < 2 ^ 64 → begun + 1 < 2 ^ 64 →
    ClosesInOrder turns begun closing clock step → ClosesInOrder turns begun (closing + 1) clock new
closes_more turns begun closing clock step new all fits count h = record {
  count = omega (arith, all, count);
  order = λ some. omega (arith, all);
  moment = λ some more. fits;
}

pub closes_first : (turns : ℕ) → turns < 2 ^ 64 → ClosesInOrder turns 0 0 0 0
closes_first turns fits = record {
  count = omega (arith, fits);
  order = λ some. absurd (omega
      (arith, some));
  moment = λ some more. absurd (omega (arith, some));
}
