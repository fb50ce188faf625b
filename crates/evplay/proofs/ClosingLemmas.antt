-- Closing turns of a run: how many there may be, that the next one may be announced, and that the run drains its links.
use Rattle.std.proofs.Common.{◌≡◌, ◌⊎◌, inl, inr, ◌≤◌, ◌<◌, ◌+◌, ◌-◌, ◌*◌, ◌^◌, ◌++◌, ◌∷◌, ◌&&◌, ℕ, zero, suc, Bool, true, false, List}
use Rattle.std.proofs.Common.{[]}
use Rattle.std.proofs.Common.{length, refl, sym, ap, subst, arith, ◌∙◌, append-nil, append_assoc, All}
use Rattle.std.specs.Prelude.{count_by, map, nat_lt, nat_le, sum_by, slice_index_or, ⊤, MatchBool}
use Rattle.std.specs.List.{flat_map}
use Rattle.std.proofs.lemmas.Bool.{le-ltb, lt-ltb}
use Rattle.std.proofs.lemmas.List.Elements.{All-head, All-tail}
use Rattle.ev_types.specs.ScriptTurn.{ScriptTurn, lines_of}
use Rattle.ev_types.specs.Trace.{Trace}
use Rattle.ev_types.specs.declared.entry.Entry.TheVariants as entry
use Rattle.ev_types.specs.declared.turn_line.TurnLine.{TurnLine}
use Rattle.ev_types.specs.declared.turn_line.TurnLine.TheVariants as line
use Rattle.relay_model.specs.Answers.{TurnAnswer}
use Rattle.relay_model.specs.Called.{NamesOpened}
use Rattle.relay_model.specs.ClosingTurns.{all_buffered, most_closing_turns, makes_one_more, scripted_links}
use Rattle.relay_model.specs.ClosingTurns.{unread_count, BetweenTurns, Drains, DrainEnds}
use Rattle.relay_model.specs.Lines.{links_by}
use Rattle.relay_model.specs.Plain.{Plain, sides_from}
use Rattle.relay_model.specs.Plays.{AllTaken, AlwaysAllTaken, IsAnswered, is_behind_accepting}
use Rattle.relay_model.specs.RatesKept.{is_turn}
use Rattle.relay_model.specs.Scripted.{begun, pending, reading, waiting}
use Rattle.relay_model.specs.Settings.{Settings}
use Rattle.relay_model.specs.Stages.{Stage, at}
use Rattle.relay_model.specs.Turn.{Reaches}
use Rattle.relay_state.specs.Counting.{buffered_below, open_below}
use Rattle.relay_laws.specs.TurnEnds.{begins_turn, AtTurnEnds}
use Rattle.relay_laws.proofs.TurnEndLemmas.{ends-none, ends-grow}
use Rattle.relay_drive.specs.DriveValue.{DriveValue}
use Rattle.program_end.proofs.TurnCountLemmas.{begun-is}
use Rattle.script_port.specs.ScriptClosing.{MayClose}
use Rattle.script_port.specs.ScriptPlan.{first_plan, ScriptPlan, IsCalledBy}
use Rattle.script_port.specs.ScriptLinks.{links_of}
use Rattle.script_port.specs.ScriptState.{EndState, PortState}
use Rattle.script_port.specs.ScriptVouched.{last_reading, NoneWaits, PortStands, ScriptVouches, VouchesOn}
use Rattle.script_port.proofs.ScriptPendingLemmas.{pending_is_scripted}
use Rattle.script_port.proofs.ScriptWaitingLemmas.{always_called, took_called}
use Rattle.drain_laws.specs.CanDrain.{last_moment}
use Rattle.drain_laws.specs.DrainBound.{IsOfTurns}
use Rattle.drain_laws.proofs.CountedLemmas.{counts_are_as_told}
use Rattle.drain_laws.proofs.PendingLemmas.{unread_is_pending}
use Rattle.drain_laws.proofs.BufferedLemmas.{most_is_bounded}
use Rattle.evplay.specs.Headline.{DrainsByTurns}
use Rattle.evplay.specs.Run.{AreSmall}
use Rattle.evplay.specs.CameTo.{counted_most, closing_plan, StandsAfter}
use Rattle.evplay.proofs.CalledLemmas.{called-by}
use Rattle.evplay.proofs.CountableLemmas.{bound-within, moment-within, product-within, AreWithin}
use Rattle.evplay.proofs.PlayedLemmas.{stands-there}

-- the links of some lines, in the words of the port and in those of the model
links-same : (xs : List TurnLine) → links_of xs ≡ flat_map links_by xs
links-same [] = refl
links-same (line.NewLink wait ∷ xs) = ap (λ z. wait ∷ z) (links-same xs)
links-same (line.Conn link made ∷ xs) = links-same xs
links-same (line.Pending side bytes ∷ xs) = links-same xs
links-same (line.Eof side ∷ xs) = links-same xs
links-same (line.ReadFail side ∷ xs) = links-same xs
links-same (line.Take side more ∷ xs) = links-same xs
links-same (line.WriteFail side ∷ xs) = links-same xs
links-same (line.Spur side ∷ xs) = links-same xs
links-same (line.PollFail ∷ xs) = links-same xs

-- no reading of the clock is later than the last moment and a step for each closing turn
reading-within : (turns : List ScriptTurn) (step n : ℕ) → AreSmall turns → reading turns step n ≤ 2 ^ 40 + step * (n + 1 - length turns)
reading-within turns step n small =
    index-within (map (λ (turn : ScriptTurn). turn.0) turns) n (last_moment turns + step * (n + 1 - length turns))
    (moments-within turns small.moments) (let last = moment-within turns small in omega (arith, last))
  where
    moments-within : (xs : List ScriptTurn) → All (λ (turn : ScriptTurn). turn.0 ≤ 2 ^ 40) xs →
        AreWithin (2 ^ 40) (map (λ (turn : ScriptTurn). turn.0) xs)
    moments-within [] h = tt
    moments-within (x ∷ xs) h = (
      All-head (λ (turn : ScriptTurn). turn.0 ≤ 2 ^ 40) x xs h,
      moments-within xs (All-tail (λ (turn : ScriptTurn). turn.0 ≤ 2 ^ 40) x xs h),
    )

    index-within : (xs : List ℕ) (i other : ℕ) → AreWithin (2 ^ 40) xs → other ≤ 2 ^ 40 + step * (n + 1 - length turns) →
        slice_index_or xs i other ≤ 2 ^ 40 + step * (n + 1 - length turns)
    index-within [] i other h k = k
    index-within (x ∷ xs) zero other h k = let one = h.0 in omega (arith, one)
    index-within (x ∷ xs) (suc i) other h k = index-within xs i other h.1 k

last-within : (turns : List ScriptTurn) (step n : ℕ) → AreSmall turns → last_reading turns step n ≤ 2 ^ 40 + step * (n - length turns)
last-within turns step zero small = omega arith
last-within turns step (suc n) small =
    subst (λ m. reading turns step n ≤ 2 ^ 40 + step * (m - length turns)) (let same : n + 1 ≡ suc n = omega arith in same)
    (reading-within turns step n small)

-- What is taken by one rule is taken by a weaker one.

all_taken-weaker : (P Q : Trace → Type 0) → ((u : Trace) → P u → Q u) → (links : ℕ) (t : Trace) → AllTaken P links t → AllTaken Q links t
all_taken-weaker P Q f links t (inl h) = inl (f t h)
all_taken-weaker P Q f links t (inr h) = inr h

always-weaker : (P Q : Trace → Type 0) → ((u : Trace) → P u → Q u) → (links : ℕ) (before t : Trace) → AlwaysAllTaken P links before t →
    AlwaysAllTaken Q links before t
always-weaker P Q f links before [] h = tt
always-weaker P Q f links before (x ∷ t) h =
    (by_case (is_behind_accepting x) h.0, always-weaker P Q f links (before ++ x ∷ []) t h.1)
  where
    by_case : (b : Bool) → MatchBool b (AllTaken P links before) ⊤ → MatchBool b (AllTaken Q links before) ⊤
    by_case true k = all_taken-weaker P Q f links before k
    by_case false k = tt

-- A run that stands behind all turns of its script and so many closing turns that were announced

module _ (g : Settings) (turns : List ScriptTurn) (step k : ℕ) (d : DriveValue) (p : PortState) (t : Trace) (small : AreSmall turns)
    (names : NamesOpened 0 (lines_of turns)) (inv : StandsAfter g (length turns + k) (closing_plan turns step k) d p t) where
  abbrev plan : ScriptPlan
  plan = closing_plan turns step k

  pub called-so : IsCalledBy plan t
  called-so = called-by plan t Stage.Between d.state inv.means names (let n = inv.turns in omega (arith, n))

  vouches : ScriptVouches p plan t
  vouches = inv.seen.0.0

  stands : PortStands p step t
  stands = stands-there p plan t vouches called-so

  pub reached : Reaches g t (at Stage.Between d.state.plain)
  reached = subst (λ z. Reaches z t (at Stage.Between d.state.plain)) inv.settings inv.means.reached

  answered : IsAnswered turns step t
  answered = subst (λ z. IsAnswered z step t) vouches.turns stands.answered

  pub begun-so : begun turns t ≡ length turns + k
  begun-so = begun-is turns t ∙ inv.turns

  unread-so : sum_by (λ (x : EndState). length x.pending) p.links.ends ≡ unread_count turns t
  unread-so =
      let all : length turns ≤ begun turns t = omega (arith, begun-so) in
      let many : length (links_of (lines_of p.turns)) ≡ length (scripted_links turns) =
      ap length (links-same (lines_of p.turns)) ∙ ap (λ z. length (scripted_links z)) vouches.turns in
      pending_is_scripted p step t stands
      ∙ (λ i. sum_by (λ e. length (pending (vouches.turns i) t e)) (sides_from 0 (many i)))
      ∙ sym (unread_is_pending g turns step t names (at Stage.Between d.state.plain, reached) answered all)

  -- the most closing turns, by what the relay and the port count
  pub most-is : counted_most d.state p ≡ most_closing_turns turns g t d.state.plain
  most-is =
      let s = d.state in
      let counts = counts_are_as_told t Stage.Between s inv.means in
      let buffered : buffered_below s s.plain.opened ≡ all_buffered g t s.plain =
      counts.0 ∙ ap (λ z. all_buffered z t s.plain) inv.settings in
      let waits : length p.links.waiting ≡ length (waiting turns t) =
      ap length stands.links.waiting ∙ ap (λ z. length (waiting z t)) vouches.turns in
      let living = counts.1 in
      let unread = unread-so in
      omega (arith, buffered, unread, waits, living)

  pub most-within : most_closing_turns turns g t d.state.plain ≤ 2 ^ 29
  most-within =
      let bounded = most_is_bounded g turns step t d.state.plain names reached answered in
      omega (arith, bounded, bound-within turns small)

  -- a closing turn more may be announced
  pub may-close : step ≤ 2 ^ 20 → k < 2 ^ 29 → MayClose p step
  may-close short few =
      let same = ap length vouches.turns in
      let n = stands.begun in
      let all : p.begun ≡ length turns + k = n ∙ begun-is p.turns t ∙ inv.turns in
      let last : p.clock ≤ 2 ^ 40 + step * (p.begun - length turns) =
      subst (λ z. z ≤ 2 ^ 40 + step * (p.begun - length turns)) (sym (stands.clock ∙ ap (λ z. last_reading z step p.begun) vouches.turns))
      (last-within turns step p.begun small) in
      let steps : step * (p.begun - length turns) ≤ 2 ^ 20 * 2 ^ 29 =
      product-within step (p.begun - length turns) (2 ^ 20) (2 ^ 29) short (omega (arith, all, few)) in
      let closing = vouches.closing in
      let turns_few = small.few in
      record {
        begun = omega (arith, all, same, closing);
        same_step = vouches.step;
        moment = omega (arith, last, steps, short);
        count = omega (arith, all, turns_few, few);
      }

  -- once it is announced the run stands as it did
  pub announced-stands : (q : PortState) → VouchesOn step p q → StandsAfter g (length turns + k) (closing_plan turns step (k + 1)) d q t
  announced-stands q vouched =
      let links = d.state.settings.links in
      let later : ScriptPlan = closing_plan turns step (k + 1) in
      let Waits : Trace → Type 0 = λ u. waiting turns u ≡ [] in
      let none : (u : Trace) → waiting turns u ≡ [] → NoneWaits later u = λ u h called. h in
      let always = always_called plan links [] t called-so inv.seen.0.1 in
      let took = took_called plan links t called-so inv.seen.1 in
      record {
        calm = inv.calm;
        settings = inv.settings;
        stands = inv.stands;
        turns = inv.turns;
        seen = (
          (vouched plan t refl called-so vouches, always-weaker (λ u. waiting turns u ≡ []) (NoneWaits later) none links [] t always),
          all_taken-weaker (λ u. waiting turns u ≡ []) (NoneWaits later) none links t took,
        );
        means = inv.means;
        ends = inv.ends;
        within = inv.within;
      }

  -- whether one more is made, by what the relay counts
  pub more-is : (most : ℕ) → makes_one_more turns most t d.state.plain
      ≡ (nat_lt 0 (open_below d.state d.state.plain.opened) && nat_lt k most)
  more-is most =
      let living = (counts_are_as_told t Stage.Between d.state inv.means).1 in
      let made : begun turns t - length turns ≡ k = omega (arith, begun-so) in
      λ i. nat_le 1 (sym living i) && nat_lt (made i) most

  -- The trace leads to the state of the relay.
  pub between-so : (Holds : Plain → Type 0) → Holds d.state.plain → BetweenTurns g t Holds
  between-so Holds h = (d.state.plain, reached, h)

-- a closing turn is called for where a link is open and fewer than the most were made
pub called-for : (g : Settings) (turns : List ScriptTurn) (step k : ℕ) (d : DriveValue) (p : PortState) (t : Trace) (small : AreSmall turns)
    (names : NamesOpened 0 (lines_of turns)) → StandsAfter g (length turns + k) (closing_plan turns step k) d p t → (most all : ℕ) →
    most ≡ all → k < most → (some : Bool) → some ≡ nat_lt 0 (open_below d.state d.state.plain.opened) → some ≡ true →
    BetweenTurns g t (λ s. makes_one_more turns all t s ≡ true)
called-for g turns step k d p t small names inv most all is fewer some is_some holds =
    between-so g turns step k d p t small names inv (λ s. makes_one_more turns all t s ≡ true)
    (more-is g turns step k d p t small names inv all
    ∙ (λ i. (sym is_some ∙ holds) i && (lt-ltb k all (omega (arith, fewer, is))) i))

-- none is where no link is open, or as many as the most were made
pub not-called-for : (g : Settings) (turns : List ScriptTurn) (step k : ℕ) (d : DriveValue) (p : PortState) (t : Trace)
    (small : AreSmall turns) (names : NamesOpened 0 (lines_of turns)) →
    StandsAfter g (length turns + k) (closing_plan turns step k) d p t → (all : ℕ) →
    (nat_lt 0 (open_below d.state d.state.plain.opened) ≡ false) ⊎ (all ≤ k) →
    BetweenTurns g t (λ s. makes_one_more turns all t s ≡ false)
not-called-for g turns step k d p t small names inv all none =
    between-so g turns step k d p t small names inv (λ s. makes_one_more turns all t s ≡ false)
    (more-is g turns step k d p t small names inv all ∙ by_case (nat_lt 0 (open_below d.state d.state.plain.opened)) none)
  where
    by_case : (b : Bool) → (b ≡ false) ⊎ (all ≤ k) → (b && nat_lt k all) ≡ false
    by_case false h = refl
    by_case true (inl h) = absurd (cc h)
    by_case true (inr le) = le-ltb k all le

-- Behind the turns of a script that led to a state stand closing turns, each of which was called for.
pub record IsClosing (g : Settings) (turns : List ScriptTurn) (scripted : Trace) (plain : Plain) (t : Trace) : Type 0 where
  pub closing : Trace
  pub is : t ≡ scripted ++ closing
  pub starts : IsOfTurns closing
  pub each : AtTurnEnds (λ z. BetweenTurns g (scripted ++ z)
      (λ s. makes_one_more turns (most_closing_turns turns g scripted plain) (scripted ++ z) s ≡ true)) closing

pub closing-none : (g : Settings) (turns : List ScriptTurn) (scripted : Trace) (plain : Plain) → IsClosing g turns scripted plain scripted
closing-none g turns scripted plain = record {
  closing = [];
  is = sym (append-nil scripted);
  starts = inr refl;
  each = ends-none _;
}

-- turns behind turns begin with one
starts-more : (part added : Trace) → IsOfTurns part → begins_turn added ≡ true → begins_turn (part ++ added) ≡ true
starts-more [] added starts begins = begins
starts-more (x ∷ part) added (inl starts) begins = starts
starts-more (x ∷ part) added (inr none) begins = absurd (cc)

-- one closing turn more
pub closing-more : (g : Settings) (turns : List ScriptTurn) (scripted : Trace) (plain : Plain) (t added : Trace) →
    IsClosing g turns scripted plain t →
    BetweenTurns g t (λ s. makes_one_more turns (most_closing_turns turns g scripted plain) t s ≡ true) →
    begins_turn added ≡ true → count_by is_turn added ≡ 1 → IsClosing g turns scripted plain (t ++ added)
closing-more g turns scripted plain t added so more begins once = record {
  closing = so.closing ++ added;
  is = ap (λ z. z ++ added) so.is ∙ append_assoc scripted so.closing added;
  starts = inl (starts-more so.closing added so.starts begins);
  each = ends-grow _ so.closing added so.each
      (subst (λ z. BetweenTurns g z (λ s. makes_one_more turns (most_closing_turns turns g scripted plain) z s ≡ true)) so.is more)
      begins once;
}

-- A run that began with all turns of the script and a state between two turns drains its links.
pub drains-of : (g : Settings) (turns : List ScriptTurn) (scripted : Trace) (plain : Plain) (answer : TurnAnswer) (t : Trace) →
    begun turns scripted ≡ length turns → Reaches g scripted (at Stage.Between plain) → IsClosing g turns scripted plain t →
    DrainEnds turns g (most_closing_turns turns g scripted plain) answer t → DrainsByTurns turns g answer t
drains-of g turns scripted plain answer t all reached so ends = (run, so.starts)
  where
    run : Drains turns g answer t
    run = record {
      scripted = scripted;
      closing = so.closing;
      is = so.is;
      all = all;
      plain = plain;
      reached = reached;
      each = λ before after ms bytes cut. so.each before ((entry.Turn ms, bytes) ∷ after) cut refl;
      ends = ends;
    }

-- as closing turns begin, none was announced
pub began-stands : (g : Settings) (n : ℕ) (turns : List ScriptTurn) (step : ℕ) (d : DriveValue) (p : PortState) (t : Trace) →
    StandsAfter g n (first_plan turns step) d p t → n ≡ length turns →
    StandsAfter g (length turns + 0) (closing_plan turns step 0) d p t
began-stands g n turns step d p t inv many =
    subst (λ m. StandsAfter g m (first_plan turns step) d p t) (let none : n ≡ length turns + 0 = omega (arith, many) in none) inv

-- a run that stood behind all turns of its script drains its links
pub drains-from : (g : Settings) (turns : List ScriptTurn) (step : ℕ) (d : DriveValue) (p : PortState) (scripted : Trace)
    (small : AreSmall turns) (names : NamesOpened 0 (lines_of turns)) →
    StandsAfter g (length turns + 0) (closing_plan turns step 0) d p scripted → (answer : TurnAnswer) (t : Trace) →
    IsClosing g turns scripted d.state.plain t →
    DrainEnds turns g (most_closing_turns turns g scripted d.state.plain) answer t → DrainsByTurns turns g answer t
drains-from g turns step d p scripted small names inv answer t so ends =
    let n = begun-so g turns step 0 d p scripted small names inv in
    drains-of g turns scripted d.state.plain answer t (omega (arith, n)) (reached g turns step 0 d p scripted small names inv) so ends
