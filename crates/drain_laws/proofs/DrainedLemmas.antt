-- Over a script that can be drained, closing turns that begin where the last turn of the script ends bring every link to its end: they are
-- fewer than the most, so none is left open as they end.
use Rattle.std.proofs.Common.{◌≡◌, ℕ, ◌+◌, ◌-◌, ◌*◌, ◌<◌, ◌≤◌, true, false, ◌&&◌, List, [], ◌∷◌, ◌++◌, length, count_by, inl, inr}
use Rattle.std.proofs.Common.{sym, ◌∙◌, ap, subst, arith}
use Rattle.std.specs.Prelude.{nat_lt, nat_le}
use Rattle.std.specs.List.{flat_map, list_any}
use Rattle.std.proofs.lemmas.Bool.{cases_lt, lt-ltb, le-leb, and_parts, leb-true, or_parts}
use Rattle.std.proofs.Math.Nat.{mul-le-mul_left}
use Rattle.ev_types.specs.declared.entry.Entry.TheVariants as entry
use Rattle.ev_types.specs.declared.status.LinkCount.{LinkCount}
use Rattle.ev_types.specs.ScriptTurn.{ScriptTurn}
use Rattle.ev_types.specs.Times.{latest}
use Rattle.ev_types.specs.Trace.{Trace}
use Rattle.relay_model.specs.Settings.{Settings}
use Rattle.relay_model.specs.Plain.{Plain}
use Rattle.relay_model.specs.Stages.{Stage, at}
use Rattle.relay_model.specs.Turn.{Reaches}
use Rattle.relay_model.specs.Onward.{Leads}
use Rattle.relay_model.specs.Answers.{TurnAnswer}
use Rattle.relay_model.specs.Script.{closing_step}
use Rattle.relay_model.specs.RatesKept.{is_turn}
use Rattle.relay_model.specs.Scripted.{begun}
use Rattle.relay_model.specs.Plays.{IsAnswered, TookAll}
use Rattle.relay_model.specs.Stands.{AllAccounted}
use Rattle.relay_model.specs.OpenLinks.{open_link_count, FreesAreDone}
use Rattle.relay_model.specs.Work.{PairsMoveOn}
use Rattle.relay_model.specs.ClosingTurns.{most_closing_turns, makes_one_more, BetweenTurns, Drains}
use Rattle.relay_model.proofs.DrainLemmas.{drains_in_most}
use Rattle.relay_laws.specs.Relayed.{IsRelayed}
use Rattle.relay_laws.specs.TurnEnds.{begins_turn}
use Rattle.drain_laws.specs.CanDrain.{CanDrain, LeavesRoom, IsCountable, last_moment, closing_turn_bound}
use Rattle.drain_laws.specs.DrainBound.{FreesAreOfDone, MostIsBounded, ClosingTurnsAreFew, AllLinksDone, DrainedLinksAreDone}
use Rattle.drain_laws.proofs.AnsweredTurns.{begun-append}
use Rattle.drain_laws.proofs.TurnPlaces.{leads-on, between-one, Cut, cut, AtEnd}
use Rattle.drain_laws.proofs.ClosingPairs.{stood-whole, answered-there, pairs-go}
use Rattle.drain_laws.proofs.LinksDone.{opened-lives, none-left, all-taken}

-- a trace that begins with a turn has nothing before its first turn
no-head : (t head rest : Trace) → begins_turn t ≡ true → t ≡ head ++ rest → list_any is_turn head ≡ false → t ≡ rest
no-head t [] rest begins is quiet = is
no-head t (y ∷ head) rest begins is quiet =
    absurd (let a : is_turn y ≡ true = sym (ap begins_turn is) ∙ begins in
    let b : is_turn y ≡ false = (or_parts (is_turn y) (list_any is_turn head) quiet).0 in
    let c : true ≡ false = sym a ∙ b in cc)

-- steps lead on over closing turns
leads-closing : (g : Settings) (t : Trace) (s : Plain) → Reaches g t (at Stage.Between s) → (closing : Trace) →
    begins_turn closing ≡ true → (after : Plain) → Reaches g (t ++ closing) (at Stage.Between after) →
    Leads g t (at Stage.Between s) (t ++ closing) (at Stage.Between after)
leads-closing g t s r [] begins after m = absurd (cc)
leads-closing g t s r (y ∷ rest) begins after m = leads-on g t s r y begins rest (at Stage.Between after) m

one-more-open : (turns : List ScriptTurn) (most : ℕ) (t : Trace) (s : Plain) → makes_one_more turns most t s ≡ true → 1 ≤ open_link_count s
one-more-open turns most t s h =
    leb-true 1 (open_link_count s) (and_parts (nat_le 1 (open_link_count s)) (nat_lt (begun turns t - length turns) most) h).0

-- where no turn more is made though fewer than the most were, no link is open
none-more-open : (turns : List ScriptTurn) (most : ℕ) (t : Trace) (s : Plain) → makes_one_more turns most t s ≡ false →
    begun turns t - length turns < most → open_link_count s ≡ 0
none-more-open turns most t s h fewer = elim (cases_lt 0 (open_link_count s)) [
  | inl some ↦
      absurd (let a = le-leb 1 (open_link_count s) some in let b = lt-ltb (begun turns t - length turns) most fewer in
      let c : (true && true) ≡ false = sym (λ i. a i && b i) ∙ h in cc)
  | inr none ↦ omega (arith, none)
]

module _ (frees_done : FreesAreOfDone) (bounded : MostIsBounded) (few : ClosingTurnsAreFew) (g : Settings) (turns : List ScriptTurn)
    (t : Trace) (links : List LinkCount) (can : CanDrain g turns) (room : LeavesRoom g) (countable : IsCountable g turns)
    (relayed : IsRelayed g TurnAnswer.Went t links) (answered : IsAnswered turns (closing_step g) t) (took : TookAll turns g.links t)
    (run : Drains turns g TurnAnswer.Went t) where
  abbrev step : ℕ
  step = closing_step g

  abbrev most : ℕ
  most = most_closing_turns turns g run.scripted run.plain

  abbrev ended : Plain
  ended = run.ends.0

  end : Reaches g t (at Stage.Between ended)
  end = run.ends.1

  frees : FreesAreDone t
  frees = frees_done g turns step t can countable.none_behind (at Stage.Between ended, end) answered

  begun_is : begun turns t ≡ length turns + count_by is_turn run.closing
  begun_is =
      ap (count_by is_turn) run.is ∙ begun-append run.scripted run.closing ∙ ap (λ n. n + count_by is_turn run.closing) run.all

  -- closing turns that begin where the script's last turn ends are fewer than the most
  module _ (begins : begins_turn run.closing ≡ true) where
    answered_before : IsAnswered turns step run.scripted
    answered_before = answered-there g turns t links relayed answered run.scripted run.closing run.is (inl begins)

    clock : last_moment turns + step * (begun turns t - length turns) ≤ latest
    clock =
        let a = drains_in_most turns g TurnAnswer.Went t run in
        let b = bounded g turns step run.scripted run.plain countable.names run.reached answered_before in
        let c : step * (begun turns t - length turns) ≤ step * closing_turn_bound turns =
        mul-le-mul_left step (omega (arith, a, b)) in
        let d = countable.clock in
        omega (arith, c, d)

    parts : Cut run.closing
    parts = cut run.closing

    closing_is : run.closing ≡ flat_map (λ part. part) parts.parts
    closing_is = no-head run.closing parts.head (flat_map (λ part. part) parts.parts) begins parts.is parts.quiet

    each : (before after : Trace) (ms : ℕ) (bytes : List ℕ) → run.closing ≡ before ++ (entry.Turn ms, bytes) ∷ after →
        BetweenTurns g (run.scripted ++ before) (λ s. 1 ≤ open_link_count s)
    each before after ms bytes is =
        let k = run.each before after ms bytes is in
        (k.0, k.1, one-more-open turns most (run.scripted ++ before) k.0 k.2)

    pairs : PairsMoveOn parts.parts
    pairs =
        pairs-go g turns t links relayed answered can room frees clock run.scripted run.closing run.is
        (let a = run.all in omega (arith, a)) each parts.parts parts.each [] closing_is

    whole : t ≡ run.scripted ++ flat_map (λ part. part) parts.parts
    whole = run.is ∙ ap (λ v. run.scripted ++ v) closing_is

    leads : Leads g run.scripted (at Stage.Between run.plain) (run.scripted ++ flat_map (λ part. part) parts.parts)
        (at Stage.Between ended)
    leads =
        subst (λ v. Leads g run.scripted (at Stage.Between run.plain) (run.scripted ++ v) (at Stage.Between ended)) closing_is
        (leads-closing g run.scripted run.plain run.reached run.closing begins ended
        (subst (λ v. Reaches g v (at Stage.Between ended)) run.is end))

    begun-fewer : begun turns t - length turns < most
    begun-fewer =
        let a = few g turns step run.scripted run.plain parts.parts ended can countable.names countable.none_behind run.reached
        leads
        (subst (IsAnswered turns step) whole answered) (let k = run.all in omega (arith, k)) pairs in
        let b = parts.count in
        let c = begun_is in
        omega (arith, a, b, c)

  fewer : AtEnd run.closing → begun turns t - length turns < most
  fewer (inl begins) = begun-fewer begins
  fewer (inr none) = (let a = begun_is in let b : count_by is_turn run.closing ≡ 0 = ap (count_by is_turn) none in omega (arith, a, b))

  pub links-done : AtEnd run.closing → AllLinksDone turns t
  links-done starts =
      none-left g t ended end frees turns none_open
      (all-taken turns step t answered (let a = begun_is in omega (arith, a)) g countable.links took
      (λ many. let a = opened-lives g t ended end frees accounted relayed.freed (omega (arith, many)) in omega (arith, a, none_open)))
    where
      none_open : open_link_count ended ≡ 0
      none_open = none-more-open turns most t ended run.ends.2 (fewer starts)

      accounted : AllAccounted g t ended
      accounted =
          let k = stood-whole g turns t links relayed answered in
          subst (AllAccounted g t) (between-one g t k.plain ended k.reached end) k.accounted

pub drained_links_are_done : FreesAreOfDone → MostIsBounded → ClosingTurnsAreFew → DrainedLinksAreDone
drained_links_are_done frees_done bounded few g turns t links can room countable relayed answered always took run starts =
    links-done frees_done bounded few g turns t links can room countable relayed answered took run starts
