-- Of two closing turns in a row one has an event that moves on: a link is open between them, and the clock goes on by a step before each.
use Rattle.std.proofs.Common.{◌≡◌, ℕ, ◌+◌, ◌-◌, ◌*◌, ◌≤◌, max, min, true, false, ◌||◌, List, [], ◌∷◌, ◌++◌, length, count_by, inl, inr}
use Rattle.std.proofs.Common.{refl, sym, ◌∙◌, ap, subst, arith, append_assoc, append-nil}
use Rattle.std.specs.List.{flat_map, list_any, AllByRecursion}
use Rattle.std.proofs.Math.Nat.{mul-le-mul_left}
use Rattle.ev_types.specs.declared.entry.Entry.TheVariants as entry
use Rattle.ev_types.specs.declared.status.LinkCount.{LinkCount}
use Rattle.ev_types.specs.ScriptTurn.{ScriptTurn}
use Rattle.ev_types.specs.Times.{latest, greatest_time}
use Rattle.ev_types.specs.Trace.{Event, Trace}
use Rattle.relay_model.specs.Settings.{Settings}
use Rattle.relay_model.specs.Plain.{Plain}
use Rattle.relay_model.specs.Stages.{Stage, at}
use Rattle.relay_model.specs.Turn.{Reaches}
use Rattle.relay_model.specs.Answers.{TurnAnswer}
use Rattle.relay_model.specs.Script.{closing_step}
use Rattle.relay_model.specs.RatesKept.{is_turn}
use Rattle.relay_model.specs.Scripted.{reading, begun}
use Rattle.relay_model.specs.Plays.{IsAnswered}
use Rattle.relay_model.specs.OpenLinks.{open_link_count, FreesAreDone}
use Rattle.relay_model.specs.MovingOn.{moves_on, with_turn, IsWholeTurn, IsDraining, IsUnhindered}
use Rattle.relay_model.specs.Work.{PairsMoveOn}
use Rattle.relay_model.specs.ClosingTurns.{BetweenTurns}
use Rattle.relay_model.proofs.ClosingGoes.{two_closing_turns_go_on}
use Rattle.relay_model.proofs.ToldLemmas.{kept}
use Rattle.relay_laws.specs.Relayed.{IsRelayed, StoodAt, StoodBetween}
use Rattle.drain_laws.specs.CanDrain.{CanDrain, LeavesRoom, last_moment}
use Rattle.drain_laws.proofs.AnsweredTurns.{answered-turn, reading-closing, clock-within, greatest_time-append, last_time-within}
use Rattle.drain_laws.proofs.AnsweredTurns.{begun-append}
use Rattle.drain_laws.proofs.TurnPlaces.{turn-bare, between-one, leads-on, IsTurn, AtEnd, parts-begin}
use Rattle.drain_laws.proofs.ClockSteps.{side-ticks, group-ticks}

-- an event with which a turn begins
record IsBeginning (y : Event) : Type 0 where
  ms : ℕ
  bytes : List ℕ
  is : y ≡ (entry.Turn ms, bytes)

beginning-form : (y : Event) → is_turn y ≡ true → IsBeginning y
beginning-form (entry.Turn ms, bytes) h = record { ms = ms; bytes = bytes; is = refl }
beginning-form _ h = absurd (cc)

-- frees of a beginning of a trace are frees of the trace
pub frees-before : (t before after : Trace) → t ≡ before ++ after → FreesAreDone t → FreesAreDone before
frees-before t before after is h = λ early late e why moved given bytes k.
    h early (late ++ after) e why moved given bytes
    (is ∙ ap (λ v. v ++ after) k ∙ append_assoc early ((entry.Freed e why moved given, bytes) ∷ late) after)

module _ (g : Settings) (turns : List ScriptTurn) (t : Trace) (links : List LinkCount) (relayed : IsRelayed g TurnAnswer.Went t links)
    (answered : IsAnswered turns (closing_step g) t) where
  pub stood-whole : StoodBetween g t
  stood-whole = subst (λ x. StoodAt g t x) relayed.ended.left relayed.ended.stood

  -- where turns end the relay stood between turns, and what stands before was answered
  pub stood-there : (before after : Trace) → t ≡ before ++ after → AtEnd after → StoodBetween g before
  stood-there before after is (inl begins) = relayed.turn_ends before after is begins
  stood-there before after is (inr none) = subst (StoodBetween g) (is ∙ ap (λ v. before ++ v) none ∙ append-nil before) stood-whole

  pub answered-there : (before after : Trace) → t ≡ before ++ after → AtEnd after → IsAnswered turns (closing_step g) before
  answered-there before [] is end = subst (IsAnswered turns (closing_step g)) (is ∙ append-nil before) answered
  answered-there before (y ∷ after) is (inl begins) =
      let k = beginning-form y begins in
      (answered-turn turns (closing_step g) t answered before after k.ms k.bytes (is ∙ ap (λ v. before ++ v ∷ after) k.is)).answered
  answered-there before (y ∷ after) is (inr none) = absurd (cc)

  module _ (can : CanDrain g turns) (room : LeavesRoom g) (frees : FreesAreDone t)
      (clock : last_moment turns + closing_step g * (begun turns t - length turns) ≤ latest) where
    -- a closing turn comes a step later than all before it
    comes-later : (before after : Trace) (ms : ℕ) → t ≡ before ++ (entry.Turn ms, []) ∷ after → length turns ≤ begun turns before →
        greatest_time before + closing_step g ≤ ms
    comes-later before after ms is le =
        let step = closing_step g in
        let n = begun turns before in
        let k = answered-turn turns step t answered before after ms [] is in
        let r = reading turns step n in
        let a : ms ≡ max (greatest_time before) (min r latest) = k.clock in
        let b : r ≡ last_moment turns + step * (n + 1 - length turns) = reading-closing turns step n le in
        let c = clock-within turns step can.last_is_greatest before k.answered in
        let d : n + 1 - length turns ≡ (n - length turns) + 1 = omega (arith, le) in
        let e : step * (n + 1 - length turns) ≡ step * (n - length turns) + step =
        ap (λ v. step * v) d ∙ next step (n - length turns) in
        let all : begun turns t ≡ n + count_by is_turn ((entry.Turn ms, []) ∷ after) =
        ap (count_by is_turn) is ∙ begun-append before ((entry.Turn ms, []) ∷ after) in
        let one = begun-append ((entry.Turn ms, []) ∷ []) after in
        let first : count_by is_turn ((entry.Turn ms, []) ∷ []) ≡ 1 = refl in
        let f : step * (n + 1 - length turns) ≤ step * (begun turns t - length turns) =
        mul-le-mul_left step (omega (arith, all, one, first)) in
        omega (arith, a, b, c, e, f, clock)
      where
        next : (s k : ℕ) → s * (k + 1) ≡ s * k + s
        next s k = grind arith

    two-go : (front : Trace) (one : ℕ) (first : Trace) (two : ℕ) (second rest : Trace) →
        t ≡ front ++ (entry.Turn one, []) ∷ (first ++ (entry.Turn two, []) ∷ (second ++ rest)) → list_any is_turn first ≡ false →
        list_any is_turn second ≡ false → AtEnd rest → length turns ≤ begun turns front →
        BetweenTurns g (with_turn front one first) (λ s. 1 ≤ open_link_count s) →
        (list_any moves_on first || list_any moves_on second) ≡ true
    two-go front one first two second rest is quiet still end le some_open =
        two_closing_turns_go_on g turns (closing_step g) front s0.plain one first s1.plain two second s2.plain unhindered can.drainable
        (answered-there u2 rest is2 end) begun_u1 whole1 whole2 draining
        (group-ticks g s0.plain.time one (omega (arith, early, later)))
        (group-ticks g one two (omega (arith, within, latter)))
        (side-ticks g s1.plain.time two (omega (arith, mid, latter)))
      where
        unhindered : IsUnhindered g
        unhindered = record {
          hooks = can.hooks;
          in_timeouts = can.in_timeouts;
          out_timeouts = can.out_timeouts;
          holds = room.holds;
          shares = room.shares;
        }

        u1 : Trace
        u1 = with_turn front one first

        u2 : Trace
        u2 = with_turn u1 two second

        is1 : t ≡ u1 ++ (entry.Turn two, []) ∷ (second ++ rest)
        is1 = is ∙ sym (append_assoc front ((entry.Turn one, []) ∷ first) ((entry.Turn two, []) ∷ (second ++ rest)))

        is2 : t ≡ u2 ++ rest
        is2 = is1 ∙ sym (append_assoc u1 ((entry.Turn two, []) ∷ second) rest)

        s0 : StoodBetween g front
        s0 = stood-there front ((entry.Turn one, []) ∷ (first ++ (entry.Turn two, []) ∷ (second ++ rest))) is (inl refl)

        s1 : StoodBetween g u1
        s1 = stood-there u1 ((entry.Turn two, []) ∷ (second ++ rest)) is1 (inl refl)

        s2 : StoodBetween g u2
        s2 = stood-there u2 rest is2 end

        whole1 : IsWholeTurn g front s0.plain one first s1.plain
        whole1 = record {
          reached = s0.reached;
          leads = leads-on g front s0.plain s0.reached (entry.Turn one, []) refl first (at Stage.Between s1.plain) s1.reached;
          one = quiet;
        }

        whole2 : IsWholeTurn g u1 s1.plain two second s2.plain
        whole2 = record {
          reached = s1.reached;
          leads = leads-on g u1 s1.plain s1.reached (entry.Turn two, []) refl second (at Stage.Between s2.plain) s2.reached;
          one = still;
        }

        draining : IsDraining g u1 s1.plain
        draining = record {
          some_open =
              subst (λ (p : Plain). 1 ≤ open_link_count p)
              (between-one g u1 some_open.0 s1.plain some_open.1 s1.reached) some_open.2;
          accounted = s1.accounted;
          frees = frees-before t u1 ((entry.Turn two, []) ∷ (second ++ rest)) is1 frees;
        }

        begun_u1 : length turns ≤ begun turns u1
        begun_u1 = let a = begun-append front ((entry.Turn one, []) ∷ first) in omega (arith, a, le)

        time-within : (u : Trace) (s : Plain) → Reaches g u (at Stage.Between s) → s.time ≤ greatest_time u
        time-within u s r =
            let a = (kept g u (at Stage.Between s) r).counts.shape.time in let b = last_time-within u 0 in omega (arith, a, b)

        early : s0.plain.time ≤ greatest_time front
        early = time-within front s0.plain s0.reached

        mid : s1.plain.time ≤ greatest_time u1
        mid = time-within u1 s1.plain s1.reached

        within : one ≤ greatest_time u1
        within =
            let a = greatest_time-append front ((entry.Turn one, []) ∷ first) in
            let b : greatest_time ((entry.Turn one, []) ∷ first) ≡ max one (greatest_time first) = refl in
            omega (arith, a, b)

        later : greatest_time front + closing_step g ≤ one
        later = comes-later front (first ++ (entry.Turn two, []) ∷ (second ++ rest)) one is le

        latter : greatest_time u1 + closing_step g ≤ two
        latter = comes-later u1 (second ++ rest) two is1 begun_u1

    -- Behind a part of the run, turns in each of which a link is open as it begins.
    module _ (scripted closing : Trace) (is : t ≡ scripted ++ closing) (all : length turns ≤ begun turns scripted)
        (each : (before after : Trace) (ms : ℕ) (bytes : List ℕ) → closing ≡ before ++ (entry.Turn ms, bytes) ∷ after →
        BetweenTurns g (scripted ++ before) (λ s. 1 ≤ open_link_count s)) where
      bare : (before after : Trace) (ms : ℕ) (bytes : List ℕ) → t ≡ before ++ (entry.Turn ms, bytes) ∷ after → bytes ≡ []
      bare before after ms bytes k = turn-bare g t (at Stage.Between stood-whole.plain) stood-whole.reached before after ms bytes k

      pair-goes : (m : Trace) (one : ℕ) (b1 : List ℕ) (first : Trace) (two : ℕ) (b2 : List ℕ) (second rest : Trace) →
          closing ≡ m ++ (entry.Turn one, b1) ∷ (first ++ (entry.Turn two, b2) ∷ (second ++ rest)) → list_any is_turn first ≡ false →
          list_any is_turn second ≡ false → AtEnd rest → (list_any moves_on first || list_any moves_on second) ≡ true
      pair-goes m one b1 first two b2 second rest cut quiet still end =
          two-go front one first two second rest clean quiet still end
          (let a = begun-append scripted m in omega (arith, a, all))
          (subst (λ v. BetweenTurns g v (λ s. 1 ≤ open_link_count s)) same opens)
        where
          front : Trace
          front = scripted ++ m

          whole : t ≡ front ++ (entry.Turn one, b1) ∷ (first ++ (entry.Turn two, b2) ∷ (second ++ rest))
          whole =
              is ∙ ap (λ v. scripted ++ v) cut
              ∙ sym (append_assoc scripted m ((entry.Turn one, b1) ∷ (first ++ (entry.Turn two, b2) ∷ (second ++ rest))))

          none1 : b1 ≡ []
          none1 = bare front (first ++ (entry.Turn two, b2) ∷ (second ++ rest)) one b1 whole

          none2 : b2 ≡ []
          none2 =
              bare (front ++ (entry.Turn one, b1) ∷ first) (second ++ rest) two b2
              (whole ∙ sym (append_assoc front ((entry.Turn one, b1) ∷ first) ((entry.Turn two, b2) ∷ (second ++ rest))))

          clean : t ≡ front ++ (entry.Turn one, []) ∷ (first ++ (entry.Turn two, []) ∷ (second ++ rest))
          clean = whole ∙ (λ i. front ++ (entry.Turn one, none1 i) ∷ (first ++ (entry.Turn two, none2 i) ∷ (second ++ rest)))

          opens : BetweenTurns g (scripted ++ (m ++ (entry.Turn one, b1) ∷ first)) (λ s. 1 ≤ open_link_count s)
          opens =
              each (m ++ (entry.Turn one, b1) ∷ first) (second ++ rest) two b2
              (cut ∙ sym (append_assoc m ((entry.Turn one, b1) ∷ first) ((entry.Turn two, b2) ∷ (second ++ rest))))

          same : scripted ++ (m ++ (entry.Turn one, b1) ∷ first) ≡ with_turn front one first
          same =
              sym (append_assoc scripted m ((entry.Turn one, b1) ∷ first)) ∙ (λ i. front ++ (entry.Turn one, none1 i) ∷ first)

      -- so of each two in a row one moves on
      pub pairs-go : (parts : List Trace) → AllByRecursion IsTurn parts → (m : Trace) → closing ≡ m ++ flat_map (λ part. part) parts →
          PairsMoveOn parts
      pairs-go [] h m cut = tt
      pairs-go (p ∷ []) h m cut = tt
      pairs-go (p ∷ q ∷ ps) h m cut = (
        (λ i. list_any moves_on (h.0.is i) || list_any moves_on (h.1.0.is i))
            ∙ pair-goes m h.0.ms h.0.bytes h.0.rest h.1.0.ms h.1.0.bytes h.1.0.rest (flat_map (λ part. part) ps)
            (cut ∙ (λ i. m ++ (h.0.is i ++ (h.1.0.is i ++ flat_map (λ part. part) ps)))) h.0.one h.1.0.one (parts-begin ps h.1.1),
        pairs-go (q ∷ ps) h.1 (m ++ p) (cut ∙ sym (append_assoc m p (flat_map (λ part. part) (q ∷ ps)))),
      )
