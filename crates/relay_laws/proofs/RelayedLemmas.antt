-- What a relay makes between two turns, and where a turn is cut off, is what a program says of its run, with the report of what the
-- relay counts.
use Rattle.std.proofs.Common.{◌≡◌, ◌≤◌, ◌<◌, ◌+◌, ℕ, zero, suc, List, [], ◌∷◌, ◌++◌, length, refl, sym, ◌∙◌, subst, arith, length-append}
use Rattle.ev_types.specs.Trace.{Trace}
use Rattle.ev_types.specs.declared.status.LinkCount.{LinkCount}
use Rattle.relay_model.specs.Settings.{Settings}
use Rattle.relay_model.specs.Stages.{Stage, at}
use Rattle.relay_model.specs.Turn.{Reaches}
use Rattle.relay_model.specs.Answers.{TurnAnswer, LeftAt}
use Rattle.relay_model.specs.Stands.{AllAccounted}
use Rattle.relay_model.specs.Totals.{opened}
use Rattle.relay_model.proofs.SoFarLemmas.{buffers_are_within_so_far}
use Rattle.relay_model.proofs.GroupBound.{rates-are_kept}
use Rattle.relay_model.proofs.QuietLemmas.{legal_is_quiet}
use Rattle.relay_model.proofs.CauseLemmas.{frees_have_causes}
use Rattle.relay_model.proofs.StandsLawLemmas.{bytes_given_begin, closed_is_whole}
use Rattle.relay_state.specs.State.{State}
use Rattle.relay_state.specs.Closing.{in_side, out_side}
use Rattle.relay_state.specs.Counting.{link_count}
use Rattle.relay_steps.specs.Meaning.{StandsFor}
use Rattle.relay_laws.specs.Links.{AllRecorded}
use Rattle.relay_laws.specs.TurnEnds.{AtTurnEnds}
use Rattle.relay_laws.specs.Report.{lines_below}
use Rattle.relay_laws.specs.Relayed.{IsRelayed, StoodAt, StoodBetween, TellsLink, TellsLinks}
use Rattle.relay_laws.proofs.LawLemmas.{means_conserved, counts_are_told}
use Rattle.relay_laws.proofs.LinkLemmas.{left-recorded, links_are_told}

-- one link more
tells-push : (t : Trace) (k : ℕ) (xs : List LinkCount) (x : LinkCount) → TellsLinks t k xs → TellsLink t (k + length xs) x →
    TellsLinks t k (xs ++ x ∷ [])
tells-push t k [] x h y =
    let here : k + 0 ≡ k = omega arith in (subst (λ n. TellsLink t n x) here y, tt)
tells-push t k (z ∷ zs) x h y =
    let on : k + length (z ∷ zs) ≡ suc k + length zs = omega arith in
    (h.0, tells-push t (suc k) zs x h.1 (subst (λ n. TellsLink t n x) on y))

pub length-lines_below : (s : State) (n : ℕ) → length (lines_below s n) ≡ n
length-lines_below s zero = refl
length-lines_below s (suc n) =
    let less = length-lines_below s n in omega (arith, less, length-append (lines_below s n) (link_count s n ∷ []))

tells-below : (t : Trace) (x : Stage) (s : State) (k : StandsFor t x s) → AllRecorded x → (n : ℕ) → n ≤ s.plain.opened →
    TellsLinks t 0 (lines_below s n)
tells-below t x s k still zero h = tt
tells-below t x s k still (suc n) h =
    let near = counts_are_told t x s k (in_side n) (omega (arith, h)) in
    let far = counts_are_told t x s k (out_side n) (omega (arith, h)) in
    let at : 0 + length (lines_below s n) ≡ n = omega (arith, length-lines_below s n) in
    let links = links_are_told t x s k still in
    let below : n < opened t = omega (arith, h, links.links) in
    let told : TellsLink t n (link_count s n) =
    record { state = links.each n below; in_read = near.0; in_given = near.1; out_read = far.0; out_given = far.1 } in
    tells-push t 0 (lines_below s n) (link_count s n) (tells-below t x s k still n (omega (arith, h)))
    (subst (λ m. TellsLink t m (link_count s n)) (sym at) told)

-- a relay that stands for a trace stood so
pub stood-at : (g : Settings) (t : Trace) (x : Stage) (s : State) → s.settings ≡ g → StandsFor t x s → StoodAt g t x
stood-at g t x s is k =
    let reached : Reaches g t (at x s.plain) = subst (λ z. Reaches z t (at x s.plain)) is k.reached in
    record {
      plain = s.plain;
      reached = reached;
      accounted = subst (λ z. AllAccounted z t s.plain) is (means_conserved t x s k).conserved.accounted;
      within = λ e lt. buffers_are_within_so_far g t (at x s.plain) e reached lt;
    }

-- A relay that stands for a trace at a stage at which a turn may answer so made that trace, and ended with this answer.
pub relayed-of : (g : Settings) (answer : TurnAnswer) (t : Trace) (x : Stage) (s : State) → s.settings ≡ g → StandsFor t x s →
    LeftAt s.settings answer x s.plain → AtTurnEnds (StoodBetween g) t → IsRelayed g answer t (lines_below s s.plain.opened)
unfolding stood-at
relayed-of g answer t x s is k left ends =
    let stood : StoodAt g t x = stood-at g t x s is k in
    let left_at : LeftAt g answer x s.plain = subst (λ z. LeftAt z answer x s.plain) is left in
    let still : AllRecorded x = left-recorded s.settings answer x s.plain left in
    record {
      ended = record { stage = x; stood = stood; left = left_at };
      turn_ends = ends;
      begins = λ e. bytes_given_begin g t s.plain stood.accounted e;
      whole = λ e. closed_is_whole g t s.plain stood.accounted e;
      rates = rates-are_kept g t (at x s.plain, stood.reached);
      quiet = legal_is_quiet g t (at x s.plain, stood.reached);
      freed = λ before after e why moved given bytes split.
          frees_have_causes g t before after e why moved given bytes (at x s.plain, stood.reached) split;
      opened = length-lines_below s s.plain.opened ∙ (links_are_told t x s k still).links;
      report = tells-below t x s k still s.plain.opened (omega arith);
    }
