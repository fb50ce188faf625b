-- Where no link waits at a script port, none waits by what it vouches for.
use Rattle.std.proofs.Common.{◌≡◌, ℕ, Bool, true, false, ◌&&◌, not, if◌then◌else◌, nat_eq, List, [], ◌∷◌, ◌++◌, append_assoc, length, refl}
use Rattle.std.proofs.Common.{sym, ◌∙◌, ap, subst, arith, inl, inr}
use Rattle.std.specs.Prelude.{⊤, MatchBool}
use Rattle.std.proofs.lemmas.Bool.Decides.{eqb_tells}
use Rattle.ev_types.specs.ScriptTurn.{ScriptTurn}
use Rattle.ev_types.specs.Trace.{Trace}
use Rattle.relay_model.specs.Plays.{AllTaken, TookAll, AlwaysAllTaken, AlwaysTookAll, is_behind_accepting}
use Rattle.relay_model.specs.Scripted.{waiting}
use Rattle.ev_port.specs.declared.port.Accepted.TheVariants as answer
use Rattle.ev_port.specs.declared.port.Polled.TheVariants as polled
use Rattle.script_port.specs.ScriptLinks.{accept_answer, after_wants}
use Rattle.ev_port.specs.declared.port.Want.{Want}
use Rattle.script_port.specs.ScriptState.{LinksState, PortState}
use Rattle.script_port.specs.ScriptPort.{poll_answer}
use Rattle.script_port.specs.ScriptPlan.{ScriptPlan, closings, IsCalledBy}
use Rattle.script_port.specs.ScriptPlays.{NoneWaitsOn}
use Rattle.script_port.specs.ScriptVouched.{ScriptVouches, NoneWaits}
use Rattle.ev_port.specs.Vouching.{NothingWaits}
use Rattle.script_port.proofs.ScriptTraceLemmas.{like-wants}
use Rattle.script_port.proofs.ScriptVouchLemmas.{called_before, called_theirs, stands_if}

pub nothing_waits : (p : PortState) → p.links.waiting ≡ [] → NothingWaits (ScriptVouches p) NoneWaits
nothing_waits p none = λ plan t vouched asked.
    let stands = stands_if p plan t vouched (called_theirs p plan t vouched.turns vouched.closing asked) in
    subst (λ (z : List ScriptTurn). waiting z t ≡ []) vouched.turns (sym stands.links.waiting ∙ none)

-- Where none waits by a plan, none does by another of the same script.
pub none_waits_on : NoneWaitsOn
none_waits_on plan later t same asked none = λ _. subst (λ (z : List ScriptTurn). waiting z t ≡ []) (sym same) (none asked)

-- an accept finds no link where none waits alone
pub none_to_accept : (ws : List Bool) → accept_answer ws ≡ answer.NotYet → ws ≡ []
none_to_accept [] h = refl
none_to_accept (wait ∷ ws) h = absurd (cc)

-- a poll that was asked is ready to accept unless none waits
none_to_open : (accept : Bool) (ws : List Bool) → accept ≡ true → polled.Ready (accept && not (nat_eq (length ws) 0)) ≡
    polled.Ready false → ws ≡ []
none_to_open true [] e h = refl
none_to_open true (wait ∷ ws) e h =
    elim (eqb_tells (length (wait ∷ ws)) 0) [
      | inl none ↦ absurd (let n = none.1 in omega arith)
      | inr some ↦ absurd (let k = ap not some.0 in let t : true ≡ false = cc in cc)
    ]
none_to_open false ws e h = absurd (cc)

pub none_at_poll : (p : PortState) (accept : Bool) → accept ≡ true → poll_answer p accept ≡ polled.Ready false → p.links.waiting ≡ []
none_at_poll p accept asked none = by_line p.links.poll_fails none
  where
    by_line : (b : Bool) → (if b then polled.Failed else polled.Ready (accept && not (nat_eq (length p.links.waiting) 0))) ≡
        polled.Ready false → p.links.waiting ≡ []
    by_line true h = absurd (cc)
    by_line false h = none_to_open accept p.links.waiting asked h

pub waiting-wants : (ws : List Want) (l : LinksState) → (after_wants ws l).waiting ≡ l.waiting
waiting-wants ws l = (like-wants ws l).waiting

-- Behind a trace that is called for, all that a script port is said to have taken was taken by its script.
pub took_called : (plan : ScriptPlan) (links : ℕ) (t : Trace) → IsCalledBy plan t → AllTaken (NoneWaits plan) links t →
    TookAll plan.turns links t
took_called plan links t called (inl none) = inl (none called)
took_called plan links t called (inr many) = inr many

only_if : (b : Bool) (P Q : Type 0) → (P → Q) → MatchBool b P ⊤ → MatchBool b Q ⊤
only_if true P Q f h = f h
only_if false P Q f h = h

pub always_called : (plan : ScriptPlan) (links : ℕ) (before t : Trace) → IsCalledBy plan (before ++ t) → AlwaysAllTaken
    (NoneWaits plan) links before t → AlwaysTookAll plan.turns links before t
always_called plan links before [] called h = tt
always_called plan links before (x ∷ t) called h = (
  only_if (is_behind_accepting x) (AllTaken (NoneWaits plan) links before) (TookAll plan.turns links before)
      (took_called plan links before (called_before (plan.turns ++ closings plan.closing) before (x ∷ t) called)) h.0,
  always_called plan links (before ++ x ∷ []) t (subst (IsCalledBy plan) (sym (append_assoc before (x ∷ []) t)) called) h.1,
)
