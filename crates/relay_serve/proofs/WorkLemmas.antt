-- Where there is work for a turn, by the relay and by its trace.
use Rattle.std.proofs.Common.{◌≡◌, ◌≢◌, ◌⊎◌, inl, inr, ℕ, zero, suc, ◌+◌, ◌<◌, ◌≤◌, ◌==◌, ◌&&◌, not, nat_lt, Bool, true, false, []}
use Rattle.std.proofs.Common.{◌++◌, refl}
use Rattle.std.proofs.Common.{sym, ◌∙◌, ap, subst, append-nil, arith, if◌then◌else◌}
use Rattle.std.proofs.lemmas.Bool.{and_parts, eqb-true, eqb-false, ltb-true, ltb-false, not-true, not-false}
use Rattle.ev_types.specs.declared.status.LinkState.TheVariants as state
use Rattle.ev_types.specs.Trace.{Trace}
use Rattle.relay_model.specs.Answers.{TurnAnswer}
use Rattle.relay_model.specs.Stages.{Stage}
use Rattle.relay_model.specs.Totals.{opened}
use Rattle.relay_state.specs.State.{State}
use Rattle.relay_state.specs.Closing.{in_side, out_side}
use Rattle.relay_state.specs.Counting.{open_below}
use Rattle.relay_laws.specs.Links.{LinksAre, lives_in, living_below, is_done, link_state_in}
use Rattle.relay_laws.specs.TurnEnds.{AtTurnEnds}
use Rattle.relay_laws.proofs.LawLemmas.{told}
use Rattle.relay_laws.proofs.LinkLemmas.{links_are_told, left-recorded}
use Rattle.relay_laws.proofs.TurnEndLemmas.{ends-grow}
use Rattle.relay_drive.specs.DriveStands.{StandsBetween}
use Rattle.program_end.proofs.TurnCountLemmas.{BeginsOnce}
use Rattle.relay_serve.specs.Served.{HasWork}
use Rattle.relay_serve.specs.Underway.{IsServedOut, is_served_out}

-- wherever a turn ended there was work, if there was as the last one began
pub work-on : (links : ℕ) (t a : Trace) → HasWork links t → AtTurnEnds (HasWork links) t → (a ≡ []) ⊎ BeginsOnce a →
    AtTurnEnds (HasWork links) (t ++ a)
work-on links t a here work (inl none) = subst (AtTurnEnds (HasWork links)) (sym (append-nil t) ∙ ap (λ z. t ++ z) (sym none)) work
work-on links t a here work (inr one) = ends-grow (HasWork links) t a work here one.first one.once

-- a link that lives, where some do
living : (t : Trace) (n : ℕ) → 0 < living_below t n → (link : ℕ) × (link < n) × (link_state_in t link ≡ state.Live)
living t zero h = absurd (omega (arith, h))
living t (suc n) h = go (λ k. living t n k) (lives_in t n) refl h
  where
    go : (0 < living_below t n → (link : ℕ) × (link < n) × (link_state_in t link ≡ state.Live)) → (b : Bool) → lives_in t n ≡ b →
        0 < living_below t n + (if b then 1 else 0) → (link : ℕ) × (link < suc n) × (link_state_in t link ≡ state.Live)
    go less true is h = (
      n,
      omega arith,
      ap (λ z. if z then state.Live else (if is_done (in_side n) t && is_done (out_side n) t then state.Done else state.Gone)) is,
    )
    go less false is h = let k = less (omega (arith, h)) in (k.0, (let lt = k.1 in omega (arith, lt)), k.2)

-- a relay that is not served out has work by its trace
pub has-work : (t : Trace) (s : State) (links : ℕ) → StandsBetween t s → s.settings.links ≡ links → is_served_out s links ≡ false →
    HasWork links t
has-work t s links k is not_out = by_case (s.plain.opened == links) refl not_out
  where
    are : LinksAre t s
    are = links_are_told t Stage.Between s k (left-recorded s.settings TurnAnswer.Went Stage.Between s.plain refl)

    within : s.plain.opened ≤ s.settings.links
    within = (told t Stage.Between s k).counts.links

    fewer : (s.plain.opened == links) ≡ false → opened t < links
    fewer differ =
        let other : s.plain.opened ≢ links = eqb-false s.plain.opened links differ in
        let same = are.links in
        omega (arith, within, is, other, same)

    by_case : (b : Bool) → (s.plain.opened == links) ≡ b → (b && not (nat_lt 0 (open_below s s.plain.opened))) ≡ false → HasWork links t
    by_case false differ h = inl (fewer differ)
    by_case true same h = inr (living t (opened t)
        (let more = not-false (nat_lt 0 (open_below s s.plain.opened)) h in
        let some : 0 < open_below s s.plain.opened = ltb-true 0 (open_below s s.plain.opened) more in
        let is = are.living in omega (arith, some, is)))

-- and one that is has none
pub served-out : (s : State) (links : ℕ) → s.settings.links ≡ links → is_served_out s links ≡ true → IsServedOut s
served-out s links is out =
    let parts = and_parts (s.plain.opened == links) (not (nat_lt 0 (open_below s s.plain.opened))) out in
    record {
      all_opened = eqb-true s.plain.opened links parts.0 ∙ sym is;
      none_open =
          let none = ltb-false 0 (open_below s s.plain.opened) (not-true (nat_lt 0 (open_below s s.plain.opened)) parts.1) in
          omega (arith, none);
    }
