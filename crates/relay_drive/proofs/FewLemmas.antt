-- What counts have come to as a turn begins: what time brings changes no count of a link.
use Rattle.std.proofs.Common.{◌≡◌, ℕ, ◌<◌, Bool, true, false, not, ◌||◌, ◌&&◌, if◌then◌else◌, List, [], ◌∷◌, fold, refl, ◌∙◌, subst}
use Rattle.token_bucket.specs.declared.limit.Dir.{Dir}
use Rattle.ev_types.specs.declared.side.SideId.{SideId}
use Rattle.ev_types.specs.Sides.{number}
use Rattle.ev_types.specs.declared.why.Why.{Why}
use Rattle.ev_types.specs.declared.why.Why.TheVariants as why
use Rattle.relay_model.specs.Settings.{Settings}
use Rattle.relay_model.specs.Plain.{Plain, Timer, side_at, change_side, is_live, all_sides}
use Rattle.relay_model.specs.Flow.{no_flow}
use Rattle.relay_model.specs.Due.{with_reason}
use Rattle.relay_model.specs.Reasons.{has_hook, raise, happened, timeout_flag}
use Rattle.relay_model.specs.Moments.{is_timed, active_at, both_ways, timers_taken, has_run_out, expire}
use Rattle.relay_model.specs.Turn.{turned_to}
use Rattle.std.specs.Prelude.{slice_index_or, filter, nat_le, nat_lt}
use Rattle.rate_group.specs.Steps.{all_refilled}
use Rattle.relay_state.specs.State.{State, no_lane, with_plain}
use Rattle.relay_state.specs.Rooms.{wants}
use Rattle.relay_state.specs.Closing.{in_side, out_side}
use Rattle.relay_state.specs.Counting.{has_flown_far, has_read_far}
use Rattle.relay_state.specs.Time.{timed, side_timed, begun}
use Rattle.relay_steps.proofs.FrameLemmas.{frame-begun}
use Rattle.relay_drive.specs.Links.{has_spent_count_from}
use Rattle.relay_drive.specs.Agenda.{CountsAreFew}

-- what was counted of each direction is as it was
record SameCounts (s new : State) : Type 0 where
  flows : new.plain.flows ≡ s.plain.flows
  lanes : new.lanes ≡ s.lanes

same-counts : (s : State) → SameCounts s s
same-counts s = record { flows = refl; lanes = refl }

counts-then : {a b c : State} → SameCounts a b → SameCounts b c → SameCounts a c
counts-then f g = record { flows = g.flows ∙ f.flows; lanes = g.lanes ∙ f.lanes }

counts-raise : (s : State) (e : SideId) (y : Why) (p : Plain) → p.flows ≡ s.plain.flows →
    SameCounts s (with_plain (raise s.settings e y p) s)
counts-raise s e y p h = go (has_hook s.settings e && is_live p e)
  where
    go : (q : Bool) → SameCounts s (with_plain (if q then record p { due = with_reason e y p.due } else p) s)
    go true = record { flows = h; lanes = refl }
    go false = record { flows = h; lanes = refl }

counts-timed : (s : State) (e : SideId) (d : Dir) → SameCounts s (timed e s d)
counts-timed s e d = go (not (is_timed (side_at s.plain e) d)) (not (wants s e d)) (has_run_out (side_at s.plain e) d s.plain.time)
  where
    go : (a b c : Bool) → SameCounts s (if a then s
        else (if b then with_plain (change_side e (active_at s.plain.time d) s.plain) s
        else (if c then with_plain (raise s.settings e (happened d timeout_flag) (change_side e (expire d) s.plain)) s else s)))
    go true b c = same-counts s
    go false true c = record { flows = refl; lanes = refl }
    go false false true = counts-raise s e (happened d timeout_flag) _ refl
    go false false false = same-counts s

counts-fold : {A : Type 0} (f : State → A → State) → ((z : State) (x : A) → SameCounts z (f z x)) → (s : State) (xs : List A) →
    SameCounts s (fold f s xs)
counts-fold f each s [] = same-counts s
counts-fold f each s (x ∷ xs) = counts-then (each s x) (counts-fold f each (f s x) xs)

-- timers that are taken change no count
taken-flows : (g : Settings) (ms : ℕ) (p : Plain) → (timers_taken g (turned_to ms p)).flows ≡ p.flows
taken-flows g ms p =
    let q : Plain = turned_to ms p in
    go (record q { timers = filter (λ x. nat_lt ms x.deadline) q.timers }) (filter (λ x. nat_le x.deadline ms) q.timers)
  where
    raised : (z : Plain) (x : Timer) → (raise g x.side why.Timer z).flows ≡ z.flows
    raised z x = by_hook (has_hook g x.side && is_live z x.side)
      where
        by_hook : (b : Bool) → (if b then record z { due = with_reason x.side why.Timer z.due } else z).flows ≡ z.flows
        by_hook true = refl
        by_hook false = refl

    go : (z : Plain) (xs : List Timer) → (fold (λ y x. raise g x.side why.Timer y) z xs).flows ≡ z.flows
    go z [] = refl
    go z (x ∷ xs) = go (raise g x.side why.Timer z) xs ∙ raised z x

counts-begun : (s : State) (ms : ℕ) → SameCounts s (begun s ms)
counts-begun s ms =
    let refilled : State = record s { groups = all_refilled ms s.groups } in
    let at_time : State = with_plain (timers_taken s.settings (turned_to ms s.plain)) refilled in
    let here : SameCounts s at_time = record { flows = taken-flows s.settings ms s.plain; lanes = refl } in
    counts-then here (counts-fold side_timed (λ z e. counts-fold (timed e) (λ y d. counts-timed y e d) z both_ways) at_time
    (all_sides at_time.plain))

far-from : (s new : State) (e : SideId) → SameCounts s new → has_spent_count_from new e ≡ has_spent_count_from s e
far-from s new e h = λ i.
    has_flown_far (slice_index_or (h.flows i) (number e) no_flow) || has_read_far (slice_index_or (h.lanes i) (number e) no_lane)

-- no count has come far as a turn begins where none had
pub few-begun : (s : State) (ms : ℕ) → CountsAreFew s → CountsAreFew (begun s ms)
few-begun s ms h = λ k lt.
    let same = counts-begun s ms in
    (λ i. far-from s (begun s ms) (in_side k) same i || far-from s (begun s ms) (out_side k) same i)
    ∙ h k (subst (λ m. k < m) (frame-begun s ms).opened lt)
