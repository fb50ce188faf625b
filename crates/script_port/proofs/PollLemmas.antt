-- What the polls of a script port tell of its ends.
use Rattle.std.proofs.Common.{◌≡◌, ℕ, ◌+◌, ◌-◌, ◌^◌, ◌<◌, min, Bool, true, false, ◌&&◌, cond, if◌then◌else◌, List, [], ◌∷◌, map, length}
use Rattle.std.proofs.Common.{get_or, Option, Some, None, refl, sym, ap, subst, ◌∙◌, arith, inl, inr}
use Rattle.std.specs.Prelude.{slice_get, option_map, count_by}
use Rattle.std.proofs.lemmas.Bool.{and_parts, cases_Bool}
use Rattle.std.proofs.lemmas.List.{get_or-map, length-map}
use Rattle.std.proofs.lemmas.List.Sums.{sum_by-cons}
use Rattle.ev_types.specs.declared.side.SideId.{SideId}
use Rattle.ev_types.specs.Sides.{number, same_end}
use Rattle.ev_port.specs.declared.port.Want.{Want}
use Rattle.ev_port.specs.declared.port.Polled.TheVariants as polled
use Rattle.ev_port.specs.EndSteps.{EndStep, no_step, EndWent, AllWent}
use Rattle.ev_port.specs.Polling.{AllMarked, IsMarked, poll_step}
use Rattle.ev_port.specs.Counting.{counted}
use Rattle.script_port.specs.ScriptState.{EndState, LinksState, PortState}
use Rattle.script_port.specs.EndTallies.{once}
use Rattle.script_port.specs.ScriptEnds.{wanted}
use Rattle.script_port.specs.ScriptLinks.{at_end, end_of, marked, unmarked, after_wants}
use Rattle.script_port.specs.ScriptPort.{poll_accepts, poll_answer, poll_marks}
use Rattle.script_port.specs.ScriptTold.{told_of_end, ends_told}
use Rattle.script_port.proofs.ListLemmas.{slice_get-changed_same, slice_get-changed_other}
use Rattle.ev_port.proofs.StepLemmas.{adds_none, raises_none, counts_none}
use Rattle.script_port.proofs.ToldLemmas.{same_end_tells, went_if}
use Rattle.ev_port.specs.declared.port.Polled.{Polled}

-- a want is counted, or not
abbrev wanted_if : Bool → Want → EndState → EndState
wanted_if true w s = wanted w s
wanted_if false w s = s

-- the wants of one end are counted at it
abbrev wants_of : SideId → List Want → EndState → EndState
wants_of e [] s = s
wants_of e (w ∷ ws) s = wants_of e ws (wanted_if (same_end w.side e) w s)

wants_same : (e : SideId) (w : Want) (ws : List Want) (s : EndState) → same_end w.side e ≡ true → wants_of e (w ∷ ws) s ≡ wants_of
    e ws (wanted w s)
wants_same e w ws s h = ap (λ b. wants_of e ws (wanted_if b w s)) h

wants_other : (e : SideId) (w : Want) (ws : List Want) (s : EndState) → same_end w.side e ≡ false → wants_of e (w ∷ ws) s ≡ wants_of e ws s
wants_other e w ws s h = ap (λ b. wants_of e ws (wanted_if b w s)) h

map_agree : (f g : EndState → EndState) → ((s : EndState) → f s ≡ g s) → (o : Option EndState) → option_map f o ≡ option_map g o
map_agree f g h None = refl
map_agree f g h (Some s) = ap Some (h s)

map_twice : (f g : EndState → EndState) (o : Option EndState) → option_map g (option_map f o) ≡ option_map (λ s. g (f s)) o
map_twice f g None = refl
map_twice f g (Some s) = refl

map_none : (o : Option EndState) → o ≡ option_map (λ s. s) o
map_none None = refl
map_none (Some s) = refl

one_end_after : (e : SideId) (w : Want) (ws : List Want) (l : LinksState) → option_map (wants_of e ws)
    (end_of (at_end w.side (wanted w) l) e) ≡ option_map (wants_of e (w ∷ ws)) (end_of l e)
one_end_after e w ws l =
    elim (same_end_tells w.side e) [
      | inl same ↦
          let here = slice_get-changed_same (wanted w) l.ends (number e) in
          rw (same.1, here)
          (map_twice (wanted w) (wants_of e ws) (slice_get l.ends (number e)) ∙ map_agree (λ s. wants_of e ws (wanted w s))
          (wants_of e (w ∷ ws)) (λ s. sym (wants_same e w ws s same.0)) (slice_get l.ends (number e)))
      | inr other ↦
          let elsewhere = slice_get-changed_other (wanted w) l.ends (number w.side) (number e) (λ q. other.1 (sym q)) in
          rw elsewhere (map_agree (wants_of e ws) (wants_of e (w ∷ ws)) (λ s. sym (wants_other e w ws s other.0))
          (slice_get l.ends (number e)))
    ]

end_after_wants : (e : SideId) (ws : List Want) (l : LinksState) → end_of (after_wants ws l) e ≡ option_map (wants_of e ws) (end_of l e)
end_after_wants e [] l = map_none (end_of l e)
end_after_wants e (w ∷ ws) l = end_after_wants e ws (at_end w.side (wanted w) l) ∙ one_end_after e w ws l

-- counting wants changes their four numbers alone
only_counts : (e : SideId) (ws : List Want) (s t : EndState) → t ≡ wants_of e ws s →
    t ≡ record s {
      tally = record s.tally {
        read_wants = t.tally.read_wants;
        write_wants = t.tally.write_wants;
        read_marks =
            t.tally.read_marks;
        write_marks = t.tally.write_marks;
      };
    }
only_counts e [] s t q = rw q
only_counts e (w ∷ ws) s t q =
    elim (cases_Bool (same_end w.side e)) [
      | inl same ↦ only_counts e ws (wanted w s) t (q ∙ wants_same e w ws s same)
      | inr other ↦ only_counts e ws s t (q ∙ wants_other e w ws s other)
    ]

abbrev flagged : SideId → (Want → Bool) → List Want → ℕ
flagged e flag ws = count_by (λ w. same_end w.side e && flag w) ws

flagged_more : (e : SideId) (flag : Want → Bool) (w : Want) (ws : List Want) (b : Bool) → same_end w.side e ≡ b → flagged e flag
    (w ∷ ws) ≡ once (b && flag w) + flagged e flag ws
flagged_more e flag w ws b h =
    sum_by-cons (λ (x : Want). cond (same_end x.side e && flag x) 1 0) w ws ∙ ap (λ t. once (t && flag w) + flagged e flag ws) h

-- a number that each want raises where its flag is set
number_after : (n : EndState → ℕ) (flag : Want → Bool) → ((w : Want) (s : EndState) → n (wanted w s) ≡ counted (n s) (once (flag w))) →
    (e : SideId) (ws : List Want) (s : EndState) → n s + flagged e flag ws < 2 ^ 64 - 1 → n (wants_of e ws s) ≡ n s + flagged e flag ws
number_after n flag each e [] s h = omega arith
number_after n flag each e (w ∷ ws) s h =
    elim (cases_Bool (same_end w.side e)) [
      | inl same ↦
          let more : flagged e flag (w ∷ ws) ≡ once (flag w) + flagged e flag ws = flagged_more e flag w ws true same in
          let one : n (wanted w s) ≡ min (n s + once (flag w)) (2 ^ 64 - 1) = each w s in
          ap n (wants_same e w ws s same) ∙ number_after n flag each e ws (wanted w s) (omega arith) ∙ (omega arith)
      | inr other ↦
          let more : flagged e flag (w ∷ ws) ≡ 0 + flagged e flag ws = flagged_more e flag w ws false other in
          ap n (wants_other e w ws s other) ∙ number_after n flag each e ws s (omega arith) ∙ (omega arith)
    ]

-- what a poll counts of some wants, by how many marks are counted
abbrev counts_of : ℕ → ℕ → SideId → List Want → EndStep
counts_of reads writes e ws = record no_step {
  read_wants = flagged e (λ w. w.read) ws;
  write_wants = flagged e (λ w. w.write) ws;
  read_marks = reads;
  write_marks = writes;
}

wants_went : (e : SideId) (ws : List Want) (s : EndState) → EndWent (told_of_end s) (told_of_end (wants_of e ws s))
    (counts_of (flagged e (λ w. w.can_read) ws) (flagged e (λ w. w.can_write) ws) e ws)
wants_went e ws s =
    let same = only_counts e ws s (wants_of e ws s) refl in
    record {
      handed_out = ap (λ (t : EndState). Some t.given) same ∙ adds_none s.given;
      taken = ap (λ (t : EndState). Some t.taken) same ∙ adds_none s.taken;
      made_connected = ap (λ (t : EndState). Some t.tally.made_connected) same ∙ raises_none s.tally.made_connected;
      ended = ap (λ (t : EndState). Some t.tally.ended) same ∙ raises_none s.tally.ended;
      connected = ap (λ (t : EndState). Some t.tally.connected) same ∙ raises_none s.tally.connected;
      write_ended = ap (λ (t : EndState). Some t.tally.write_ended) same ∙ raises_none s.tally.write_ended;
      closed = ap (λ (t : EndState). Some t.tally.closed) same ∙ raises_none s.tally.closed;
      reads = λ h. ap (λ (t : EndState). Some t.tally.reads) same ∙ counts_none s.tally.reads h;
      writes = λ h. ap (λ (t : EndState). Some t.tally.writes) same ∙ counts_none s.tally.writes h;
      checks = λ h. ap (λ (t : EndState). Some t.tally.checks) same ∙ counts_none s.tally.checks h;
      rooms = λ h. ap (λ (t : EndState). Some t.tally.rooms) same ∙ counts_none s.tally.rooms h;
      offers = λ h. ap (λ (t : EndState). Some t.tally.offers) same ∙ counts_none s.tally.offers h;
      read_wants = λ h. ap Some (number_after (λ t. t.tally.read_wants) (λ w. w.read) (λ w t. refl) e ws s h);
      write_wants = λ h. ap Some (number_after (λ t. t.tally.write_wants) (λ w. w.write) (λ w t. refl) e ws s h);
      read_marks = λ h. ap Some (number_after (λ t. t.tally.read_marks) (λ w. w.can_read) (λ w t. refl) e ws s h);
      write_marks = λ h. ap Some (number_after (λ t. t.tally.write_marks) (λ w. w.can_write) (λ w t. refl) e ws s h);
    }

wants_ends : (ws : List Want) (l : LinksState) (e : SideId) → EndWent (ends_told l e) (ends_told (after_wants ws l) e)
    (counts_of (flagged e (λ w. w.can_read) ws) (flagged e (λ w. w.can_write) ws) e ws)
wants_ends ws l e =
    let after = end_after_wants e ws l in
    rw after
    (went_if (wants_of e ws) (counts_of (flagged e (λ w. w.can_read) ws) (flagged e (λ w. w.can_write) ws) e ws) (end_of l e)
    (λ s _. wants_went e ws s))

poll_ends : (ws : List Want) (accept : Bool) (l : LinksState) → AllWent (ends_told l) (ends_told (after_wants ws l))
    (poll_step ws (polled.Ready accept))
poll_ends ws accept l = λ e. wants_ends ws l e

-- of marks that were cleared none is counted
none_flagged : (e : SideId) (flag : Want → Bool) → ((w : Want) → flag (unmarked w) ≡ false) → (ws : List Want) → flagged e flag
    (map unmarked ws) ≡ 0
none_flagged e flag none [] = refl
none_flagged e flag none (w ∷ ws) =
    let rest = none_flagged e flag none ws in
    let one : once (same_end w.side e && flag (unmarked w)) ≡ 0 = elim (cases_Bool (same_end w.side e))
    [ inl same ↦ rw (same, none w) | inr other ↦ rw other ] in
    let both : flagged e flag (map unmarked (w ∷ ws)) ≡ once (same_end w.side e && flag (unmarked w)) + flagged e flag
    (map unmarked ws) = flagged_more e flag (unmarked w) (map unmarked ws) (same_end w.side e) refl in
    omega (arith, rest, one, both)

none_counted : (ws : List Want) → count_by (λ (w : Want). false) ws ≡ 0
none_counted [] = refl
none_counted (w ∷ ws) = let rest = none_counted ws in let parts = sum_by-cons (λ (x : Want). cond false 1 0) w ws in
    omega (arith, rest, parts)

-- a poll that failed and cleared all marks
pub failed_poll_ends : (ws : List Want) (l : LinksState) → AllWent (ends_told l) (ends_told (after_wants (map unmarked ws) l))
    (poll_step (map unmarked ws) polled.Failed)
failed_poll_ends ws l = λ e.
    let marks = map unmarked ws in
    let reads : flagged e (λ w. w.can_read) marks ≡ count_by (λ (w : Want). false) marks = none_flagged e (λ w. w.can_read)
    (λ w. refl) ws ∙ sym (none_counted marks) in
    let writes : flagged e (λ w. w.can_write) marks ≡ count_by (λ (w : Want). false) marks = none_flagged e (λ w. w.can_write)
    (λ w. refl) ws ∙ sym (none_counted marks) in
    subst (λ n. EndWent (ends_told l e) (ends_told (after_wants marks l) e) (counts_of n (count_by (λ (w : Want). false) marks) e
    marks)) reads
    (subst (λ n. EndWent (ends_told l e) (ends_told (after_wants marks l) e) (counts_of (flagged e (λ w. w.can_read) marks) n e
    marks)) writes (wants_ends marks l e))

answer_ends : (p : PortState) (ws : List Want) (accept : Bool) → AllWent (ends_told p.links)
    (ends_told (after_wants (poll_marks p.links ws) p.links)) (poll_step (poll_marks p.links ws) (poll_answer p accept))
answer_ends p ws accept = by_line p.links.poll_fails
  where
    by_line : (b : Bool) →
        AllWent (ends_told p.links) (ends_told (after_wants (if b then map unmarked ws else map (λ w. marked p.links w) ws)
        p.links)) (poll_step (if b then map unmarked ws else map (λ w. marked p.links w) ws)
        (if b then polled.Failed else polled.Ready (poll_accepts p accept)))
    by_line true = failed_poll_ends ws p.links
    by_line false = poll_ends (map (λ w. marked p.links w) ws) (poll_accepts p accept) p.links

-- a poll that left these wants and was answered so
pub poll_went : (p : PortState) (ws marks : List Want) (accept : Bool) (answer : Polled) → marks ≡ poll_marks p.links ws → answer ≡
    poll_answer p accept → AllWent (ends_told p.links) (ends_told (after_wants marks p.links)) (poll_step marks answer)
poll_went p ws marks accept answer m a = rw (m, a) (answer_ends p ws accept)

-- each want is marked as a poll may mark it
pub polled_all : (l : LinksState) (ws : List Want) → AllMarked ws (poll_marks l ws)
polled_all l ws k d within = by_line l.poll_fails
  where
    each : (f : Want → Want) → ((w : Want) → IsMarked w (f w)) → IsMarked (get_or ws k d) (get_or (map f ws) k d)
    each f one = subst (λ w. IsMarked (get_or ws k d) w) (sym (get_or-map f ws k d d within)) (one (get_or ws k d))

    by_line : (b : Bool) → IsMarked (get_or ws k d) (get_or (if b then map unmarked ws else map (λ w. marked l w) ws) k d)
    by_line true = each unmarked (λ w. record {
      side = refl;
      read = refl;
      write = refl;
      can_read = λ h. absurd
          (cc);
      can_write = λ h. absurd (cc);
    })
    by_line false = each (λ w. marked l w) (λ w. record {
      side = refl;
      read = refl;
      write = refl;
      can_read = λ h. (and_parts w.read _ h).0;
      can_write = λ h. (and_parts w.write _ h).0;
    })

pub polled_many : (l : LinksState) (ws : List Want) → length (poll_marks l ws) ≡ length ws
polled_many l ws = by_line l.poll_fails
  where
    by_line : (b : Bool) → length (if b then map unmarked ws else map (λ w. marked l w) ws) ≡ length ws
    by_line true = length-map ws unmarked
    by_line false = length-map ws (λ w. marked l w)
