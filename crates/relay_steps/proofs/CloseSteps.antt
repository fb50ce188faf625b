-- The steps of closing: each is called for where the model's is, and what it puts and changes is what the model puts and changes.
use Rattle.std.proofs.Common.{◌≡◌, ℕ, ◌<◌, Bool, true, false, not, ◌&&◌, ◌==◌, List, [], ◌∷◌, ◌++◌, length, Some, None, refl, sym, ◌∙◌, ap}
use Rattle.ev_types.specs.declared.side.SideId.{SideId}
use Rattle.ev_types.specs.declared.why.Cause.{Cause}
use Rattle.ev_types.specs.declared.why.Cause.TheVariants as cause
use Rattle.ev_types.specs.declared.entry.Entry.{Entry}
use Rattle.ev_types.specs.declared.entry.Entry.TheVariants as entry
use Rattle.ev_types.specs.Sides.{peer}
use Rattle.ev_types.specs.Trace.{Trace}
use Rattle.relay_model.specs.Settings.{Settings}
use Rattle.relay_model.specs.Plain as plain
use Rattle.relay_model.specs.Plain.{Plain, side_at, flow_at, is_live}
use Rattle.relay_model.specs.Past.{Past, past}
use Rattle.relay_model.specs.Rooms as rooms
use Rattle.relay_model.specs.Rooms.{read_filter, write_filter}
use Rattle.relay_model.specs.Close as model
use Rattle.relay_model.specs.Close.{CloseStep, freed_entry, entry_where, closed_by, steps_left}
use Rattle.relay_model.specs.Stages.{Stage, at}
use Rattle.relay_model.specs.Turn.{Reaches}
use Rattle.relay_model.proofs.PlacedLemmas as placed
use Rattle.relay_model.proofs.PlainLemmas.{and-first, and-second}
use Rattle.relay_model.proofs.KindLemmas.{ClosedKind, closed-kind}
use Rattle.relay_model.proofs.AccountedLemmas.{entries_keep_accounts}
use Rattle.relay_state.specs.State.{State}
use Rattle.relay_state.specs.Rooms.{output_length}
use Rattle.relay_state.specs.Closing.{in_side, out_side, is_complete, closing_entry, freed, closed}
use Rattle.relay_steps.specs.Meaning.{StandsFor}
use Rattle.relay_steps.proofs.EndLemmas.{peer-peer, read-silent, ended-silent}
use Rattle.relay_steps.proofs.RoomLemmas.{stands-fits, raw_input-fits, input-fits, output-fits, waiting-fits, output_length-is}
use Rattle.relay_steps.proofs.StillSteps.{put-stands, quiet-stands, still-changed}
use Rattle.relay_steps.proofs.RateLemmas.{turns-none}
use Rattle.relay_steps.proofs.FreeSteps.{freed-fits, freed-many, freed-gauged, freed-grouped}

-- the link that a step looks at
abbrev pub link_of : CloseStep → ℕ
link_of c = placed.link_of c

-- two tests behind a third one may differ where that doesn't hold
and_where : (a b c : Bool) → (a ≡ true → b ≡ c) → (a && b) ≡ (a && c)
and_where true b c h = h refl
and_where false b c h = refl

module _ (t : Trace) (x : Stage) (s : State) (k : StandsFor t x s) where
  abbrev g : Settings
  g = s.settings

  abbrev P : Past
  P = past s.settings t

  abbrev p : Plain
  p = s.plain

  -- a direction is complete where it is in the model, while both sides live
  complete-is : (e : SideId) → e.link < s.plain.opened → is_live p e ≡ true → is_live p (peer e) ≡ true →
      is_complete s (peer e) ≡ model.is_complete g P p (peer e)
  complete-is e lt live far =
      let fits = stands-fits t x s e k lt in
      let far_fits = stands-fits t x s (peer e) k lt in
      let a = raw_input-fits t s (peer e) far_fits far in
      let b = input-fits t s (peer e) far_fits far in
      let c = output-fits t s e fits live ∙ ap (rooms.output_at g P p) (sym (peer-peer e)) in
      let d = waiting-fits t s e fits live ∙ ap (rooms.raw_output_at g P p) (sym (peer-peer e)) in
      λ i.
      (side_at p (peer e)).ended && (flow_at p (peer e)).write_done
      && length (a i) == 0 && length (b i) == 0 && length (c i) == 0 && length (d i) == 0

  -- a step puts what the model's puts, or nothing where that puts nothing
  pub closing_entry-is : (c : CloseStep) → link_of c < s.plain.opened →
      closing_entry s c ≡ model.closing_entry s.settings (past s.settings t) s.plain c
  closing_entry-is (CloseStep.Faulty e) lt = refl
  closing_entry-is (CloseStep.EndWriting e) lt =
      let x = side_at p e in
      ap (λ z. entry_where (z && not x.connecting && not x.write_ended) (entry.CloseWrite e))
      (and_where (x.live && is_live p (peer e)) (is_complete s (peer e)) (model.is_complete g P p (peer e))
      (λ both. complete-is e lt (and-first x.live (is_live p (peer e)) both) (and-second x.live (is_live p (peer e)) both)))
  closing_entry-is (CloseStep.BothDone n) lt = refl
  closing_entry-is (CloseStep.OutDone n) lt = refl
  closing_entry-is (CloseStep.PeerGone e) lt =
      ap (λ z. entry_where z (freed_entry p e cause.PeerGone))
      (and_where (is_live p e && not (is_live p (peer e))) (output_length s e == 0) (rooms.output_length g P p e == 0)
      (λ both. ap (λ n. n == 0) (output_length-is t x s e k lt (and-first (is_live p e) (not (is_live p (peer e))) both))))
  closing_entry-is (CloseStep.Shut e) lt = refl

module _ (t : Trace) (s : State) where
  -- a side is freed at a step that puts so
  free-stands : (c : CloseStep) (cs : List CloseStep) (e : SideId) (why : Cause) → e.link < s.plain.opened →
      StandsFor t (Stage.Closing (c ∷ cs)) s →
      model.closing_entry s.settings (past s.settings t) s.plain c ≡ Some (freed_entry s.plain e why) →
      closed_by c s.plain ≡ plain.freed e s.plain →
      StandsFor (t ++ (freed_entry s.plain e why, []) ∷ []) (Stage.Closing (steps_left c cs)) (freed e s)
  free-stands c cs e why lt k called changed = record {
    reached = Reaches.puts (freed_entry s.plain e why) [] k.reached (called, refl, ap (at (Stage.Closing (steps_left c cs))) (sym changed));
    accounts =
        entries_keep_accounts s.settings t (at (Stage.Closing (c ∷ cs)) s.plain)
        (at (Stage.Closing (steps_left c cs)) (plain.freed e s.plain))
        (freed_entry s.plain e why) [] k.reached (called, refl, ap (at (Stage.Closing (steps_left c cs))) (sym changed)) tt k.accounts;
    many = freed-many t (Stage.Closing (c ∷ cs)) s e k lt;
    each = freed-fits t (Stage.Closing (c ∷ cs)) s e k lt (freed_entry s.plain e why, []) (λ a. refl) (λ a. refl);
    groups = k.groups;
    gauged = freed-gauged t (Stage.Closing (c ∷ cs)) s e k lt (freed_entry s.plain e why, []) (λ a. (refl, refl));
    grouped = freed-grouped t (Stage.Closing (c ∷ cs)) s e k lt (freed_entry s.plain e why, []) (λ a. (refl, refl));
  }

  -- by what the model puts
  kind-stands : (c : CloseStep) (cs : List CloseStep) (y : Entry) → link_of c < s.plain.opened → StandsFor t (Stage.Closing (c ∷ cs)) s →
      model.closing_entry s.settings (past s.settings t) s.plain c ≡ Some y → ClosedKind s.settings (past s.settings t) s.plain c y →
      StandsFor (t ++ (y, []) ∷ []) (Stage.Closing (steps_left c cs)) (closed c s)
  kind-stands c cs y lt k called (ClosedKind.faulty {z = e} {why = why} a b) = free-stands c cs e why lt k called refl
  kind-stands c cs y lt k called (ClosedKind.write_ended {z = e} a b) =
      put-stands t (Stage.Closing (c ∷ cs)) (Stage.Closing cs) s (closed_by c s.plain) y [] k (called, refl, refl) tt
      (still-changed t (t ++ (entry.CloseWrite e, []) ∷ []) s.plain e (λ x. record x { write_ended = true }) (λ x. refl) (λ x. refl)
      (λ x. refl) (λ z. read-silent t (entry.CloseWrite e, []) z refl) (λ z. ended-silent t (entry.CloseWrite e, []) z refl)
      (turns-none t (entry.CloseWrite e, []) (λ a. (refl, refl))))
  kind-stands c cs y lt k called (ClosedKind.in_done {k = n} a b d f) = free-stands c cs (in_side n) cause.Done lt k called refl
  kind-stands c cs y lt k called (ClosedKind.out_done {k = n}) = free-stands c cs (out_side n) cause.Done lt k called refl
  kind-stands c cs y lt k called (ClosedKind.peer_gone {z = e} a b d) = free-stands c cs e cause.PeerGone lt k called refl
  kind-stands c cs y lt k called (ClosedKind.shut {z = e} a b) =
      put-stands t (Stage.Closing (c ∷ cs)) (Stage.Closing cs) s (closed_by c s.plain) y [] k (called, refl, refl) tt
      (still-changed t (t ++ (entry.Close e, []) ∷ []) s.plain e (λ x. record x { closed = true }) (λ x. refl) (λ x. refl) (λ x. refl)
      (λ z. read-silent t (entry.Close e, []) z refl) (λ z. ended-silent t (entry.Close e, []) z refl)
      (turns-none t (entry.Close e, []) (λ a. (refl, refl))))

-- a step that is called for is done
pub closed-stands : (t : Trace) (s : State) (c : CloseStep) (cs : List CloseStep) (y : Entry) → link_of c < s.plain.opened →
    StandsFor t (Stage.Closing (c ∷ cs)) s → closing_entry s c ≡ Some y →
    StandsFor (t ++ (y, []) ∷ []) (Stage.Closing (steps_left c cs)) (closed c s)
closed-stands t s c cs y lt k called =
    let h : model.closing_entry s.settings (past s.settings t) s.plain c ≡ Some y =
    sym (closing_entry-is t (Stage.Closing (c ∷ cs)) s k c lt) ∙ called in
    kind-stands t s c cs y lt k h (closed-kind s.settings (past s.settings t) s.plain c y h)

-- a step that isn't called for is passed over
pub not_closed-stands : (t : Trace) (s : State) (c : CloseStep) (cs : List CloseStep) → link_of c < s.plain.opened →
    StandsFor t (Stage.Closing (c ∷ cs)) s → closing_entry s c ≡ None → StandsFor t (Stage.Closing cs) s
not_closed-stands t s c cs lt k called =
    quiet-stands t (Stage.Closing (c ∷ cs)) (Stage.Closing cs) s k
    (sym (closing_entry-is t (Stage.Closing (c ∷ cs)) s k c lt) ∙ called, refl)
