-- What stands still behind the free of a side, by induction over the steps.
use Rattle.std.proofs.Common.{◌≡◌, ℕ, suc, ◌-◌, ◌<◌, ◌≤◌, Bool, true, false, ◌||◌, not, if◌then◌else◌, List, [], ◌∷◌, ◌++◌, ◌⊎◌, inl, inr}
use Rattle.std.proofs.Common.{refl, sym, ◌∙◌, ap, subst, arith, slice_index_or}
use Rattle.std.specs.Prelude.{All}
use Rattle.std.proofs.lemmas.Bool.{cases_lt}
use Rattle.ev_types.specs.declared.side.SideId.{SideId}
use Rattle.ev_types.specs.declared.entry.Entry.TheVariants as entry
use Rattle.ev_types.specs.Sides.{same_end, peer, number}
use Rattle.ev_types.specs.Trace.{Event, Trace}
use Rattle.relay_model.specs.Trace.{bytes_read, moved_at_free}
use Rattle.relay_model.specs.Settings.{Settings}
use Rattle.filter_model.specs.Filter.{Filter}
use Rattle.relay_model.specs.Flow.{Flow, no_flow}
use Rattle.relay_model.specs.Conserved.{StandsStill}
use Rattle.relay_model.specs.Plain.{Plain, side_at, flow_at, is_live}
use Rattle.relay_model.specs.Past.{past}
use Rattle.relay_model.specs.Rooms.{read_filter, write_filter, read_mark, hold_mark}
use Rattle.relay_model.specs.Pass.{with_used, with_held, write_stops, with_turned}
use Rattle.filter_model.specs.Stopping.{first_from}
use Rattle.relay_model.specs.Round.{Part, do_part, read_run}
use Rattle.relay_model.specs.Stages.{Stage, State}
use Rattle.relay_model.specs.Turn.{Reaches}
use Rattle.relay_model.specs.Onward.{Leads}
use Rattle.relay_model.specs.Totals.{is_opened}
use Rattle.relay_model.specs.Told.{names, freed_by, is_freed, is_freeing}
use Rattle.relay_model.specs.Still.{FreedStandStill, FreedAreStill}
use Rattle.relay_model.proofs.EndLemmas.{same_end-eq, same_end-refl}
use Rattle.relay_model.proofs.KeepsLemmas.{Keeps-side, raised_read}
use Rattle.relay_model.proofs.SeenLemmas.{seen, but_bad}
use Rattle.relay_model.proofs.StepLemmas.{put-effect}
use Rattle.relay_model.proofs.StageLemmas.{quiet-silent}
use Rattle.relay_model.proofs.ToldLemmas.{Kept, kept, none_of}
use Rattle.relay_model.proofs.KindLemmas.{put-kind}
use Rattle.relay_model.proofs.FireLemmas.{QuietKind, quiet-kind, any-split}
use Rattle.relay_model.proofs.SplitLemmas.{IsLast, IsEarlier, pushed_split}
use Rattle.relay_model.proofs.BadLemmas.{set-seen}
use Rattle.relay_model.proofs.TotalLemmas.{NeedsLive, PartsLive, parts-live, frees_tell_totals}
use Rattle.relay_model.proofs.TraceLemmas.{moved_at_free-append}
use Rattle.relay_model.proofs.FlowLemmas.{Takes, put-flow}
use Rattle.relay_model.proofs.PassedLemmas.{part-other}
use Rattle.relay_model.proofs.OneWayLemmas.{all_on_one_way}
use Rattle.relay_model.proofs.OnwardLemmas.{reaches-on, dead-stays, effect-more}

-- What stands still, of one direction
record Rest : Type 0 where
  moved : ℕ
  read_done : Bool
  write_done : Bool

abbrev rest_of : Flow → Rest
rest_of f = record { moved = f.moved; read_done = f.read_done; write_done = f.write_done }

turned-rest : (r w : Filter) (xs : List ℕ) (hold : ℕ) (f : Flow) → rest_of (with_turned r w xs hold f) ≡ rest_of f
turned-rest r w xs hold f = go f.held
  where
    go : (b : Bool) → rest_of
        (if b then f else record f { turned = first_from (write_stops r w xs hold f) f.turned (f.moved - f.turned) }) ≡ rest_of f
    go true = refl
    go false = refl

-- Silent steps leave what a freed side moved, and whether its filters are finished.
own-part : (g : Settings) (t : Trace) (s : Plain) (e : SideId) (x : Part) → is_live s e ≡ false → NeedsLive s e x →
    rest_of (flow_at (do_part g (past g t) e x s) e) ≡ rest_of (flow_at s e)
own-part g t s e Part.Hold dead needs =
    set-seen rest_of s.flows (number e)
    (with_held (read_filter g s e) (write_filter g s (peer e)) (bytes_read e t) (hold_mark g s (peer e)) (flow_at s e)) no_flow refl
    (number e)
own-part g t s e Part.Read dead needs = absurd (cc)
own-part g t s e Part.Move dead needs = absurd (cc)
own-part g t s e Part.Write dead needs = absurd (cc)
own-part g t s e Part.Drain dead needs =
    set-seen rest_of s.flows (number e)
    (with_turned (read_filter g s e) (write_filter g s (peer e)) (bytes_read e t) (hold_mark g s (peer e)) (flow_at s e)) no_flow
    (turned-rest (read_filter g s e) (write_filter g s (peer e)) (bytes_read e t) (hold_mark g s (peer e)) (flow_at s e)) (number e)

part-rest : (g : Settings) (t : Trace) (s : Plain) (z : SideId) (x : Part) (e : SideId) → is_live s e ≡ false → NeedsLive s z x →
    rest_of (flow_at (do_part g (past g t) z x s) e) ≡ rest_of (flow_at s e)
part-rest g t s z x e dead needs = go (same_end e z) refl
  where
    go : (q : Bool) → same_end e z ≡ q → rest_of (flow_at (do_part g (past g t) z x s) e) ≡ rest_of (flow_at s e)
    go false q = ap rest_of (part-other g (past g t) s z x e q)
    go true q =
        let same = same_end-eq e z q in
        subst (λ v. rest_of (flow_at (do_part g (past g t) v x s) e) ≡ rest_of (flow_at s e)) same
        (own-part g t s e x dead (subst (λ v. NeedsLive s v x) (sym same) needs))

quiet-rest : (g : Settings) (t : Trace) (s : Plain) (x : Stage) (new : State) (e : SideId) → PartsLive x s → is_live s e ≡ false →
    QuietKind g t s x new →
    rest_of (flow_at new.plain e) ≡ rest_of (flow_at s e)
quiet-rest g t s x new e parts dead (QuietKind.moved next a) = refl
quiet-rest g t s x new e parts dead (QuietKind.filtered {e = z}) =
    ap (λ flows. rest_of (slice_index_or flows (number e) no_flow))
    (ap (λ v. v.flows) (raised_read g (past g t) z (read_run g (past g t) z false s)).1)
    ∙ set-seen rest_of s.flows (number z) (with_used (read_filter g s z) (bytes_read z t) (read_mark s z) (flow_at s z)) no_flow refl
    (number e)
quiet-rest g t s x new e parts dead (QuietKind.dispatched) = refl
quiet-rest g t s x new e parts dead (QuietKind.passed {x = p} {e = z}) = part-rest g t s z p e dead parts.0
quiet-rest g t s x new e parts dead (QuietKind.closes) = refl
quiet-rest g t s x new e parts dead (QuietKind.looked a) = refl
quiet-rest g t s x new e parts dead (QuietKind.over) = refl

put-rest : (g : Settings) (t : Trace) (s : Plain) (y : Event) (new : Plain) (e : SideId) →
    (flow_at new e ≡ flow_at s e) ⊎ Takes g t s y new e →
    rest_of (flow_at new e) ≡ rest_of (flow_at s e)
put-rest g t s y new e (inl same) = ap rest_of same
put-rest g t s y new e (inr k) = ap rest_of k.flow

-- On the way from a state in which a side is freed

record Rests (s new : State) (e : SideId) : Type 0 where
  there : e.link < new.plain.opened
  dead : is_live new.plain e ≡ false
  rest : rest_of (flow_at new.plain e) ≡ rest_of (flow_at s.plain e)

rests-on : (g : Settings) (t : Trace) (s : State) (e : SideId) → Reaches g t s → e.link < s.plain.opened → is_live s.plain e ≡ false →
    (u : Trace) (new : State) → Leads g t s u new → Rests s new e
rests-on g t s e r lt dead u new (Leads.stays) = record { there = lt; dead = dead; rest = refl }
rests-on g t s e r lt dead u new (Leads.goes {mid = mid} l q) =
    let h = rests-on g t s e r lt dead u mid l in
    let m = reaches-on g t s r u mid l in
    let keeps = (quiet-silent g u mid.stage mid.plain new q).keeps in
    record {
      there = subst (λ n. e.link < n) (sym keeps.opened) h.there;
      dead = ap (λ z. z.live) (Keeps-side but_bad mid.plain new.plain e keeps) ∙ h.dead;
      rest = quiet-rest g u mid.plain mid.stage new e (parts-live g u mid m) h.dead (quiet-kind g u mid.stage mid.plain new q) ∙ h.rest;
    }
rests-on g t s e r lt dead u new (Leads.puts {u = v} {mid = mid} y bytes l p) =
    let h = rests-on g t s e r lt dead v mid l in
    let m = reaches-on g t s r v mid l in
    let c = kept g v mid m in
    let k = put-effect g v mid.stage mid.plain y bytes new c.counts.shape.sides c.placed p in
    let kind = put-kind g v mid.stage mid.plain y bytes new c.placed p in
    record {
      there = effect-more mid.plain.opened new.plain.opened (is_opened (y, bytes)) e.link k.opened h.there;
      dead = dead-stays e (y, bytes) new.stage (seen (side_at mid.plain e)) (seen (side_at new.plain e)) (k.each e h.there) h.dead;
      rest = put-rest g v mid.plain (y, bytes) new.plain e (put-flow g v mid.plain mid.stage (y, bytes) new kind e) ∙ h.rest;
    }

still-of : (old new : Flow) → rest_of new ≡ rest_of old → StandsStill old new
still-of old new h = record { moved = ap (λ z. z.moved) h; read_done = ap (λ z. z.read_done) h; write_done = ap (λ z. z.write_done) h }

freed-names : (e : SideId) (y : Event) → names e y ≡ false → freed_by e y ≡ false
freed-names e (entry.Freed side why moved given, bytes) h = h
freed-names e _ h = refl

-- a side that was freed is one of an opened link
freed-there : (g : Settings) (t : Trace) (s : State) (e : SideId) → Kept g t s.stage s.plain → is_freed e t ≡ true →
    e.link < s.plain.opened
freed-there g t s e k h = go (cases_lt e.link s.plain.opened)
  where
    go : (e.link < s.plain.opened) ⊎ (s.plain.opened ≤ e.link) → e.link < s.plain.opened
    go (inl lt) = lt
    go (inr ge) = absurd (let none = none_of (names e) (freed_by e) (freed-names e) t (k.counts.named e ge) in cc)

pub freed_stand_still : FreedStandStill
freed_stand_still g t u s new e r freed l =
    let k = kept g t s r in
    let lt = freed-there g t s e k freed in
    let dead : is_live s.plain e ≡ false = (k.each e lt).live ∙ ap (λ b. not (b || is_freeing s.stage e)) freed in
    still-of (flow_at s.plain e) (flow_at new.plain e) (rests-on g t s e r lt dead u new l).rest

-- Where an entry stands in a trace

-- a state behind the entry, on the way to that of the whole trace
record Passes (g : Settings) (first : Trace) (t : Trace) (new : State) : Type 0 where
  mid : State
  reached : Reaches g first mid
  leads : Leads g first mid t new

passes : (g : Settings) (t : Trace) (new : State) → Reaches g t new → (before : Trace) (y : Event) (after : Trace) →
    t ≡ before ++ y ∷ after →
    Passes g (before ++ y ∷ []) t new
passes g t new (Reaches.begins) before y after h = absurd (none before h)
  where
    none : (b : Trace) → [] ≡ b ++ y ∷ after → ⊥
    none [] k = cc
    none (b ∷ bs) k = cc
passes g t new (Reaches.goes {t = u} {s = old} r q) before y after h =
    let k = passes g u old r before y after h in
    record { mid = k.mid; reached = k.reached; leads = Leads.goes {mid = old} k.leads q }
passes g t new (Reaches.puts {t = u} {s = old} e bytes r p) before y after h =
    go (λ rest k. passes g u old r before y rest k) (pushed_split u (e, bytes) before y after h)
  where
    go : ((rest : Trace) → u ≡ before ++ y ∷ rest → Passes g (before ++ y ∷ []) u old) →
        IsLast u (e, bytes) before y after ⊎ IsEarlier u (e, bytes) before y after →
        Passes g (before ++ y ∷ []) (u ++ (e, bytes) ∷ []) new
    go earlier (inl k) =
        let same : u ++ (e, bytes) ∷ [] ≡ before ++ y ∷ [] = λ i. sym k.before_is i ++ sym k.is i ∷ [] in
        subst (λ v. Passes g v (u ++ (e, bytes) ∷ []) new) same
        (record { mid = new; reached = Reaches.puts {s = old} e bytes r p; leads = Leads.stays })
    go earlier (inr k) =
        let m = earlier k.rest k.there in
        record { mid = m.mid; reached = m.reached; leads = Leads.puts {mid = old} e bytes m.leads p }

-- the number that a free told is among those told
told-there : (P : ℕ → Type 0) (xs ys : List ℕ) (n : ℕ) → All P (xs ++ n ∷ ys) → P n
told-there P [] ys n h = h 0 0 (omega arith)
told-there P (x ∷ xs) ys n h = told-there P xs ys n (λ k d lt. h (suc k) d (omega arith))

still-back : (a b : Flow) → StandsStill a b → StandsStill b a
still-back a b h = record { moved = sym h.moved; read_done = sym h.read_done; write_done = sym h.write_done }

still-on : (a b c : Flow) → StandsStill a b → StandsStill b c → StandsStill a c
still-on a b c h k = record { moved = k.moved ∙ h.moved; read_done = k.read_done ∙ h.read_done; write_done = k.write_done ∙ h.write_done }

pub freed_are_still : FreedAreStill
freed_are_still g t before after s new e why moved given bytes at_free r h =
    let k = passes g t new r before y after h in
    let here : StandsStill (flow_at s.plain e) (flow_at k.mid.plain e) = elim (all_on_one_way g u s k.mid at_free k.reached) [
      | inl l ↦ freed_stand_still g u u s k.mid e at_free freed l
      | inr l ↦ still-back (flow_at k.mid.plain e) (flow_at s.plain e) (freed_stand_still g u u k.mid s e k.reached freed l)
    ] in (
      still-on (flow_at s.plain e) (flow_at k.mid.plain e) (flow_at new.plain e) here
          (freed_stand_still g u t k.mid new e k.reached freed k.leads),
      sym (told-there (λ n. n ≡ (flow_at new.plain e).moved) (moved_at_free e before) (moved_at_free e after) moved
          (subst (All (λ n. n ≡ (flow_at new.plain e).moved)) told (frees_tell_totals g t new.stage new.plain e r).moved)),
    )
  where
    y : Event
    y = (entry.Freed e why moved given, bytes)

    u : Trace
    u = before ++ y ∷ []

    freed : is_freed e u ≡ true
    freed = any-split (freed_by e) before y [] (same_end-refl e)

    told : moved_at_free e t ≡ moved_at_free e before ++ moved ∷ moved_at_free e after
    told =
        ap (moved_at_free e) h ∙ moved_at_free-append e before (y ∷ after)
        ∙ ap (λ b. moved_at_free e before ++ ((if b then moved ∷ [] else []) ++ moved_at_free e after)) (same_end-refl e)
