-- Each step of a turn, and the turn: by how much it raises the bound of what is read, and how many entries it puts.
use Rattle.std.proofs.Common.{◌≡◌, ℕ, zero, suc, ◌+◌, ◌-◌, ◌*◌, ◌≤◌, Bool, true, false, ◌&&◌, nat_lt, min, max, if◌then◌else◌, List, []}
use Rattle.std.proofs.Common.{◌∷◌, ◌++◌, length, refl, sym, ◌∙◌, ap, subst, arith, length-append}
use Rattle.std.specs.Prelude.{MatchBool, ◌^◌, is_some, Option, Some, None, option_map}
use Rattle.std.proofs.lemmas.List.{length-take}
use Rattle.token_bucket.specs.declared.limit.Dir.TheVariants as dir
use Rattle.ev_types.specs.declared.side.SideId.{SideId}
use Rattle.ev_types.specs.declared.answer.ConnAnswer.{ConnAnswer}
use Rattle.ev_types.specs.declared.answer.ReadAnswer.{ReadAnswer}
use Rattle.ev_types.specs.declared.answer.ReadAnswer.TheVariants as read
use Rattle.ev_types.specs.declared.answer.WriteAnswer.{WriteAnswer}
use Rattle.ev_types.specs.declared.answer.WriteAnswer.TheVariants as write
use Rattle.ev_types.specs.declared.entry.Entry.{Entry}
use Rattle.ev_types.specs.declared.entry.Entry.TheVariants as entry
use Rattle.ev_types.specs.Trace.{Trace}
use Rattle.ev_port.specs.declared.port.Want.{Want}
use Rattle.ev_port.specs.Ends.{ReadWithin, got_bytes, write_events}
use Rattle.ev_port.specs.Polling.{want_events, ready_events}
use Rattle.relay_model.specs.Settings.{Settings}
use Rattle.relay_model.specs.Plain.{side_at}
use Rattle.relay_model.specs.Rooms.{at_most, is_connecting, may_read, most_at_once, read_mark}
use Rattle.relay_model.specs.Close.{freed_entry, fault, CloseStep}
use Rattle.relay_core.specs.declared.close.Closing.{Closing}
use Rattle.relay_core.specs.declared.close.Closing.TheVariants as closing
use Rattle.relay_core.specs.Steps.{steps_of, close_step, after_closing, entry_events}
use Rattle.relay_state.specs.State.{State}
use Rattle.relay_state.specs.Rooms.{allowance, share, read_room, input_length, wants, write_room, offer}
use Rattle.relay_state.specs.Closing.{in_side, out_side, closing_entry, closed}
use Rattle.relay_steps.proofs.FrameLemmas.{Frame, frame-then, frame-conn, frame-read, frame-write, frame-passed, frame-closed, frame-begun}
use Rattle.relay_steps.proofs.FrameLemmas.{push-within}
use Rattle.relay_drive.specs.Steps.{Nothing, Then, Each}
use Rattle.relay_drive.specs.Calls.{Ticks, Checks, Writes}
use Rattle.relay_drive.specs.Phases.{links_from, want_of, wants_some, wants_of, wants_of_link, wants_of_links, wanted, Polls, OpensOne}
use Rattle.relay_drive.specs.Phases.{OpensSome, AcceptsWhere, PollsAndAccepts, ReadsWithRoom, ReadsSide, WritesSide, ConnectsSide}
use Rattle.relay_drive.specs.Phases.{ServesSide, DispatchesAll, PassesSide, PassesLink, ForAllLinks, closing_events, Closes, LooksAt}
use Rattle.relay_drive.specs.Phases.{ClosesLink, Turns}
use Rattle.relay_drive.specs.Bounds.{StateIsWithin, most_of_turn}
use Rattle.relay_drive.proofs.DispatchLemmas.{all-dispatch-does}

-- what a step does: the bound rises by at most k, at most k entries are put, and the settings stay
pub record Raises (links hooks n k : ℕ) (s : State) (a : Trace) (new : State) : Type 0 where
  pub within : StateIsWithin (n + k) links hooks new
  pub entries : length a ≤ k
  pub settings : new.settings ≡ s.settings

by_bool : {X Y Z : Type 0} (b : Bool) → (X → Z) → (Y → Z) → MatchBool b X Y → Z
by_bool true f g h = f h
by_bool false f g h = g h

-- the most for all of a list, where there is a most for one
abbrev total : {X : Type 0} → ℕ → List X → ℕ
total k [] = 0
total k (x ∷ xs) = k + total k xs

total-is : {X : Type 0} (xs : List X) → (total 0 xs ≡ 0) × (total 16385 xs ≡ 16385 * length xs) × (total 18 xs ≡ 18 * length xs)
total-is [] = (refl, refl, refl)
total-is (x ∷ xs) = let h = total-is xs in (omega (arith, h.0), omega (arith, h.1), omega (arith, h.2))

links_from-length : (k n : ℕ) → length (links_from k n) ≡ n
links_from-length k zero = refl
links_from-length k (suc n) = let h = links_from-length (k + 1) n in omega (arith, h)

module _ (links hooks : ℕ) where
  pub within-more : (n m : ℕ) (s : State) → n ≤ m → StateIsWithin n links hooks s → StateIsWithin m links hooks s
  within-more n m s h k = record {
    allowed = k.allowed;
    opened = k.opened;
    hooked = k.hooked;
    turns = omega (arith, h, k.turns);
    reads = λ i. let a = k.reads i in omega (arith, a, h);
  }

  -- what leaves the frame stays within
  within-frame : (n : ℕ) (s new : State) → Frame s new → StateIsWithin n links hooks s → StateIsWithin n links hooks new
  within-frame n s new f k =
      let a = ap (λ (z : Settings). z.links) f.settings in
      let b = f.opened in
      let c = f.turn in
      let d = ap (λ (z : Settings). length z.hooks) f.settings in
      record {
        allowed = omega (arith, a, k.allowed);
        opened = omega (arith, b, k.opened);
        hooked = omega (arith, d, k.hooked);
        turns = omega (arith, c, k.turns);
        reads = f.reads n k.reads;
      }

  -- Steps in a row

  more : (n k l : ℕ) (s new : State) (a : Trace) → k ≤ l → Raises links hooks n k s a new → Raises links hooks n l s a new
  more n k l s new a h r = record {
    within = within-more (n + k) (n + l) new (omega (arith, h)) r.within;
    entries = omega (arith, h, r.entries);
    settings = r.settings;
  }

  nothing : (n : ℕ) (s new : State) (a : Trace) → StateIsWithin n links hooks s → Nothing s a new → Raises links hooks n 0 s a new
  nothing n s new a k h = record {
    within = within-more n (n + 0) new (omega arith) (subst (StateIsWithin n links hooks) (sym h.1) k);
    entries = let e = ap length h.0 in omega (arith, e);
    settings = ap (λ (z : State). z.settings) h.1;
  }

  next : (n k l : ℕ) (s m new : State) (a b c : Trace) → Raises links hooks n k s a m → Raises links hooks (n + k) l m b new → c ≡ a ++ b →
      Raises links hooks n (k + l) s c new
  next n k l s m new a b c f g e = record {
    within = within-more ((n + k) + l) (n + (k + l)) new (omega arith) g.within;
    entries = let p = ap length e ∙ length-append a b in omega (arith, p, f.entries, g.entries);
    settings = g.settings ∙ f.settings;
  }

  -- what raises the bound by at most k, from whatever bound
  abbrev IsRaising : ℕ → (State → Trace → State → Type 0) → Type 0
  IsRaising k R = (n : ℕ) (s new : State) (a : Trace) → StateIsWithin n links hooks s → R s a new → Raises links hooks n k s a new

  both : {R S : State → Trace → State → Type 0} (k l : ℕ) → IsRaising k R → IsRaising l S → IsRaising (k + l) (Then R S)
  both k l f g n s new a w h =
      let first = f n s h.middle h.front w h.first in
      next n k l s h.middle new h.front h.back a first (g (n + k) h.middle new h.back first.within h.second) h.joined

  each : {X : Type 0} (R : X → State → Trace → State → Type 0) (k : ℕ) → ((x : X) → IsRaising k (R x)) → (xs : List X) →
      IsRaising (total k xs) (Each R xs)
  each R k f [] = nothing
  each R k f (x ∷ xs) = both k (total k xs) (f x) (each R k f xs)

  -- Clock and poll

  ticks : (reading : ℕ) → IsRaising 1 (Ticks reading)
  ticks reading n s new a w h =
      let ms : ℕ = max s.plain.time (min reading (2 ^ 62)) in
      let f = frame-begun s ms in
      let links_stay = ap (λ (z : Settings). z.links) f.settings in
      let hooks_stay = ap (λ (z : Settings). length z.hooks) f.settings in
      let opened = f.opened in
      let turn = f.turn in
      record {
        within = subst (StateIsWithin (n + 1) links hooks) (sym h.state) (record {
          allowed = omega (arith, links_stay, w.allowed);
          opened = omega (arith, opened, w.opened);
          hooked = omega (arith, hooks_stay, w.hooked);
          turns = omega (arith, turn, w.turns);
          reads = f.reads (n + 1) (λ i. let r = w.reads i in omega (arith, r));
        });
        entries = let e = ap length h.entries in omega (arith, e);
        settings = ap (λ (z : State). z.settings) h.state ∙ f.settings;
      }

  wants-most : (s : State) (e : SideId) → length (wants_of s e) ≤ 1
  wants-most s e = go (wants_some (want_of s e))
    where
      go : (b : Bool) → length (if b then want_of s e ∷ [] else []) ≤ 1
      go true = omega arith
      go false = omega arith

  wanted-most : (s : State) (ks : List ℕ) → length (wants_of_links s ks) ≤ 2 * length ks
  wanted-most s [] = omega arith
  wanted-most s (k ∷ ks) =
      let a = length-append (wants_of_link s k) (wants_of_links s ks) in
      let b = length-append (wants_of s (in_side k)) (wants_of s (out_side k)) in
      let c = wants-most s (in_side k) in
      let d = wants-most s (out_side k) in
      let h = wanted-most s ks in
      omega (arith, a, b, c, d, h)

  marked-most : (n : ℕ) (s : State) (marked : List Want) → StateIsWithin n links hooks s → length marked ≡ length (wanted s) →
      length marked ≤ 2 * links
  marked-most n s marked w h =
      let a = wanted-most s (links_from 0 s.plain.opened) in
      let b = links_from-length 0 s.plain.opened in
      omega (arith, w.opened, h, a, b)

  want_events-length : (ws : List Want) → length (want_events ws) ≡ length ws
  want_events-length [] = refl
  want_events-length (w ∷ ws) = let h = want_events-length ws in omega (arith, h)

  ready_events-most : (ws : List Want) → length (ready_events ws) ≤ length ws
  ready_events-most [] = omega arith
  ready_events-most (w ∷ ws) = go (ready_events-most ws) w.can_read w.can_write
    where
      go : length (ready_events ws) ≤ length ws → (p q : Bool) →
          length ((if p then (entry.Ready w.side true w.can_write, []) ∷ []
          else (if q then (entry.Ready w.side false true, []) ∷ [] else [])) ++ ready_events ws) ≤ suc (length ws)
      go h true q = omega (arith, h)
      go h false true = omega (arith, h)
      go h false false = omega (arith, h)

  polls : (marked : List Want) (accept : Bool) → IsRaising (1 + 4 * links) (Polls marked accept)
  polls marked accept n s new a w h = record {
    within = within-more n (n + (1 + 4 * links)) new (omega arith) (subst (StateIsWithin n links hooks) (sym h.state) w);
    entries =
        let e = ap length h.entries in
        let p = length-append (want_events marked) (ready_events marked) in
        let q = want_events-length marked in
        let r = ready_events-most marked in
        let m = marked-most n s marked w h.many in
        omega (arith, e, p, q, r, m);
    settings = ap (λ (z : State). z.settings) h.state;
  }

  -- Accepting

  opens : IsRaising 1 OpensOne
  opens n s new a w h =
      let o = h.1 in
      record {
        within = subst (StateIsWithin (n + 1) links hooks) (sym o.state) (record {
          allowed = w.allowed;
          opened = (let p = o.allowed in omega (arith, p, w.allowed));
          hooked = w.hooked;
          turns = omega (arith, w.turns);
          reads = push-within (n + 1) s.lanes _ _ (omega arith) (omega arith) (λ i. let r = w.reads i in omega (arith, r));
        });
        entries = let e = ap length o.entries in omega (arith, e);
        settings = ap (λ (z : State). z.settings) o.state;
      }

  opens_some : (m : ℕ) → IsRaising m (OpensSome m)
  opens_some zero n s new a w h = nothing n s new a w h
  opens_some (suc m) n s new a w h = more n (m + 1) (suc m) s new a (omega arith) (both m 1 (opens_some m) opens n s new a w h)

  accepts : (ready : Bool) → IsRaising 64 (AcceptsWhere ready)
  accepts true n s new a w h = more n h.0 64 s new a h.1 (opens_some h.0 n s new a w h.2)
  accepts false n s new a w h = more n 0 64 s new a (omega arith) (nothing n s new a w h)

  -- Serving

  got-most : (answer : ReadAnswer) (into : List ℕ) → ReadWithin answer (length into) → length (got_bytes answer into) ≤ length into
  got-most (read.Got m) into h = let e = length-take m into in omega (arith, e)
  got-most read.Ended into h = omega arith
  got-most read.NotYet into h = omega arith
  got-most read.Failed into h = omega arith

  room-most : (s : State) (e : SideId) → read_room s e ≤ 16384
  room-most s e = go (may_read s.plain e) (share s e dir.Read) (allowance s e dir.Read) (read_mark s.plain e - input_length s e)
    where
      go : (b : Bool) (part left : Option ℕ) (n : ℕ) → (if b then at_most part (at_most left (min most_at_once n)) else 0) ≤ 16384
      go true None None n = omega arith
      go true None (Some m) n = omega arith
      go true (Some l) None n = omega arith
      go true (Some l) (Some m) n = omega arith
      go false part left n = omega arith

  reads : (e : SideId) (marked : Bool) → IsRaising 16384 (ReadsSide e marked)
  reads e marked n s new a w h = by_bool (marked && wants s e dir.Read) some none h
    where
      some : ReadsWithRoom e s a new → Raises links hooks n 16384 s a new
      some r =
          let answer = r.0 in
          let into = r.1 in
          let c = r.3 in
          let most : length (got_bytes answer into) ≤ 16384 = (let p = got-most answer into c.within in let q = room-most s e in
          omega (arith, p, q, r.2)) in
          let f = frame-read s e answer (got_bytes answer into) in
          let links_stay = ap (λ (z : Settings). z.links) f.settings in
          let hooks_stay = ap (λ (z : Settings). length z.hooks) f.settings in
          let opened = f.opened in
          let turn = f.turn in
          record {
            within = subst (StateIsWithin (n + 16384) links hooks) (sym c.state) (record {
              allowed = omega (arith, links_stay, w.allowed);
              opened = omega (arith, opened, w.opened);
              hooked = omega (arith, hooks_stay, w.hooked);
              turns = omega (arith, turn, w.turns);
              reads = λ i. let p = f.reads n w.reads i in omega (arith, p, most);
            });
            entries = let p = ap length c.entries in omega (arith, p);
            settings = ap (λ (z : State). z.settings) c.state ∙ f.settings;
          }

      none : Nothing s a new → Raises links hooks n 16384 s a new
      none r = more n 0 16384 s new a (omega arith) (nothing n s new a w r)

  write_events-most : (e : SideId) (from : List ℕ) (answer : WriteAnswer) → length (write_events e from answer) ≤ 1
  write_events-most e from (write.Took m) = omega arith
  write_events-most e from write.NotYet = omega arith
  write_events-most e from write.Failed = omega arith
  write_events-most e from write.NoMemory = omega arith

  writes : (e : SideId) (marked : Bool) → IsRaising 1 (WritesSide e marked)
  writes e marked n s new a w h = by_bool (marked && nat_lt 0 (write_room s e)) some none h
    where
      some : (answer : WriteAnswer) × Writes e answer s a new → Raises links hooks n 1 s a new
      some r =
          let c = r.1 in
          let f = frame-write s e r.0 in
          record {
            within = within-more n (n + 1) new (omega arith) (subst (StateIsWithin n links hooks) (sym c.state) (within-frame n s _ f w));
            entries = let p = ap length c.entries in let q = write_events-most e (offer s e) r.0 in omega (arith, p, q);
            settings = ap (λ (z : State). z.settings) c.state ∙ f.settings;
          }

      none : Nothing s a new → Raises links hooks n 1 s a new
      none r = more n 0 1 s new a (omega arith) (nothing n s new a w r)

  connects : (e : SideId) (marked : Bool) → IsRaising 1 (ConnectsSide e marked)
  connects e marked n s new a w h = by_bool marked some none h
    where
      some : (answer : ConnAnswer) × Checks e answer s a new → Raises links hooks n 1 s a new
      some r =
          let c = r.1 in
          let f = frame-conn s e r.0 in
          record {
            within = within-more n (n + 1) new (omega arith) (subst (StateIsWithin n links hooks) (sym c.state) (within-frame n s _ f w));
            entries = let p = ap length c.entries in omega (arith, p);
            settings = ap (λ (z : State). z.settings) c.state ∙ f.settings;
          }

      none : Nothing s a new → Raises links hooks n 1 s a new
      none r = more n 0 1 s new a (omega arith) (nothing n s new a w r)

  serves : (x : Want) → IsRaising 16385 (ServesSide x)
  serves x n s new a w h =
      by_bool (is_connecting s.plain x.side)
      (λ r. more n 1 16385 s new a (omega arith) (connects x.side x.can_write n s new a w r))
      (λ r. both 16384 1 (reads x.side x.can_read) (writes x.side x.can_write) n s new a w r)
      h

  -- Passing and closing

  passes : (e : SideId) → IsRaising 0 (PassesSide e)
  passes e n s new a w h =
      let f = frame-passed s e new h.1 in
      record {
        within = within-more n (n + 0) new (omega arith) (within-frame n s new f w);
        entries = let e = ap length h.0 in omega (arith, e);
        settings = f.settings;
      }

  passes_link : (k : ℕ) → IsRaising 0 (PassesLink k)
  passes_link k = each PassesSide 0 passes (in_side k ∷ out_side k ∷ [])

  passes_all : IsRaising 0 (ForAllLinks PassesLink)
  passes_all n s new a w h =
      let t = (total-is (links_from 0 s.plain.opened)).0 in
      more n (total 0 (links_from 0 s.plain.opened)) 0 s new a (omega (arith, t))
      (each PassesLink 0 passes_link (links_from 0 s.plain.opened) n s new a w h)

  frame-closing : (s : State) (step : Closing) → Frame s (after_closing s step)
  frame-closing s (closing.Faulty e) = frame-closed s (CloseStep.Faulty e)
  frame-closing s (closing.EndWriting e) = frame-closed s (CloseStep.EndWriting e)
  frame-closing s (closing.BothDone k) =
      frame-then s (closed (CloseStep.BothDone k) s) _ (frame-closed s (CloseStep.BothDone k))
      (frame-closed (closed (CloseStep.BothDone k) s) (CloseStep.OutDone k))
  frame-closing s (closing.PeerGone e) = frame-closed s (CloseStep.PeerGone e)
  frame-closing s (closing.Shut e) = frame-closed s (CloseStep.Shut e)

  few-events : (o : Option Entry) → length (entry_events o) ≤ 1
  few-events None = omega arith
  few-events (Some y) = omega arith

  closing-most : (s : State) (step : Closing) → length (closing_events s step) ≤ 2
  closing-most s (closing.Faulty e) = let h = few-events (option_map (freed_entry s.plain e) (fault (side_at s.plain e))) in
      omega (arith, h)
  closing-most s (closing.EndWriting e) = omega arith
  closing-most s (closing.BothDone k) = omega arith
  closing-most s (closing.PeerGone e) = omega arith
  closing-most s (closing.Shut e) = omega arith

  looks : (step : Closing) → IsRaising 2 (LooksAt step)
  looks step n s new a w h = by_bool (is_some (closing_entry s (close_step step))) some none h
    where
      some : Closes step s a new → Raises links hooks n 2 s a new
      some c =
          let f = frame-closing s step in
          let most = closing-most s step in
          record {
            within = within-more n (n + 2) new (omega arith) (subst (StateIsWithin n links hooks) (sym c.state) (within-frame n s _ f w));
            entries = let p = ap length c.entries in omega (arith, p, most);
            settings = ap (λ (z : State). z.settings) c.state ∙ f.settings;
          }

      none : Nothing s a new → Raises links hooks n 2 s a new
      none r = more n 0 2 s new a (omega arith) (nothing n s new a w r)

  closes_link : (k : ℕ) → IsRaising 18 (ClosesLink k)
  closes_link k = each LooksAt 2 looks (steps_of k)

  closes_all : IsRaising (18 * links) (ForAllLinks ClosesLink)
  closes_all n s new a w h =
      let t = (total-is (links_from 0 s.plain.opened)).2 in
      let l = links_from-length 0 s.plain.opened in
      more n (total 18 (links_from 0 s.plain.opened)) (18 * links) s new a (omega (arith, t, l, w.opened))
      (each ClosesLink 18 closes_link (links_from 0 s.plain.opened) n s new a w h)

  -- Dispatch

  dispatches : IsRaising (2565 * hooks) DispatchesAll
  dispatches n s new a w h =
      let d = all-dispatch-does h in
      let few = d.few in
      record {
        within = within-more n (n + 2565 * hooks) new (omega arith) (within-frame n s new d.frame w);
        entries = omega (arith, few, w.hooked);
        settings = d.frame.settings;
      }

  -- The turn

  polls_and_accepts : (marked : List Want) → IsRaising ((1 + 4 * links) + 64) (PollsAndAccepts marked)
  polls_and_accepts marked n s new a w h = both (1 + 4 * links) 64 (polls marked h.0) (accepts h.0) n s new a w h.1

  pub turn_raises : IsRaising (most_of_turn links hooks) Turns
  turn_raises n s new a w h =
      let marked = h.1 in
      let t = h.2 in
      let clock = ticks h.0 n s t.middle t.front w t.first in
      let rest = t.second in
      let many : length marked ≤ 2 * links = marked-most (n + 1) t.middle marked clock.within rest.first.1.first.many in
      let size = (total-is marked).1 in
      let last : ℕ = 2565 * hooks + (0 + 18 * links) in
      let k : ℕ = 1 + (((1 + 4 * links) + 64) + (total 16385 marked + last)) in
      more n k (most_of_turn links hooks) s new a (omega (arith, size, many))
      (both 1 (((1 + 4 * links) + 64) + (total 16385 marked + last)) (ticks h.0)
      (both ((1 + 4 * links) + 64) (total 16385 marked + last) (polls_and_accepts marked)
      (both (total 16385 marked) last (each ServesSide 16385 serves marked)
      (both (2565 * hooks) (0 + 18 * links) dispatches (both 0 (18 * links) passes_all closes_all))))
      n s new a w t)
