-- What entries of a trace leave of where the ends of a script port stand.
use Rattle.std.proofs.Common.{◌≡◌, ℕ, ◌≤◌, Bool, true, false, ◌||◌, if◌then◌else◌, List, [], ◌∷◌, ◌++◌, length, drop, Option, Some, None}
use Rattle.std.proofs.Common.{refl, sym, ap, subst, ◌∙◌, arith, append_assoc, append-nil, inl, inr}
use Rattle.std.specs.Prelude.{sum_by}
use Rattle.std.specs.List.{flat_map, list_any}
use Rattle.std.proofs.lemmas.List.Folds.{list_any-append}
use Rattle.std.proofs.lemmas.List.Sums.{sum_by-append}
use Rattle.ev_types.specs.declared.side.SideId.{SideId}
use Rattle.ev_types.specs.Sides.{same_end}
use Rattle.ev_types.specs.Trace.{Trace}
use Rattle.relay_model.specs.Trace.{bytes_read, bytes_given}
use Rattle.relay_model.specs.Totals.{made_connected_by, connected_by, is_opened, opened, is_made_connected, is_connected}
use Rattle.ev_types.specs.declared.turn_line.TurnLine.{TurnLine}
use Rattle.relay_model.specs.Lines.{links_by, allows, allows_all}
use Rattle.relay_model.proofs.TraceLemmas.{bytes_read-append, bytes_given-append}
use Rattle.relay_model.proofs.EndLemmas.{same_end-eq}
use Rattle.ev_port.specs.declared.port.Want.{Want}
use Rattle.script_port.specs.ScriptState.{EndState, LinksState}
use Rattle.script_port.specs.declared.end_tally.EndTally.{EndTally}
use Rattle.script_port.specs.EndTallies.{with_want}
use Rattle.script_port.specs.ScriptEnds.{wanted}
use Rattle.script_port.specs.ScriptLinks.{end_of, at_end, after_wants}
use Rattle.script_port.specs.ScriptVouched.{MayTake, EndStands, LinksStand}
use Rattle.script_port.proofs.ToldLemmas.{same_end_tells}
use Rattle.script_port.proofs.ScriptStandLemmas.{end_changed, none_changed}

pub same_self : (e : SideId) → same_end e e ≡ true
same_self e = elim (same_end_tells e e) [ inl t ↦ t.0 | inr t ↦ absurd (t.1 refl) ]

-- entries that say nothing of an end
pub record Silent (e : SideId) (u : Trace) : Type 0 where
  pub read : bytes_read e u ≡ []
  pub given : bytes_given e u ≡ []
  pub made : is_made_connected e u ≡ false
  pub connected : is_connected e u ≡ false

-- nor of any end, nor of links
pub record AllSilent (u : Trace) : Type 0 where
  pub ends : (e : SideId) → Silent e u
  pub opens : opened u ≡ 0

pub silent-append : (t u : Trace) → AllSilent t → AllSilent u → AllSilent (t ++ u)
silent-append t u h k = record {
  ends = λ e.
      let a = h.ends e in
      let b = k.ends e in
      record {
        read = bytes_read-append e t u ∙ ap (λ z. z ++ bytes_read e u) a.read ∙ b.read;
        given = bytes_given-append e t u ∙ ap (λ z. z ++ bytes_given e u) a.given ∙ b.given;
        made = list_any-append (made_connected_by e) t u ∙ ap (λ z. z || is_made_connected e u) a.made ∙ b.made;
        connected = list_any-append (connected_by e) t u ∙ ap (λ z. z || is_connected e u) a.connected ∙ b.connected;
      };
  opens = let parts = sum_by-append (λ x. if is_opened x then 1 else 0) t u in let left = h.opens in let right = k.opens in
      omega (arith, parts, left, right);
}

pub silent-none : AllSilent []
silent-none = record { ends = λ e. record { read = refl; given = refl; made = refl; connected = refl }; opens = refl }

-- what only lines say of an end stays
pub record SameSaid (s new : EndState) : Type 0 where
  pub eof : new.eof ≡ s.eof
  pub read_fails : new.read_fails ≡ s.read_fails
  pub write_fails : new.write_fails ≡ s.write_fails
  pub wait : new.wait ≡ s.wait
  pub decision : new.decision ≡ s.decision
  pub spurred : new.spurred ≡ s.spurred

-- the same state of an end, but for what is counted of calls
pub record AsBefore (s new : EndState) : Type 0 where
  pub said : SameSaid s new
  pub pending : new.pending ≡ s.pending
  pub taken : new.taken ≡ s.taken
  pub may_take : new.may_take ≡ s.may_take
  pub made_connected : new.tally.made_connected ≡ s.tally.made_connected
  pub connected : new.tally.connected ≡ s.tally.connected

pub record Like (l new : LinksState) : Type 0 where
  pub waiting : new.waiting ≡ l.waiting
  pub turn : new.turn ≡ l.turn
  pub poll_fails : new.poll_fails ≡ l.poll_fails
  pub closing : new.closing ≡ l.closing
  pub ends : (e : SideId) (s : EndState) → end_of new e ≡ Some s → (old : EndState) × (end_of l e ≡ Some old) × AsBefore old s
  pub none : (e : SideId) → end_of new e ≡ None → end_of l e ≡ None

pub same_said : (s : EndState) (given pending : List ℕ) (may_take : Option ℕ) (taken : List ℕ) (tally : EndTally) →
    SameSaid s (record s { given = given; pending = pending; may_take = may_take; taken = taken; tally = tally })
same_said s given pending may_take taken tally = record {
  eof = refl;
  read_fails = refl;
  write_fails = refl;
  wait = refl;
  decision
      = refl;
  spurred = refl;
}

-- only counts changed
pub counts_alone : (s : EndState) (tally : EndTally) → tally.made_connected ≡ s.tally.made_connected → tally.connected ≡
    s.tally.connected → AsBefore s (record s { tally = tally })
counts_alone s tally made connected = record {
  said = same_said s s.given s.pending s.may_take s.taken tally;
  pending = refl;
  taken
      = refl;
  may_take = refl;
  made_connected = made;
  connected = connected;
}

pub as_before : (s : EndState) → AsBefore s s
as_before s = counts_alone s s.tally refl refl

pub like : (l : LinksState) → Like l l
like l = record {
  waiting = refl;
  turn = refl;
  poll_fails = refl;
  closing = refl;
  ends = λ e s found.
      (s, found, as_before s);
  none = λ e found. found;
}

pub like-at_end : (side : SideId) (f : EndState → EndState) (l : LinksState) → ((s : EndState) → AsBefore s (f s)) → Like l
    (at_end side f l)
like-at_end side f l h = record {
  waiting = refl;
  turn = refl;
  poll_fails = refl;
  closing = refl;
  ends = λ e s found.
      elim (end_changed side e f l s found) [
        | inl own ↦ (own.1.0, own.1.1, subst (AsBefore own.1.0) (sym own.1.2) (h own.1.0))
        | inr same ↦ (s, same.1, as_before s)
      ];
  none = λ e found. none_changed side e f l found;
}

before-trans : (a b c : EndState) → AsBefore a b → AsBefore b c → AsBefore a c
before-trans a b c h k = record {
  said = record {
    eof = k.said.eof ∙ h.said.eof;
    read_fails = k.said.read_fails ∙ h.said.read_fails;
    write_fails = k.said.write_fails ∙ h.said.write_fails;
    wait = k.said.wait ∙ h.said.wait;
    decision = k.said.decision ∙ h.said.decision;
    spurred = k.said.spurred ∙ h.said.spurred;
  };
  pending = k.pending ∙ h.pending;
  taken = k.taken ∙ h.taken;
  may_take = k.may_take ∙ h.may_take;
  made_connected = k.made_connected ∙ h.made_connected;
  connected = k.connected ∙ h.connected;
}

like-trans : (l m n : LinksState) → Like l m → Like m n → Like l n
like-trans l m n h k = record {
  waiting = k.waiting ∙ h.waiting;
  turn = k.turn ∙ h.turn;
  poll_fails = k.poll_fails ∙ h.poll_fails;
  closing = k.closing ∙ h.closing;
  ends = λ e s found.
      let b = k.ends e s found in
      let a = h.ends e b.0 b.1 in
      (a.0, a.1, before-trans a.0 b.0 s a.2 b.2);
  none = λ e found. h.none e (k.none e found);
}

pub like-wants : (ws : List Want) (l : LinksState) → Like l (after_wants ws l)
like-wants [] l = like l
like-wants (w ∷ ws) l =
    let one = at_end w.side (wanted w) l in
    like-trans l one (after_wants ws one)
    (like-at_end w.side (wanted w) l (λ s. counts_alone s (with_want w s.tally) refl refl))
    (like-wants ws one)

pub or_false : (a : Bool) → (a || false) ≡ a
or_false true = refl
or_false false = refl

module _ (closing : Bool) (waits : List Bool) (ls : List TurnLine) where
  -- an end after entries
  pub end_event : (t u : Trace) (e : SideId) (s new : EndState) → EndStands closing waits ls t e s → s.pending ≡ bytes_read e u ++
      new.pending → new.taken ≡ s.taken ++ bytes_given e u → SameSaid s new →
      MayTake new.may_take (closing || list_any (allows_all e) ls) (sum_by (allows e) ls) (length new.taken) → new.tally.made_connected ≡
      (s.tally.made_connected || is_made_connected e u) →
      new.tally.connected ≡ (s.tally.connected || is_connected e u) → EndStands closing waits ls (t ++ u) e new
  end_event t u e s new h came taken said may made connected = record {
    came =
        ap (λ z. z ++ new.pending) (bytes_read-append e t u) ∙ append_assoc (bytes_read e t) (bytes_read e u) new.pending ∙ ap
        (λ z. bytes_read e t ++ z) (sym came) ∙ h.came;
    eof = said.eof ∙ h.eof;
    read_fails = said.read_fails ∙ h.read_fails;
    taken = taken ∙ ap (λ z. z ++ bytes_given e u) h.taken ∙ sym (bytes_given-append e t u);
    may_take = may;
    write_fails = said.write_fails ∙ h.write_fails;
    wait = said.wait ∙ h.wait;
    decision = said.decision ∙ h.decision;
    made_connected = made ∙ ap (λ z. z || is_made_connected e u) h.made_connected ∙ sym (list_any-append (made_connected_by e) t u);
    connected = connected ∙ ap (λ z. z || is_connected e u) h.connected ∙ sym (list_any-append (connected_by e) t u);
  }

  pub end_silent : (t u : Trace) (e : SideId) (s new : EndState) → Silent e u → AsBefore s new → EndStands closing waits ls t e s →
      EndStands closing waits ls (t ++ u) e new
  end_silent t u e s new q b h =
      end_event t u e s new h (sym b.pending ∙ ap (λ z. z ++ new.pending) (sym q.read))
      (b.taken ∙ sym (append-nil s.taken) ∙ ap (λ z. s.taken ++ z) (sym q.given)) b.said
      (subst (λ z. MayTake new.may_take (closing || list_any (allows_all e) ls) (sum_by (allows e) ls) (length z)) (sym b.taken)
      (subst (λ z. MayTake z (closing || list_any (allows_all e) ls) (sum_by (allows e) ls) (length s.taken)) (sym b.may_take) h.may_take))
      (b.made_connected ∙ sym (or_false s.tally.made_connected) ∙ ap (λ z. s.tally.made_connected || z) (sym q.made))
      (b.connected ∙ sym (or_false s.tally.connected) ∙ ap (λ z. s.tally.connected || z) (sym q.connected))

  -- links after entries that open none
  no_link : (t u : Trace) (l new : LinksState) → opened u ≡ 0 → new.waiting ≡ l.waiting → LinksStand closing waits ls t l →
      (opened (t ++ u) ≤ length (flat_map links_by ls)) × (new.waiting ≡ drop (opened (t ++ u)) (flat_map links_by ls))
  no_link t u l new none same h =
      let parts = sum_by-append (λ x. if is_opened x then 1 else 0) t u in
      let count : opened (t ++ u) ≡ opened t = omega (arith, parts, none) in (
        subst (λ n. n ≤ length (flat_map links_by ls)) (sym count) h.in_order,
        same ∙ h.waiting ∙ ap
            (λ n. drop n (flat_map links_by ls)) (sym count),
      )

  pub links_silent : (t u : Trace) (l new : LinksState) → AllSilent u → Like l new → LinksStand closing waits ls t l →
      LinksStand closing waits ls
      (t ++ u) new
  links_silent t u l new q k h =
      let lists = no_link t u l new q.opens k.waiting h in record {
        is_closing = k.closing ∙ h.is_closing;
        in_order = lists.0;
        waiting = lists.1;
        ends = λ e s found. let old = k.ends e s found in end_silent t u e old.0 s (q.ends e) old.2 (h.ends e old.0 old.1);
        beyond = λ e found. h.beyond e (k.none e found);
      }

  -- a call on one end
  pub at_end_stands : (t u : Trace) (side : SideId) (f : EndState → EndState) (l : LinksState) → opened u ≡ 0 →
      ((e : SideId) → same_end side e ≡ false → Silent e u) →
      ((s : EndState) → end_of l side ≡ Some s → EndStands closing waits ls t side s →
      EndStands closing waits ls (t ++ u) side (f s)) → LinksStand
      closing waits ls t l → LinksStand closing waits ls (t ++ u) (at_end side f l)
  at_end_stands t u side f l none others here h =
      let lists = no_link t u l (at_end side f l) none refl h in record {
        is_closing = h.is_closing;
        in_order = lists.0;
        waiting = lists.1;
        ends = λ e s found.
            elim (end_changed side e f l s found) [
              | inl own ↦
                  let same : side ≡ e = same_end-eq side e own.0 in
                  let old = own.1.0 in
                  let there : end_of l side ≡ Some old = subst (λ z. end_of l z ≡ Some old) (sym same) own.1.1 in
                  subst (λ z. EndStands closing waits ls (t ++ u) e z) (sym own.1.2) (subst (λ z. EndStands closing waits ls
                  (t ++ u) z (f old))
                  same (here old there (h.ends side old there)))
              | inr same ↦ end_silent t u e s s (others e same.0) (as_before s) (h.ends e s same.1)
            ];
        beyond = λ e found. h.beyond e (none_changed side e f l found);
      }
