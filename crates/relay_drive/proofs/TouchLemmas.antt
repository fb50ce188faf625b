-- Links that asks change are looked at again, so that what was found of all others still holds.
use Rattle.std.proofs.Common.{◌≡◌, ℕ, ◌+◌, ◌<◌, ◌≤◌, false, List, [], ◌∷◌, length, drop, get_or, sym, subst, arith}
use Rattle.std.proofs.lemmas.List.{drop_more, drop_all}
use Rattle.std.specs.List.{All}
use Rattle.std.proofs.lemmas.List.Elements.{All-nil, All-cons, All-head}
use Rattle.ev_types.specs.declared.entry.Entry.{Entry}
use Rattle.ev_types.specs.Trace.{Trace}
use Rattle.number_set.specs.Numbers.{NumberSetValue}
use Rattle.relay_core.specs.Fires.{events_of}
use Rattle.relay_state.specs.State.{State}
use Rattle.relay_drive.specs.declared.agenda.Agenda.{Agenda}
use Rattle.relay_drive.specs.Agenda.{HoldsBeside, IsKept, IsNamedRight, IsGone, KeepsNames}
use Rattle.relay_drive.specs.Asked.{IsAskedElsewhere, LeavesOut, TouchedAsked}
use Rattle.relay_drive.specs.Links.{SameLink, IsStill, IsSettled}
use Rattle.relay_drive.proofs.AgendaLemmas.{gone-same, named-same}
use Rattle.relay_drive.proofs.LinkParts.{still-same, settled-same}

-- A link that is left out by then was left out, and where no later entry changes it none does.
abbrev pub LeavesRest : List Entry → ℕ → ℕ → NumberSetValue → NumberSetValue → Type 0
LeavesRest log i opened old new =
    (k : ℕ) → k < opened → new.has k ≡ false → (old.has k ≡ false)
    × (All (IsAskedElsewhere k) (events_of (drop i log)) → All (IsAskedElsewhere k) (events_of log))

pub rest-begins : (log : List Entry) (opened : ℕ) (set : NumberSetValue) → LeavesRest log 0 opened set set
rest-begins log opened set k lt out = (out, λ h. h)

pub rest-next : (log : List Entry) (i opened : ℕ) (x : Entry) (old mid new : NumberSetValue) → i < length log → get_or log i x ≡ x →
    LeavesRest log i opened old mid → LeavesOut ((x, []) ∷ []) opened mid new → LeavesRest log (i + 1) opened old new
rest-next log i opened x old mid new within at h one k lt out =
    let step = one k lt out in
    let before = h k lt step.0 in
    let elsewhere : IsAskedElsewhere k (x, []) = All-head (IsAskedElsewhere k) (x, []) [] step.1 in (
      before.0,
      λ later. before.1 (subst (λ xs. All (IsAskedElsewhere k) (events_of xs)) (sym (drop_more log i x within))
          (subst (λ y. All (IsAskedElsewhere k) ((y, []) ∷ events_of (drop (i + 1) log))) (sym at)
          (All-cons (IsAskedElsewhere k) (x, []) (events_of (drop (i + 1) log)) elsewhere later))),
    )

pub rest-ends : (log : List Entry) (i opened : ℕ) (old new : NumberSetValue) → length log ≤ i → LeavesRest log i opened old new →
    LeavesOut (events_of log) opened old new
rest-ends log i opened old new end h k lt out =
    let a = h k lt out in
    (a.0, a.1 (subst (λ xs. All (IsAskedElsewhere k) (events_of xs)) (sym (drop_all i log end)) (All-nil (IsAskedElsewhere k))))

-- What holds of the links beside a set still does, where those that changed are in it.
beside-asked : (P : State → ℕ → Type 0) (log : Trace) (old new : NumberSetValue) (s s' : State) →
    s'.plain.opened ≡ s.plain.opened → LeavesOut log s.plain.opened old new →
    ((k : ℕ) → All (IsAskedElsewhere k) log → P s k → P s' k) → HoldsBeside old P s → HoldsBeside new P s'
beside-asked P log old new s s' opened leaves kept h k lt out =
    let below : k < s.plain.opened = subst (λ n. k < n) opened lt in
    let a = leaves k below out in
    kept k a.1 (h k below a.0)

module _ (log : Trace) (l l' : Agenda) (s s' : State) (opened : s'.plain.opened ≡ s.plain.opened)
    (touched : TouchedAsked log s.plain.opened l l') (same : (k : ℕ) → All (IsAskedElsewhere k) log → SameLink k s s') where
  pub asked-kept : IsKept l s → IsKept l' s'
  asked-kept h = record {
    pass_covers = omega (arith, opened, touched.pass_len, h.pass_covers);
    close_covers = omega (arith, opened, touched.close_len, h.close_covers);
    want_covers = omega (arith, opened, touched.want_len, h.want_covers);
    live_covers = omega (arith, opened, touched.live_len, h.live_covers);
    still = beside-asked IsStill log l.to_pass l'.to_pass s s' opened touched.to_pass (λ k a p. still-same (same k a) p) h.still;
    settled = beside-asked IsSettled log l.to_close l'.to_close s s' opened touched.to_close (λ k a p. settled-same (same k a) p) h.settled;
    gone = beside-asked IsGone log l.maybe_open l'.maybe_open s s' opened touched.maybe_open (λ k a p. gone-same k s s' (same k a) p)
        h.gone;
  }

  pub asked-names : KeepsNames l s l' s'
  asked-names table h = record {
    links = omega (arith, opened, h.links);
    named = beside-asked (IsNamedRight table) log l.to_name l'.to_name s s' opened touched.to_name
        (λ k a p. named-same table k s s' (same k a) p) h.named;
  }
