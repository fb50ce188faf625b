-- What is kept of the links stays right, step by step: a step changes one link, and that one is looked at again.
use Rattle.std.proofs.Common.{◌≡◌, ◌≢◌, ℕ, ◌+◌, ◌<◌, ◌≤◌, Bool, true, false, ◌==◌, ◌||◌, if◌then◌else◌, [], refl, sym, ◌∙◌, ap}
use Rattle.std.proofs.Common.{subst, arith, inl, inr}
use Rattle.std.proofs.lemmas.Bool.{eqb-true, eqb-false, cases_lt}
use Rattle.token_bucket.specs.declared.limit.Dir.TheVariants as dir
use Rattle.ev_types.specs.declared.side.SideId.{SideId}
use Rattle.ev_types.specs.Sides.{number}
use Rattle.ev_port.specs.Table.{WantsValue, RowsStay}
use Rattle.number_set.specs.Numbers.{NumberSetValue}
use Rattle.relay_state.specs.State.{State}
use Rattle.relay_state.specs.Counting.{is_open}
use Rattle.relay_state.specs.Closing.{in_side, out_side}
use Rattle.relay_drive.specs.declared.agenda.Agenda.{Agenda}
use Rattle.relay_drive.specs.declared.naming.Naming.{Naming}
use Rattle.relay_drive.specs.Links.{SameLink, HasPairs, IsStill, IsSettled, at_time}
use Rattle.relay_drive.specs.Agenda.{IsNamed, IsNamedRight, HoldsBeside, IsGone, IsKept, TouchedBut}
use Rattle.relay_drive.specs.Agenda.{TouchedEach, HasBoth, NamesEach, IsCovered, ClosingNoted}
use Rattle.relay_drive.specs.Agenda.{IsUntold, SameBesideWants, WouldSayOf, KeepsNames}
use Rattle.ev_types.specs.Trace.{Trace}
use Rattle.ev_port.specs.declared.port.Want.{Want}
use Rattle.relay_drive.specs.Steps.{Each}
use Rattle.relay_drive.specs.Phases.{OpensWhere, ServesSide, PassesLink, ClosesLink, links_from}
use Rattle.relay_drive.proofs.OtherLinks.{same_link, serves-other, passes-other, closes-other, opens-other}
use Rattle.relay_drive.proofs.LinkParts.{still-same, settled-same, wants-same, open-same, far-same, still-passes, settled-closes}
use Rattle.relay_drive.proofs.LinkParts.{each-skips}

-- by whether two numbers are the same
pub by_same : {A : Type 0} (n k : ℕ) → (n ≡ k → n == k ≡ true → A) → (n ≢ k → n == k ≡ false → A) → A
by_same {A = A} n k same apart = go (n == k) refl
  where
    go : (b : Bool) → n == k ≡ b → A
    go true e = same (eqb-true n k e) e
    go false e = apart (eqb-false n k e) e

-- What holds of the links beside a set still does, where the set changed at one link alone, and so did the state.
beside : (P : State → ℕ → Type 0) (old new : NumberSetValue) (k : ℕ) (b : Bool) (s s' : State) →
    ((n : ℕ) → new.has n ≡ (if n == k then b else old.has n)) → (b ≡ false → k < s'.plain.opened → P s' k) →
    ((j : ℕ) → j ≢ k → j < s'.plain.opened → j < s.plain.opened) → ((j : ℕ) → j ≢ k → j < s.plain.opened → P s j → P s' j) →
    HoldsBeside old P s → HoldsBeside new P s'
beside P old new k b s s' has own opened others h = λ n lt out.
    by_same n k
    (λ e t. subst (P s') (sym e)
    (own (sym (has n ∙ ap (λ z. if z then b else old.has n) t) ∙ out) (subst (λ m. m < s'.plain.opened) e lt)))
    (λ e t. others n e (opened n e lt)
    (h n (opened n e lt) (sym (has n ∙ ap (λ z. if z then b else old.has n) t) ∙ out)))

-- a step at one link leaves the others, and the number of links
pub record AtLink (k : ℕ) (s new : State) : Type 0 where
  pub others : (j : ℕ) → j ≢ k → SameLink j s new
  pub opened : new.plain.opened ≡ s.plain.opened

no_false : {A : Type 0} → true ≡ false → A
no_false h = absurd (cc)

pub gone-same : (k : ℕ) (s new : State) → SameLink k s new → IsGone s k → IsGone new k
gone-same k s new same h = open-same same ∙ h

-- what the table says of a link is still what its sides would want, and its counts have come as far
pub named-same : (t : Naming) (k : ℕ) (s new : State) → SameLink k s new → IsNamedRight t s k → IsNamedRight t new k
named-same t k s new same h = (
  h.0,
  (
    h.1.0 ∙ sym (wants-same same t.seen.items (in_side k) refl dir.Read),
    h.1.1 ∙ sym (wants-same same t.seen.items (in_side k) refl dir.Write),
  ),
  (
    h.2.0 ∙ sym (wants-same same t.seen.items (out_side k) refl dir.Read),
    h.2.1 ∙ sym (wants-same same t.seen.items (out_side k) refl dir.Write),
  ),
  far-same same ∙ h.3,
)

-- A step at one link, behind which this link is looked at, and is among the open ones where it is open
pub kept-but : (l l' : Agenda) (k : ℕ) (s s' : State) (b : Bool) → AtLink k s s' → (b ≡ false → IsGone s' k) → TouchedBut b k l l' →
    IsKept l s → IsKept l' s'
kept-but l l' k s s' b at gone t h =
    let opened = λ (j : ℕ) (e : j ≢ k) (lt : j < s'.plain.opened). subst (λ m. j < m) at.opened lt in
    record {
      pass_covers = omega (arith, at.opened, t.pass_len, h.pass_covers);
      close_covers = omega (arith, at.opened, t.close_len, h.close_covers);
      want_covers = omega (arith, at.opened, t.want_len, h.want_covers);
      live_covers = omega (arith, at.opened, t.live_len, h.live_covers);
      still = beside IsStill l.to_pass l'.to_pass k true s s' t.to_pass (λ e. no_false e) opened
          (λ j e lt p. still-same (at.others j e) p) h.still;
      settled = beside IsSettled l.to_close l'.to_close k true s s' t.to_close (λ e. no_false e) opened
          (λ j e lt p. settled-same (at.others j e) p) h.settled;
      gone = beside IsGone l.maybe_open l'.maybe_open k b s s' t.maybe_open (λ e lt. gone e) opened
          (λ j e lt p. gone-same j s s' (at.others j e) p) h.gone;
    }

pub names-but : (l l' : Agenda) (k : ℕ) (s s' : State) (b : Bool) → AtLink k s s' → TouchedBut b k l l' → KeepsNames l s l' s'
names-but l l' k s s' b at t = λ table h. record {
  links = omega (arith, at.opened, h.links);
  named = beside (IsNamedRight table) l.to_name l'.to_name k true s s' t.to_name (λ e. no_false e)
      (λ j e lt. subst (λ m. j < m) at.opened lt) (λ j e lt p. named-same table j s s' (at.others j e) p) h.named;
}

-- nothing changed, and a link was found at which passing has nothing to do
pub kept-passed : (l l' : Agenda) (k : ℕ) (s : State) → IsStill s k → l'.to_pass.len ≡ l.to_pass.len →
    ((n : ℕ) → l'.to_pass.has n ≡ (if n == k then false else l.to_pass.has n)) → l'.to_close ≡ l.to_close → l'.to_name ≡ l.to_name →
    l'.maybe_open ≡ l.maybe_open →
    IsKept l s → IsKept l' s
kept-passed l l' k s still len has close want live h = record {
  pass_covers = omega (arith, len, h.pass_covers);
  close_covers = subst (λ (z : NumberSetValue). s.plain.opened ≤ z.len) (sym close) h.close_covers;
  want_covers = subst (λ (z : NumberSetValue). s.plain.opened ≤ z.len) (sym want) h.want_covers;
  live_covers = subst (λ (z : NumberSetValue). s.plain.opened ≤ z.len) (sym live) h.live_covers;
  still = beside IsStill l.to_pass l'.to_pass k false s s has (λ e lt. still) (λ j e lt. lt) (λ j e lt p. p) h.still;
  settled = subst (λ z. HoldsBeside z IsSettled s) (sym close) h.settled;
  gone = subst (λ z. HoldsBeside z IsGone s) (sym live) h.gone;
}

-- or at which closing has
pub kept-closed : (l l' : Agenda) (k : ℕ) (s : State) → IsSettled s k → ClosingNoted s k false l l' → IsKept l s → IsKept l' s
kept-closed l l' k s settled t h = record {
  pass_covers = subst (λ (z : NumberSetValue). s.plain.opened ≤ z.len) (sym t.2) h.pass_covers;
  close_covers = let len = t.0 in omega (arith, len, h.close_covers);
  want_covers = subst (λ (z : NumberSetValue). s.plain.opened ≤ z.len) (sym t.3) h.want_covers;
  live_covers = subst (λ (z : NumberSetValue). s.plain.opened ≤ z.len) (sym t.4) h.live_covers;
  still = subst (λ z. HoldsBeside z IsStill s) (sym t.2) h.still;
  settled = beside IsSettled l.to_close l'.to_close k false s s t.1 (λ e lt. settled) (λ j e lt. lt) (λ j e lt p. p) h.settled;
  gone = subst (λ z. HoldsBeside z IsGone s) (sym t.4) h.gone;
}

-- what the table says depends on the set of wants to be looked at alone
pub names-beside : (l l' : Agenda) (s : State) → l'.to_name ≡ l.to_name → KeepsNames l s l' s
names-beside l l' s want = λ table h. record {
  links = h.links;
  named = subst (λ z. HoldsBeside z (IsNamedRight table) s) (sym want) h.named;
}

neither : (a b : Bool) → a || b ≡ false → (b ≡ false) × (a ≡ false)
neither false b h = (h, refl)
neither true b h = no_false h

-- what is not in both sets together is in neither
pub both-out : (set : NumberSetValue) (to : ℕ) (old new : NumberSetValue) → HasBoth set to old new → (n : ℕ) → n < to →
    new.has n ≡ false → (set.has n ≡ false) × (old.has n ≡ false)
both-out set to old new h n lt out = neither (old.has n) (set.has n) (sym (h.0 n lt) ∙ out)

-- Links of a set are looked at, and at the others the step changed nothing.
module _ (set : NumberSetValue) (l l' : Agenda) (s s' : State) (opened : s'.plain.opened ≡ s.plain.opened)
    (t : TouchedEach set s'.plain.opened l l') where
  beside-each : (P : State → ℕ → Type 0) (old new : NumberSetValue) → HasBoth set s'.plain.opened old new →
      ((n : ℕ) → n < s'.plain.opened → set.has n ≡ false → P s n → P s' n) → HoldsBeside old P s → HoldsBeside new P s'
  beside-each P old new touched keeps h = λ n lt out.
      let out-of = both-out set s'.plain.opened old new touched n lt out in
      keeps n lt out-of.0 (h n (subst (λ m. n < m) opened lt) out-of.1)

  pub kept-each : ((n : ℕ) → n < s'.plain.opened → set.has n ≡ false → SameLink n s s') → IsKept l s → IsKept l' s'
  kept-each same h = record {
    pass_covers = omega (arith, opened, t.pass_len, h.pass_covers);
    close_covers = omega (arith, opened, t.close_len, h.close_covers);
    want_covers = omega (arith, opened, t.want_len, h.want_covers);
    live_covers = omega (arith, opened, t.live_len, h.live_covers);
    still = beside-each IsStill l.to_pass l'.to_pass t.to_pass (λ n lt out p. still-same (same n lt out) p) h.still;
    settled = beside-each IsSettled l.to_close l'.to_close t.to_close (λ n lt out p. settled-same (same n lt out) p) h.settled;
    gone = beside-each IsGone l.maybe_open l'.maybe_open t.maybe_open (λ n lt out p. gone-same n s s' (same n lt out) p) h.gone;
  }

-- As a turn begins the table is right of the links that are not to be looked at, of whose sides the same is noted as before.
pub names-begun : (l l' : Agenda) (t t' : Naming) (s s' : State) → s'.plain.opened ≡ s.plain.opened → t'.table ≡ t.table →
    ((n : ℕ) → n < s'.plain.opened → l'.to_name.has n ≡ false →
    (l.to_name.has n ≡ false) × (IsNamedRight t s n → IsNamedRight t' s' n)) → IsNamed l t s → IsNamed l' t' s'
names-begun l l' t t' s s' opened same each h = record {
  links = (let links = h.links in let z = ap (λ (z : WantsValue). z.links) same in omega (arith, opened, links, z));
  named = λ n lt out. let one = each n lt out in one.1 (h.named n (subst (λ m. n < m) opened lt) one.0);
}

-- what was kept is kept as time goes on
pub kept-later : (l : Agenda) (ms : ℕ) (s : State) → IsKept l s → IsKept l (at_time ms s)
kept-later l ms s h = record {
  pass_covers = h.pass_covers;
  close_covers = h.close_covers;
  want_covers = h.want_covers;
  live_covers = h.live_covers;
  still = h.still;
  settled = h.settled;
  gone = h.gone;
}

-- no link changed
pub kept-same : (l : Agenda) (s s' : State) → s'.plain.opened ≡ s.plain.opened → ((j : ℕ) → SameLink j s s') → IsKept l s → IsKept l s'
kept-same l s s' opened same h = record {
  pass_covers = omega (arith, opened, h.pass_covers);
  close_covers = omega (arith, opened, h.close_covers);
  want_covers = omega (arith, opened, h.want_covers);
  live_covers = omega (arith, opened, h.live_covers);
  still = λ n lt out. still-same (same n) (h.still n (subst (λ m. n < m) opened lt) out);
  settled = λ n lt out. settled-same (same n) (h.settled n (subst (λ m. n < m) opened lt) out);
  gone = λ n lt out. gone-same n s s' (same n) (h.gone n (subst (λ m. n < m) opened lt) out);
}

pub names-same : (l : Agenda) (s s' : State) → s'.plain.opened ≡ s.plain.opened → ((j : ℕ) → SameLink j s s') → KeepsNames l s l s'
names-same l s s' opened same = λ table h. record {
  links = omega (arith, opened, h.links);
  named = λ n lt out. named-same table n s s' (same n) (h.named n (subst (λ m. n < m) opened lt) out);
}

-- The next link got its places, and was opened or not.
pub record OpensAtMost (s new : State) : Type 0 where
  pub least : s.plain.opened ≤ new.plain.opened
  pub most : new.plain.opened ≤ s.plain.opened + 1
  pub old : (j : ℕ) → j < s.plain.opened → SameLink j s new

opened-before : (s s' : State) → OpensAtMost s s' → (j : ℕ) → j ≢ s.plain.opened → j < s'.plain.opened → j < s.plain.opened
opened-before s s' o j e lt = omega (arith, e, lt, o.most)

pub kept-covered : (l l' : Agenda) (s s' : State) → OpensAtMost s s' → IsCovered s.plain.opened l l' → IsKept l s → IsKept l' s'
kept-covered l l' s s' o c h = record {
  pass_covers = omega (arith, o.most, c.to_pass.room);
  close_covers = omega (arith, o.most, c.to_close.room);
  want_covers = omega (arith, o.most, c.to_name.room);
  live_covers = omega (arith, o.most, c.maybe_open.room);
  still = beside IsStill l.to_pass l'.to_pass s.plain.opened true s s' c.to_pass.has (λ e. no_false e) (opened-before s s' o)
      (λ j e lt p. still-same (o.old j lt) p) h.still;
  settled = beside IsSettled l.to_close l'.to_close s.plain.opened true s s' c.to_close.has (λ e. no_false e) (opened-before s s' o)
      (λ j e lt p. settled-same (o.old j lt) p) h.settled;
  gone = beside IsGone l.maybe_open l'.maybe_open s.plain.opened true s s' c.maybe_open.has (λ e. no_false e) (opened-before s s' o)
      (λ j e lt p. gone-same j s s' (o.old j lt) p) h.gone;
}

pub names-covered : (l l' : Agenda) (s s' : State) → OpensAtMost s s' → IsCovered s.plain.opened l l' → KeepsNames l s l' s'
names-covered l l' s s' o c = λ table h. record {
  links = omega (arith, o.least, h.links);
  named = beside (IsNamedRight table) l.to_name l'.to_name s.plain.opened true s s' c.to_name.has (λ e. no_false e)
      (opened-before s s' o)
      (λ j e lt p. named-same table j s s' (o.old j lt) p) h.named;
}

-- Steps at one link

pub at-served : (w : Want) (s new : State) (a : Trace) → new.plain.opened ≡ s.plain.opened → ServesSide w s a new →
    AtLink w.side.link s new
at-served w s new a opened h = record { others = λ j e. serves-other j w s new a h e; opened = opened }

pub at-passed : (k : ℕ) (s new : State) → new.plain.opened ≡ s.plain.opened → PassesLink k s [] new → AtLink k s new
at-passed k s new opened h = record { others = λ j e. passes-other j k s new [] h e; opened = opened }

pub at-closed : (k : ℕ) (s new : State) (a : Trace) → new.plain.opened ≡ s.plain.opened → ClosesLink k s a new → AtLink k s new
at-closed k s new a opened h = record { others = λ j e. closes-other j k s new a h e; opened = opened }

-- Links between two that are looked at

-- passing left out the links that are not in the set
pub passes-up : (l : Agenda) (s0 s : State) (from to : ℕ) → from ≤ to → to ≤ s.plain.opened → IsUntold l.to_pass from to → IsKept l s →
    Each PassesLink (links_from 0 from) s0 [] s → Each PassesLink (links_from 0 to) s0 [] s
passes-up l s0 s from to le within untold kept h =
    each-skips PassesLink from to s0 s [] le
    (λ k a b. still-passes k s (kept.still k (omega (arith, b, within)) (untold k a b))) h

-- and closing did
pub closes-up : (l : Agenda) (s0 s : State) (a : Trace) (from to : ℕ) → from ≤ to → to ≤ s.plain.opened →
    IsUntold l.to_close from to → IsKept l s →
    Each ClosesLink (links_from 0 from) s0 a s → Each ClosesLink (links_from 0 to) s0 a s
closes-up l s0 s a from to le within untold kept h =
    each-skips ClosesLink from to s0 s a le
    (λ k b d. settled-closes k s (kept.settled k (omega (arith, d, within)) (untold k b d))) h

-- A link was opened, or there was none.
pub opens-at-most : (more : Bool) (s new : State) (a : Trace) → HasPairs s → OpensWhere more s a new → OpensAtMost s new
opens-at-most true s new a pairs h =
    let count : new.plain.opened ≡ s.plain.opened + 1 = ap (λ (z : State). z.plain.opened) h.1.state in
    record {
      least = omega (arith, count);
      most = omega (arith, count);
      old = λ j lt. opens-other j s new a h pairs lt;
    }
opens-at-most false s new a pairs h =
    let count : new.plain.opened ≡ s.plain.opened = ap (λ (z : State). z.plain.opened) h.1 in
    record {
      least = omega (arith, count);
      most = omega (arith, count);
      old = λ j lt. subst (SameLink j s) (sym h.1) (same_link j s);
    }

-- What closing came to at a link is noted.

pub closing-keeps : (l l' : Agenda) (k : ℕ) (s s' : State) (any : Bool) → AtLink k s s' →
    (any ≡ false → (s' ≡ s) × IsSettled s k) → ClosingNoted s' k any l l' → IsKept l s → IsKept l' s'
closing-keeps l l' k s s' false at none t h =
    let same = none refl in
    subst (IsKept l') (sym same.0) (kept-closed l l' k s same.1 (subst (λ z. ClosingNoted z k false l l') same.0 t) h)
closing-keeps l l' k s s' true at none t h = kept-but l l' k s s' (is_open s' k) at (λ e. e) t h

pub closing-names : (l l' : Agenda) (k : ℕ) (s s' : State) (any : Bool) → AtLink k s s' →
    (any ≡ false → (s' ≡ s) × IsSettled s k) → ClosingNoted s' k any l l' → KeepsNames l s l' s'
closing-names l l' k s s' false at none t =
    subst (KeepsNames l s l') (sym (none refl).0) (names-beside l l' s t.3)
closing-names l l' k s s' true at none t = names-but l l' k s s' (is_open s' k) at t

-- Going up over numbers

-- what holds of the numbers below one, and of those from there to another, holds of all below the other
pub up-all : (P : ℕ → Type 0) (from to : ℕ) → ((k : ℕ) → k < from → P k) → ((k : ℕ) → from ≤ k → k < to → P k) → (k : ℕ) → k < to → P k
up-all P from to below between = λ k lt. elim (cases_lt k from) [ inl less ↦ below k less | inr more ↦ between k more lt ]

-- what holds of the numbers below one, of those from there to another, and of that one, holds of all up to it
pub up-next : (P : ℕ → Type 0) (from to : ℕ) → ((k : ℕ) → k < from → P k) → ((k : ℕ) → from ≤ k → k < to → P k) → P to → (k : ℕ) →
    k < to + 1 → P k
up-next P from to below between own = λ k lt.
    by_same k to (λ e t. subst P (sym e) own) (λ e t. up-all P from to below between k (omega (arith, lt, e)))

or-none : (b : Bool) → b || false ≡ b
or-none false = refl
or-none true = refl

or-own : (b : Bool) → b || true ≡ true
or-own false = refl
or-own true = refl

-- What a set has from the numbers below one, and from those up to another where there is none.

pub touched-none : (set old : NumberSetValue) → HasBoth set 0 old old
touched-none set old = (λ n lt. absurd (omega (arith, lt)), λ n le. refl)

pub touched-all : (set old new : NumberSetValue) (from to : ℕ) → from ≤ to → IsUntold set from to → HasBoth set from old new →
    HasBoth set to old new
touched-all set old new from to le rest h = (
  λ n lt. elim (cases_lt n from) [
    | inl less ↦ h.0 n less
    | inr more ↦ h.1 n more ∙ sym (ap (λ z. old.has n || z) (rest n more lt) ∙ or-none (old.has n))
  ],
  λ n more. h.1 n (omega (arith, le, more)),
)

pub touched-next : (set old mid new : NumberSetValue) (from k : ℕ) → ((n : ℕ) → new.has n ≡ (if n == k then true else mid.has n)) →
    from ≤ k → set.has k ≡ true → IsUntold set from k → HasBoth set from old mid → HasBoth set (k + 1) old new
touched-next set old mid new from k has le own between h =
    let upto = touched-all set old mid from k le between h in (
      λ n lt. by_same n k
          (λ e t. has n ∙ ap (λ z. if z then true else mid.has n) t
          ∙ sym (ap (λ j. old.has n || set.has j) e ∙ ap (λ z. old.has n || z) own ∙ or-own (old.has n)))
          (λ e t. has n ∙ ap (λ z. if z then true else mid.has n) t ∙ upto.0 n (omega (arith, lt, e))),
      λ n more. by_same n k
          (λ e t. absurd (omega (arith, more, e)))
          (λ e t. has n ∙ ap (λ z. if z then true else mid.has n) t ∙ upto.1 n (omega (arith, more))),
    )

-- a link of which the table is not to be looked at is none of those that are told
pub names-out : (told : Bool) (set : NumberSetValue) (opened : ℕ) (old new : Agenda) → NamesEach told set opened old new → (n : ℕ) →
    n < opened → new.to_name.has n ≡ false → (told ≡ true → set.has n ≡ false) × (old.to_name.has n ≡ false)
names-out false set opened old new h n lt out =
    (λ wrong. absurd (cc), sym (ap (λ (z : NumberSetValue). z.has n) (h.still refl)) ∙ out)
names-out true set opened old new h n lt out =
    let both = both-out set opened old.to_name new.to_name (h.to_name refl) n lt out in (λ _. both.0, both.1)

-- the sets but that of wants stay, and so does what they say
pub kept-beside_wants : (l l' : Agenda) (s : State) → SameBesideWants l l' → IsKept l s → IsKept l' s
kept-beside_wants l l' s same h = record {
  pass_covers = subst (λ (z : NumberSetValue). s.plain.opened ≤ z.len) (sym same.0) h.pass_covers;
  close_covers = subst (λ (z : NumberSetValue). s.plain.opened ≤ z.len) (sym same.1) h.close_covers;
  want_covers = let len = same.3 in omega (arith, len, h.want_covers);
  live_covers = subst (λ (z : NumberSetValue). s.plain.opened ≤ z.len) (sym same.2) h.live_covers;
  still = subst (λ z. HoldsBeside z IsStill s) (sym same.0) h.still;
  settled = subst (λ z. HoldsBeside z IsSettled s) (sym same.1) h.settled;
  gone = subst (λ z. HoldsBeside z IsGone s) (sym same.2) h.gone;
}

-- a table with the same rows says the same
pub named-rows : (l : Agenda) (t : Naming) (new : WantsValue) (s : State) → RowsStay t.table new → IsNamed l t s →
    IsNamed l (record t { table = new }) s
named-rows l t new s r h = record {
  links = subst (λ n. n ≤ s.plain.opened) (sym r.links) h.links;
  named = λ k lt out. rows (h.named k lt out);
}
  where
    says : (e : SideId) → WouldSayOf t s e → WouldSayOf (record t { table = new }) s e
    says e x = (ap (λ f. f (number e)) r.reads ∙ x.0, ap (λ f. f (number e)) r.writes ∙ x.1)

    rows : {k : ℕ} → IsNamedRight t s k → IsNamedRight (record t { table = new }) s k
    rows {k = k} right =
        (subst (λ n. k < n) (sym r.links) right.0, says (in_side k) right.1, says (out_side k) right.2, right.3)
