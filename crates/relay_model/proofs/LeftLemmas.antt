-- What closing has still to look at, each thing for itself, and that between turns nothing is left.
use Rattle.std.proofs.Common.{eq-eqb, ◌≡◌, ℕ, zero, suc, ◌+◌, ◌<◌, ◌≤◌, Bool, true, false, ◌&&◌, ◌||◌, not, ◌==◌, List, [], ◌∷◌, None, ◌⊎◌}
use Rattle.std.proofs.Common.{inl, inr, refl, sym, ◌∙◌, ap, arith}
use Rattle.std.specs.Prelude.{⊤}
use Rattle.std.specs.List.{list_any}
use Rattle.std.proofs.lemmas.Bool.{and_from, or_left, or_right, eqb-true, cases_order}
use Rattle.ev_types.specs.declared.side.Side.{Side}
use Rattle.ev_types.specs.declared.side.Side.TheVariants.{In, Out}
use Rattle.ev_types.specs.declared.side.SideId.{SideId}
use Rattle.ev_types.specs.declared.entry.Entry.{Entry}
use Rattle.ev_types.specs.Sides.{same_end, peer}
use Rattle.ev_types.specs.Trace.{Trace}
use Rattle.relay_model.specs.Settings.{Settings}
use Rattle.relay_model.specs.Plain.{Plain, side_at, is_live}
use Rattle.relay_model.specs.Past.{Past, past}
use Rattle.relay_model.specs.Rooms.{output_length}
use Rattle.relay_model.specs.Close.{CloseStep, closing_of, closing_from, freed_entry, entry_where, closing_entry, is_complete}
use Rattle.relay_model.specs.Stages.{Stage, State, Between, Closing}
use Rattle.relay_model.proofs.EndLemmas.{peer-peer, same_end-eq, same_end-refl}
use Rattle.std.proofs.lemmas.List.Folds.{list_any-append}
use Rattle.relay_model.proofs.FireLemmas.{is_open_stage, QuietKind}
use Rattle.relay_model.proofs.FaultLemmas.{rest}
use Rattle.ev_types.specs.declared.why.Cause.TheVariants as cause
use Rattle.ev_types.specs.declared.entry.Entry.TheVariants as entry

-- Which step is which

abbrev pub shuts : SideId → CloseStep → Bool
shuts e (CloseStep.Shut z) = same_end z e
shuts e _ = false

abbrev pub leaves : SideId → CloseStep → Bool
leaves e (CloseStep.PeerGone z) = same_end z e
leaves e _ = false

abbrev pub ends : SideId → CloseStep → Bool
ends e (CloseStep.EndWriting z) = same_end z e
ends e _ = false

abbrev pub joins : ℕ → CloseStep → Bool
joins k (CloseStep.BothDone n) = n == k
joins k _ = false

abbrev pub Has : (CloseStep → Bool) → List CloseStep → Type 0
Has p cs = list_any p cs ≡ true

abbrev pub in_of : ℕ → SideId
in_of k = record { link = k; side = In }

abbrev pub out_of : ℕ → SideId
out_of k = record { link = k; side = Out }

-- behind a step stand those for which it makes way
abbrev pub Needs : CloseStep → List CloseStep → Type 0
Needs (CloseStep.Faulty z) cs = Has (shuts z) cs × Has (leaves (peer z)) cs
Needs (CloseStep.EndWriting z) cs = Has (joins z.link) cs
Needs (CloseStep.BothDone k) cs = Has (shuts (in_of k)) cs × Has (leaves (out_of k)) cs × Has (shuts (out_of k)) cs
Needs (CloseStep.OutDone k) cs = Has (shuts (out_of k)) cs
Needs (CloseStep.PeerGone z) cs = Has (shuts z) cs
Needs (CloseStep.Shut z) cs = ⊤

abbrev pub Followed : List CloseStep → Type 0
Followed [] = ⊤
Followed (c ∷ cs) = Needs c cs × Followed cs

closing-followed : (k left : ℕ) → Followed (closing_from k left)
closing-followed k zero = tt
closing-followed k (suc left) =
    let i = same_end-refl (in_of k) in
    let o = same_end-refl (out_of k) in
    let b = eq-eqb k k refl in
    let shut_in : (rest : Bool) → (same_end (in_of k) (in_of k) || rest) ≡ true = λ rest. or_left (same_end (in_of k) (in_of k)) rest i in
    let shut_out : (first rest : Bool) → (first || (same_end (out_of k) (out_of k) || rest)) ≡ true =
    λ first rest. or_right first (same_end (out_of k) (out_of k) || rest) (or_left (same_end (out_of k) (out_of k)) rest o) in
    let out_first : (rest : Bool) → (same_end (out_of k) (out_of k) || rest) ≡ true = λ rest. or_left
    (same_end (out_of k) (out_of k)) rest o in
    let join : (rest : Bool) → ((k == k) || rest) ≡ true = λ rest. or_left (k == k) rest b in (
      (shut_in _, shut_out _ _),
      (
        (shut_out _ _, shut_in _),
        (
          join _,
          (
            join _,
            (
              (shut_in _, shut_out _ _, shut_out _ _),
              (
                shut_in _,
                (
                  shut_out _ _,
                  (
                    tt,
                    (tt, closing-followed (k + 1) left),
                  ),
                ),
              ),
            ),
          ),
        ),
      ),
    )

-- what closing of a link looks at stands in the whole list
found : (p : CloseStep → Bool) (n k left : ℕ) → Has p (closing_of n) → k ≤ n → n < k + left → Has p (closing_from k left)
found p n k zero h ge lt = absurd (omega arith)
found p n k (suc left) h ge lt = go (cases_order k n) (λ l. found p n (k + 1) left h (omega arith) (omega arith))
  where
    go : (k ≡ n) ⊎ ((k < n) ⊎ (n < k)) → (k < n → Has p (closing_from (k + 1) left)) → Has p (closing_from k (suc left))
    go (inl same) later = list_any-append p (closing_of k) (closing_from (k + 1) left) ∙ or_left (list_any p (closing_of k)) _
        (ap (λ v. list_any p (closing_of v)) same ∙ h)
    go (inr (inl l)) later = list_any-append p (closing_of k) (closing_from (k + 1) left) ∙ or_right (list_any p (closing_of k)) _ (later l)
    go (inr (inr g)) later = absurd (omega arith)

-- a side is one of the two of its link
pub in-or-out : (e : SideId) → (e ≡ in_of e.link) ⊎ (e ≡ out_of e.link)
in-or-out e = go e.side refl
  where
    go : (z : Side) → e.side ≡ z → (e ≡ in_of e.link) ⊎ (e ≡ out_of e.link)
    go In z = inl (λ i. record { link = e.link; side = z i })
    go Out z = inr (λ i. record { link = e.link; side = z i })

of-link : (q : SideId → CloseStep → Bool) (k : ℕ) → Has (q (in_of k)) (closing_of k) → Has (q (out_of k)) (closing_of k) →
    (e : SideId) → e.link ≡ k → Has (q e) (closing_of k)
of-link q k a b e same = go (in-or-out e)
  where
    go : (e ≡ in_of e.link) ⊎ (e ≡ out_of e.link) → Has (q e) (closing_of k)
    go (inl h) = ap (λ v. list_any (q v) (closing_of k)) (h ∙ ap in_of same) ∙ a
    go (inr h) = ap (λ v. list_any (q v) (closing_of k)) (h ∙ ap out_of same) ∙ b

all-shut : (e : SideId) → Has (shuts e) (closing_of e.link)
all-shut e =
    of-link shuts e.link (or_left (same_end (in_of e.link) (in_of e.link)) _ (same_end-refl (in_of e.link)))
    (or_right (same_end (in_of e.link) (out_of e.link)) _ (or_left (same_end (out_of e.link) (out_of e.link)) _
    (same_end-refl (out_of e.link)))) e refl

all-leave : (e : SideId) → Has (leaves e) (closing_of e.link)
all-leave e =
    of-link leaves e.link (or_left (same_end (in_of e.link) (in_of e.link)) _ (same_end-refl (in_of e.link)))
    (or_right (same_end (in_of e.link) (out_of e.link)) _ (or_left (same_end (out_of e.link) (out_of e.link)) _
    (same_end-refl (out_of e.link)))) e refl

all-end : (e : SideId) → Has (ends e) (closing_of e.link)
all-end e =
    of-link ends e.link (or_right (same_end (out_of e.link) (in_of e.link)) _ (or_left (same_end (in_of e.link) (in_of e.link)) _
    (same_end-refl (in_of e.link))))
    (or_left (same_end (out_of e.link) (out_of e.link)) _ (same_end-refl (out_of e.link))) e refl

all-join : (k : ℕ) → Has (joins k) (closing_of k)
all-join k = or_left (k == k) _ (eq-eqb k k refl)

-- What is left to look at, by the steps that are left

pub record Left (g : Settings) (t : Trace) (cs : List CloseStep) (s : Plain) (e : SideId) : Type 0 where
  pub shut : is_live s e ≡ false → (side_at s e).closed ≡ false → Has (shuts e) cs
  pub gone : is_live s e ≡ true → is_live s (peer e) ≡ false → output_length g (past g t) s e ≡ 0 → Has (leaves e) cs
  pub done : is_live s e ≡ true → is_live s (peer e) ≡ true → (side_at s e).write_ended ≡ true → (side_at s (peer e)).write_ended ≡
      true → Has (joins e.link) cs
  pub writing : is_live s e ≡ true → is_live s (peer e) ≡ true → is_complete g (past g t) s (peer e) ≡ true →
      (side_at s e).connecting ≡ false → (side_at s e).write_ended ≡ false → Has (ends e) cs

abbrev pub AllLeft : Settings → Trace → List CloseStep → Plain → Type 0
AllLeft g t cs s = (e : SideId) → e.link < s.opened → Left g t cs s e

abbrev pub Lefts : Settings → Trace → Stage → Plain → Type 0
Lefts g t Between s = AllLeft g t [] s
Lefts g t (Closing cs) s = Followed cs × AllLeft g t cs s
Lefts g t _ s = ⊤

pub open-left : (g : Settings) (t : Trace) (x : Stage) (s : Plain) → is_open_stage x ≡ true → Lefts g t x s
open-left g t Between s h = absurd (cc)
open-left g t (Closing cs) s h = absurd (cc)
open-left g t _ s h = tt

-- a step that closing doesn't call for is none of those that are waited for
where-none : (b : Bool) (y : Entry) → entry_where b y ≡ None → b ≡ true → ⊥
where-none true y h k = cc
where-none false y h k = cc

looked-left : (g : Settings) (t : Trace) (s : Plain) (c : CloseStep) (cs : List CloseStep) (e : SideId) → closing_entry g
    (past g t) s c ≡ None → Left g t (c ∷ cs) s e → Left g t cs s e
looked-left g t s c cs e none h = record {
  shut = λ a b. rest (shuts e c) _ (no_shut c none a b (shuts e c) refl) (h.shut a b);
  gone = λ a b d. rest (leaves e c) _ (no_gone c none a b d (leaves e c) refl) (h.gone a b d);
  done = λ a b d f. rest (joins e.link c) _ (no_done c none a b d f (joins e.link c) refl) (h.done a b d f);
  writing = λ a b d f i. rest (ends e c) _ (no_end c none a b d f i (ends e c) refl) (h.writing a b d f i);
}
  where
    p : Past
    p = past g t

    no_shut : (c : CloseStep) → closing_entry g p s c ≡ None → is_live s e ≡ false → (side_at s e).closed ≡ false → (q : Bool) →
        shuts e c ≡ q → shuts e c ≡ false
    no_shut c n a b false q = q
    no_shut (CloseStep.Shut z) n a b true q = absurd (
        let same = same_end-eq z e q in
        where-none (not (is_live s z) && not (side_at s z).closed) (entry.Close z) n
        (ap (λ v. not (is_live s v) && not (side_at s v).closed) same ∙ and_from (not (is_live s e)) (not (side_at s e).closed)
        (ap not a) (ap not b)))
    no_shut (CloseStep.Faulty z) n a b true q = absurd (cc)
    no_shut (CloseStep.EndWriting z) n a b true q = absurd (cc)
    no_shut (CloseStep.BothDone z) n a b true q = absurd (cc)
    no_shut (CloseStep.OutDone z) n a b true q = absurd (cc)
    no_shut (CloseStep.PeerGone z) n a b true q = absurd (cc)

    no_gone : (c : CloseStep) → closing_entry g p s c ≡ None → is_live s e ≡ true → is_live s (peer e) ≡ false → output_length g p
        s e ≡ 0 → (q : Bool) → leaves e c ≡ q → leaves e c ≡ false
    no_gone c n a b d false q = q
    no_gone (CloseStep.PeerGone z) n a b d true q = absurd (
        let same = same_end-eq z e q in
        where-none (is_live s z && not (is_live s (peer z)) && output_length g p s z == 0) (freed_entry s z cause.PeerGone) n
        (ap (λ v. is_live s v && not (is_live s (peer v)) && output_length g p s v == 0) same
        ∙ and_from (is_live s e && not (is_live s (peer e))) (output_length g p s e == 0) (and_from (is_live s e)
        (not (is_live s (peer e))) a (ap not b)) (eq-eqb (output_length g p s e) 0 d)))
    no_gone (CloseStep.Faulty z) n a b d true q = absurd (cc)
    no_gone (CloseStep.EndWriting z) n a b d true q = absurd (cc)
    no_gone (CloseStep.BothDone z) n a b d true q = absurd (cc)
    no_gone (CloseStep.OutDone z) n a b d true q = absurd (cc)
    no_gone (CloseStep.Shut z) n a b d true q = absurd (cc)

    both : (i : SideId) → is_live s i ≡ true → is_live s (peer i) ≡ true → (side_at s i).write_ended ≡ true →
        (side_at s (peer i)).write_ended ≡ true →
        (is_live s i && is_live s (peer i) && (side_at s i).write_ended && (side_at s (peer i)).write_ended) ≡ true
    both i a b d f =
        and_from (is_live s i && is_live s (peer i) && (side_at s i).write_ended) (side_at s (peer i)).write_ended
        (and_from (is_live s i && is_live s (peer i)) (side_at s i).write_ended (and_from (is_live s i) (is_live s (peer i)) a b) d) f

    all : is_live s e ≡ true → is_live s (peer e) ≡ true → (side_at s e).write_ended ≡ true → (side_at s (peer e)).write_ended ≡
        true → (e ≡ in_of e.link) ⊎ (e ≡ out_of e.link) →
        (let i = in_of e.link in (is_live s i && is_live s (peer i) && (side_at s i).write_ended &&
        (side_at s (peer i)).write_ended) ≡ true)
    all a b d f (inl same) = ap (λ i. is_live s i && is_live s (peer i) && (side_at s i).write_ended &&
        (side_at s (peer i)).write_ended) (sym same) ∙ both e a b d f
    all a b d f (inr same) =
        let other : peer e ≡ in_of e.link = ap peer same in
        ap (λ i. is_live s i && is_live s (peer i) && (side_at s i).write_ended && (side_at s (peer i)).write_ended) (sym other)
        ∙ both (peer e) b (ap (λ v. is_live s v) (peer-peer e) ∙ a) f (ap (λ v. (side_at s v).write_ended) (peer-peer e) ∙ d)

    no_done : (c : CloseStep) → closing_entry g p s c ≡ None → is_live s e ≡ true → is_live s (peer e) ≡ true →
        (side_at s e).write_ended ≡ true → (side_at s (peer e)).write_ended ≡ true →
        (q : Bool) → joins e.link c ≡ q → joins e.link c ≡ false
    no_done c n a b d f false q = q
    no_done (CloseStep.BothDone k) n a b d f true q = absurd (
        let same : k ≡ e.link = eqb-true k e.link q in
        let i = in_of k in
        where-none (is_live s i && is_live s (peer i) && (side_at s i).write_ended && (side_at s (peer i)).write_ended)
        (freed_entry s i cause.Done) n
        (ap (λ v. (is_live s (in_of v) && is_live s (peer (in_of v)) && (side_at s (in_of v)).write_ended &&
        (side_at s (peer (in_of v))).write_ended)) same ∙ all a b d f (in-or-out e)))
    no_done (CloseStep.Faulty z) n a b d f true q = absurd (cc)
    no_done (CloseStep.EndWriting z) n a b d f true q = absurd (cc)
    no_done (CloseStep.OutDone z) n a b d f true q = absurd (cc)
    no_done (CloseStep.PeerGone z) n a b d f true q = absurd (cc)
    no_done (CloseStep.Shut z) n a b d f true q = absurd (cc)

    no_end : (c : CloseStep) → closing_entry g p s c ≡ None → is_live s e ≡ true → is_live s (peer e) ≡ true → is_complete g p s
        (peer e) ≡ true → (side_at s e).connecting ≡ false → (side_at s e).write_ended ≡ false →
        (q : Bool) → ends e c ≡ q → ends e c ≡ false
    no_end c n a b d f i false q = q
    no_end (CloseStep.EndWriting z) n a b d f i true q = absurd (
        let same = same_end-eq z e q in
        let x = side_at s e in
        where-none ((side_at s z).live && is_live s (peer z) && is_complete g p s (peer z) && not (side_at s z).connecting && not
        (side_at s z).write_ended) (entry.CloseWrite z) n
        (ap (λ v. (side_at s v).live && is_live s (peer v) && is_complete g p s (peer v) && not (side_at s v).connecting && not
        (side_at s v).write_ended) same
        ∙ and_from (x.live && is_live s (peer e) && is_complete g p s (peer e) && not x.connecting) (not x.write_ended)
        (and_from (x.live && is_live s (peer e) && is_complete g p s (peer e)) (not x.connecting)
        (and_from (x.live && is_live s (peer e)) (is_complete g p s (peer e)) (and_from x.live (is_live s (peer e)) a b) d)
        (ap not f)) (ap not i)))
    no_end (CloseStep.Faulty z) n a b d f i true q = absurd (cc)
    no_end (CloseStep.BothDone z) n a b d f i true q = absurd (cc)
    no_end (CloseStep.OutDone z) n a b d f i true q = absurd (cc)
    no_end (CloseStep.PeerGone z) n a b d f i true q = absurd (cc)
    no_end (CloseStep.Shut z) n a b d f i true q = absurd (cc)

pub quiet-left : (g : Settings) (t : Trace) (s : Plain) (x : Stage) (new : State) → Lefts g t x s → QuietKind g t s x new → Lefts g
    t new.stage new.plain
quiet-left g t s x new h (QuietKind.moved next a) = open-left g t next s a
quiet-left g t s x new h (QuietKind.filtered) = tt
quiet-left g t s x new h (QuietKind.dispatched) = tt
quiet-left g t s x new h (QuietKind.passed) = tt
quiet-left g t s x new h (QuietKind.closes) = (
  closing-followed 0 s.opened,
  λ e lt. record {
    shut = λ a b. found (shuts e) e.link 0 s.opened (all-shut e) (omega arith) (omega arith);
    gone = λ a b d. found (leaves e) e.link 0 s.opened (all-leave e) (omega arith) (omega arith);
    done = λ a b d f. found (joins e.link) e.link 0 s.opened (all-join e.link) (omega arith) (omega arith);
    writing = λ a b d f i. found (ends e) e.link 0 s.opened (all-end e) (omega arith) (omega arith);
  },
)
quiet-left g t s x new h (QuietKind.looked {c = c} {cs = cs} a) = (h.0.1, λ e lt. looked-left g t s c cs e a (h.1 e lt))
quiet-left g t s x new h (QuietKind.over) = h.1
