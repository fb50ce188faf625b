-- The free of a bufferevent, and of those under it.
use Rattle.std.proofs.Common.{◌≡◌, ◌≢◌, ℕ, zero, suc, ◌<◌, Bool, true, false, not, ◌&&◌, if◌then◌else◌, List, [], ◌∷◌, ◌++◌, length, Option}
use Rattle.std.proofs.Common.{Some, None, refl, sym, ◌∙◌, ap, subst, arith, inl, inr}
use Rattle.std.specs.Prelude.{IfSome, filter, slice_index_or, nat_eq, nat_lt}
use Rattle.std.proofs.lemmas.List.{get_or-set_same, get_or-set_other, length-set}
use Rattle.std.proofs.lemmas.Bool.Decides.{eqb_tells, leb_tells}
use Rattle.bev_core.specs.Steps.{freed}
use Rattle.bev_world.specs.declared.slot.Kind.{Kind}
use Rattle.bev_world.specs.declared.slot.Kind.TheVariants as kind
use Rattle.bev_world.specs.declared.slot.Slot.{Slot}
use Rattle.bev_world.specs.WorldValue.{WorldValue, no_slot, slot_at, bev_at, is_live, is_freed}
use Rattle.bev_world.specs.Went.{StillDue, Went, went_away}
use Rattle.bev_world.proofs.StillDueLemmas.{still-same}
use Rattle.bev_world.specs.Frees.{live_below, live_under, freed_one, FreesTo}
use Rattle.bev_world.proofs.WentLemmas.{went_none, went_then}

-- one more is freed
pub frees_more : (first : Option ℕ) (ns : List ℕ) (w mid : WorldValue) (n : ℕ) → FreesTo first ns w (Some n) mid → is_live mid n ≡ true →
    FreesTo first (ns ++ n ∷ []) w (live_under (freed_one mid n) n) (freed_one mid n)
frees_more first [] w mid n h live =
    (sym h.0, subst (λ z. is_live z n ≡ true) h.1 live, (ap (λ z. live_under (freed_one z n) n) h.1, ap (λ z. freed_one z n) h.1))
frees_more first (m ∷ ns) w mid n h live = (h.0, h.1, frees_more _ ns (freed_one w m) mid n h.2 live)

-- the one under it that is next is live
pub live_next : (w : WorldValue) (k : Kind) → IfSome (live_below w k) (λ n. is_live w n ≡ true)
live_next w kind.Socket = tt
live_next w (kind.Half other) = tt
live_next w (kind.Filter under) = go (is_live w under) refl
  where
    go : (b : Bool) → is_live w under ≡ b → IfSome (if b then Some under else None) (λ n. is_live w n ≡ true)
    go true e = e
    go false e = tt

-- One more in the loop of a free: the next was there, it was freed, and another is next.
pub frees_then : (n : ℕ) (ns : List ℕ) (w : WorldValue) (next then_next : Option ℕ) (mid new : WorldValue) (m : ℕ) →
    FreesTo (Some n) ns w next mid → IfSome next (λ k. is_live mid k ≡ true) → next ≡ Some m → new ≡ freed_one mid m →
    then_next ≡ live_under new m →
    record { chain : List ℕ; frees : FreesTo (Some n) chain w then_next new; live : IfSome then_next (λ k. is_live new k ≡ true) }
frees_then n ns w next then_next mid new m h live there after under =
    let alive : is_live mid m ≡ true = subst (λ o. IfSome o (λ k. is_live mid k ≡ true)) there live in
    let more = frees_more (Some n) ns w mid m (subst (λ o. FreesTo (Some n) ns w o mid) there h) alive in
    let named : then_next ≡ live_under (freed_one mid m) m = under ∙ ap (λ v. live_under v m) after in record {
      chain = ns ++ m ∷ [];
      frees = subst (λ o. FreesTo (Some n) (ns ++ m ∷ []) w o new) (sym named)
          (subst (FreesTo (Some n) (ns ++ m ∷ []) w (live_under (freed_one mid m) m)) (sym after) more);
      live = subst (λ o. IfSome o (λ k. is_live new k ≡ true)) (sym under) (live_next new (slot_at new m).kind);
    }

-- who is live was made
pub live_within : (ss : List Slot) (n : ℕ) → (slice_index_or ss n no_slot).bev.live ≡ true → n < length ss
live_within [] n h = absurd (cc)
live_within (s ∷ ss) zero h = omega arith
live_within (s ∷ ss) (suc n) h = let k = live_within ss n h in omega (arith, k)

-- the slots but for one
module _ (w : WorldValue) (n : ℕ) (live : is_live w n ≡ true) where
  within : n < length w.slots
  within = live_within w.slots n live

  abbrev gone : Slot
  gone = record (slot_at w n) { bev = freed (bev_at w n); room = 0 }

  other : (m : ℕ) → m ≢ n → slot_at (freed_one w n) m ≡ slot_at w m
  other m apart = get_or-set_other w.slots n m gone no_slot apart

  this : slot_at (freed_one w n) n ≡ gone
  this = get_or-set_same w.slots n gone no_slot within

  many : length (freed_one w n).slots ≡ length w.slots
  many = length-set w.slots n gone

  is_here : is_freed (freed_one w n) n ≡ true
  is_here = (let a = ap (nat_lt n) many in let b = ap (λ s. not s.bev.live) this in λ i. a i && b i) ∙ ap (λ b. b && true) (made within)
    where
      made : n < length w.slots → nat_lt n (length w.slots) ≡ true
      made h = elim (leb_tells (suc n) (length w.slots)) [
        | inl less ↦ less.0
        | inr past ↦ absurd (omega (arith, h, past.1))
      ]

  is_there : (m : ℕ) → m ≢ n → is_freed (freed_one w n) m ≡ is_freed w m
  is_there m apart = (let a = ap (nat_lt m) many in let b = ap (λ s. not s.bev.live) (other m apart) in λ i. a i && b i)

  was_live : is_freed w n ≡ false
  was_live = ap (λ b. nat_lt n (length w.slots) && not b) live ∙ none (nat_lt n (length w.slots))
    where
      none : (b : Bool) → (b && false) ≡ false
      none true = refl
      none false = refl

  -- those that were freed in between are this one
  away : (m : ℕ) → not (went_away w (freed_one w n) m) ≡ not (nat_eq n m)
  away m = elim (eqb_tells n m) [
    | inl same ↦ here same.0 same.1
    | inr apart ↦ there apart.0 (λ e. apart.1 (sym e))
  ]
    where
      here : nat_eq n m ≡ true → n ≡ m → not (went_away w (freed_one w n) m) ≡ not (nat_eq n m)
      here b e =
          ap (λ k. not (is_freed (freed_one w n) k && not (is_freed w k))) (sym e)
          ∙ (let p = is_here in let q = was_live in λ i. not (p i && not (q i))) ∙ ap not (sym b)

      there : nat_eq n m ≡ false → m ≢ n → not (went_away w (freed_one w n) m) ≡ not (nat_eq n m)
      there b apart = ap (λ t. not (t && not (is_freed w m))) (is_there m apart) ∙ ap not (both (is_freed w m) ∙ sym b)
        where
          both : (t : Bool) → (t && not t) ≡ false
          both true = refl
          both false = refl

  pub went_freed : Went w (freed_one w n)
  went_freed = record {
    known = omega (arith, many);
    kinds = λ m lt. kind m;
    freed = λ m h. stays m h;
    batch = same_filter w.batch;
    pending = subst (λ es. StillDue es (filter (λ e. not (nat_eq n e.0)) w.pending)) (same_filter w.pending)
        (still-same (filter (λ e. not (nat_eq n e.0)) w.pending));
    cut = refl;
  }
    where
      kind : (m : ℕ) → (slot_at (freed_one w n) m).kind ≡ (slot_at w m).kind
      kind m = elim (eqb_tells m n) [
        | inl same ↦ ap (λ k. (slot_at (freed_one w n) k).kind) same.1 ∙ ap (λ s. s.kind) this ∙ ap (λ k. (slot_at w k).kind) (sym same.1)
        | inr apart ↦ ap (λ s. s.kind) (other m apart.1)
      ]

      stays : (m : ℕ) → is_freed w m ≡ true → is_freed (freed_one w n) m ≡ true
      stays m h = elim (eqb_tells m n) [
        | inl same ↦ ap (is_freed (freed_one w n)) same.1 ∙ is_here
        | inr apart ↦ is_there m apart.1 ∙ h
      ]

      same_filter : {Y : Type 0} (cs : List (ℕ × Y))
          → filter (λ call. not (nat_eq n call.0)) cs ≡ filter (λ call. not (went_away w (freed_one w n) call.0)) cs
      same_filter [] = refl
      same_filter (c ∷ cs) = (let a = sym (away c.0) in let r = same_filter cs in λ i. if a i then c ∷ r i else r i)

-- what was freed went so
pub went_frees : (first : Option ℕ) (ns : List ℕ) (w : WorldValue) (next : Option ℕ) (new : WorldValue) → FreesTo first ns w next new →
    Went w new
went_frees first [] w next new h = subst (Went w) (sym h.1) (went_none w)
went_frees first (n ∷ ns) w next new h = went_then w (freed_one w n) new (went_freed w n h.1) (went_frees _ ns (freed_one w n) next new h.2)

-- a free changes nothing of the room for more
pub spare_frees : (first : Option ℕ) (ns : List ℕ) (w : WorldValue) (next : Option ℕ) (new : WorldValue) → FreesTo first ns w next new →
    new.spare ≡ w.spare
spare_frees first [] w next new h = ap (λ (v : WorldValue). v.spare) h.1
spare_frees first (n ∷ ns) w next new h = spare_frees _ ns (freed_one w n) next new h.2
