-- Lists of calls on groups: where they part, and what one call more tells.
use Rattle.std.proofs.Common.{◌≡◌, ◌∙◌, inl, inr, ℕ, List, [], ◌∷◌, ◌++◌, Option, Some, None, refl, sym, ap, append_assoc, append-nil}
use Rattle.std.specs.Prelude.{◌⊎◌, filter_map, Ok}
use Rattle.std.specs.List.{last_or, cons_option}
use Rattle.std.specs.Option.{option_flatten, option_or}
use Rattle.std.proofs.lemmas.List.Elements.{filter_map-append}
use Rattle.token_bucket.specs.declared.limit.Dir.{Dir}
use Rattle.rate_group.specs.GroupsCalls.{GroupsCall}
use Rattle.rate_group.specs.ToldByCalls.{goes_by, group_by_calls, beat_behind, beats_behind, Making, calls_with, IsMade}

-- Where a list ends

-- the last item behind which another list begins is that list's first one, or it stands in what follows that one
abbrev pub EndsBehind : {A : Type 0} → List A → A → List A → A → List A → Type 0
EndsBehind {A} xs x ys y zs =
    ((xs ≡ ys) × (x ≡ y) × (zs ≡ [])) ⊎ ((front : List A) × (zs ≡ front ++ x ∷ []) × (xs ≡ ys ++ y ∷ front))

pub ends-behind : {A : Type 0} → (xs : List A) (x : A) (ys : List A) (y : A) (zs : List A) → xs ++ x ∷ [] ≡ ys ++ y ∷ zs →
    EndsBehind xs x ys y zs
ends-behind [] x [] y zs h = inl (refl, cc, cc)
ends-behind [] x (u ∷ []) y zs h = absurd (cc)
ends-behind [] x (u ∷ v ∷ ys) y zs h = absurd (cc)
ends-behind (w ∷ xs) x [] y zs h = let e : w ≡ y = cc in let r : zs ≡ xs ++ x ∷ [] = cc in inr (xs, r, λ i. e i ∷ xs)
ends-behind {A} (w ∷ xs) x (u ∷ ys) y zs h =
    let e : w ≡ u = cc in
    let r : xs ++ x ∷ [] ≡ ys ++ y ∷ zs = cc in
    elim (ends-behind xs x ys y zs r) [
      | inl k ↦ inl ((λ i. e i ∷ k.0 i), k.1, k.2)
      | inr k ↦ inr (k.0, k.1, λ i. e i ∷ k.2 i)
    ]

-- the second of two lists is empty, or it has the last item
pub ends-in : {A : Type 0} → (xs : List A) (x : A) (ys zs : List A) → xs ++ x ∷ [] ≡ ys ++ zs →
    ((zs ≡ []) × (ys ≡ xs ++ x ∷ [])) ⊎ ((front : List A) × (zs ≡ front ++ x ∷ []) × (xs ≡ ys ++ front))
ends-in xs x ys [] h = inl (refl, sym (append-nil ys) ∙ sym h)
ends-in xs x ys (z ∷ zs) h = elim (ends-behind xs x ys z zs h) [
  | inl k ↦ inr ([], (λ i. sym k.1 i ∷ k.2 i), k.0 ∙ sym (append-nil ys))
  | inr k ↦ inr (z ∷ k.0, (λ i. z ∷ k.1 i), k.2)
]

-- Members

last-more : {A : Type 0} → (o : Option A) (xs : List A) (t : Option A) → last_or o (xs ++ cons_option t []) ≡ option_or t (last_or o xs)
last-more o [] None = refl
last-more o [] (Some a) = refl
last-more o (x ∷ xs) t = last-more (Some x) xs t

-- where a member is after a call that took it there, or nowhere
abbrev pub now_in : Option (Option ℕ) → Option ℕ → Option ℕ
now_in None was = was
now_in (Some to) was = to

pub group-more : (m : ℕ) (cs : List GroupsCall) (c : GroupsCall) →
    group_by_calls m (cs ++ c ∷ []) ≡ now_in (goes_by m c) (group_by_calls m cs)
group-more m cs c =
    ap (λ z. option_flatten (last_or None z)) (filter_map-append (goes_by m) cs (c ∷ []))
    ∙ ap option_flatten (last-more None (filter_map (goes_by m) cs) (goes_by m c))
    ∙ flat (goes_by m c) (last_or None (filter_map (goes_by m) cs))
  where
    flat : (t was : Option (Option ℕ)) → option_flatten (option_or t was) ≡ now_in t (option_flatten was)
    flat None was = refl
    flat (Some to) was = refl

-- What calls are to a group's bucket

cons-append : {A : Type 0} → (t : Option A) (xs ys : List A) → cons_option t (xs ++ ys) ≡ cons_option t xs ++ ys
cons-append None xs ys = refl
cons-append (Some x) xs ys = refl

pub beats-more : (n : ℕ) (d : Dir) (before cs : List GroupsCall) (c : GroupsCall) →
    beats_behind n d before (cs ++ c ∷ []) ≡ beats_behind n d before cs ++ cons_option (beat_behind n d (before ++ cs) c) []
beats-more n d before [] c = λ i. cons_option (beat_behind n d (sym (append-nil before) i) c) []
beats-more n d before (e ∷ cs) c =
    ap (cons_option (beat_behind n d before e)) (beats-more n d (before ++ e ∷ []) cs c)
    ∙ cons-append (beat_behind n d before e) (beats_behind n d (before ++ e ∷ []) cs) _
    ∙ (λ i. beats_behind n d before (e ∷ cs) ++ cons_option (beat_behind n d (append_assoc before (e ∷ []) cs i) c) [])

-- The making of a group

pub calls-more : (g : Making) (since : List GroupsCall) (c : GroupsCall) → calls_with g since ++ c ∷ [] ≡ calls_with g (since ++ c ∷ [])
calls-more g since c = append_assoc g.before (GroupsCall.NewGroup g.cfg g.share g.moment (Ok g.number) ∷ since) (c ∷ [])

pub calls-from : (g : Making) (since : List GroupsCall) → calls_with g [] ++ since ≡ calls_with g since
calls-from g since = append_assoc g.before (GroupsCall.NewGroup g.cfg g.share g.moment (Ok g.number) ∷ []) since

pub made-more : (n : ℕ) (cs : List GroupsCall) (c : GroupsCall) → IsMade n cs → IsMade n (cs ++ c ∷ [])
made-more n cs c h = (h.0, h.1 ++ c ∷ [], h.2, ap (λ z. z ++ c ∷ []) h.3 ∙ calls-more h.0 h.1 c)
