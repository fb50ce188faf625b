-- Room for a pending entry of every bufferevent.
use Rattle.std.proofs.Common.{◌≡◌, ◌≢◌, ℕ, zero, suc, ◌+◌, ◌≤◌, ◌<◌, Bool, true, false, not, ◌&&◌, ◌||◌, if◌then◌else◌, List, [], ◌∷◌}
use Rattle.std.proofs.Common.{length, refl, sym, ◌∙◌, ap, arith, inl, inr}
use Rattle.std.specs.Prelude.{nat_eq}
use Rattle.std.proofs.lemmas.Bool.Decides.{eqb_tells, leb_tells, nat_tests}
use Rattle.ev_types.specs.declared.why.Why.{Why}
use Rattle.deferred_cb.specs.DueCalls.{Entry, joined, with_reason, has_entry, without}
use Rattle.bev_world.specs.WorldView.{lacking}

or-twice : (x y : Bool) → (x || y) ≡ (x || (x || y))
or-twice true y = refl
or-twice false y = refl

or-swap : (x y z : Bool) → (x || (y || z)) ≡ (y || (x || z))
or-swap true true z = refl
or-swap true false z = refl
or-swap false y z = refl

pub eq-itself : (n : ℕ) → nat_eq n n ≡ true
eq-itself n = grind (arith, nat_tests)

pub eq-apart : (m n : ℕ) → m ≢ n → nat_eq m n ≡ false
eq-apart m n apart = grind (arith, nat_tests, apart)

-- Numbers that are so

-- one more that is so: it is no more lacking
module _ (was now : ℕ → Bool) (n : ℕ) (more : (m : ℕ) → now m ≡ (nat_eq m n || was m)) where
  other : (m : ℕ) → m ≢ n → now m ≡ was m
  other m apart = more m ∙ ap (λ b. b || was m) (eq-apart m n apart)

  pub more-past : (c : ℕ) → c ≤ n → lacking c now ≡ lacking c was
  more-past zero h = refl
  more-past (suc c) h =
      let rest = more-past c (omega arith) in
      let this = other c (λ e. absurd (omega (arith, e, h))) in
      rw (rest, this)

  pub more-within : (c : ℕ) → n < c → lacking c now + (if was n then 0 else 1) ≡ lacking c was
  more-within zero h = absurd (omega arith)
  more-within (suc c) h = elim (eqb_tells c n) [
    | inl same ↦ at_last same.1
    | inr apart ↦ before apart.1 (more-within c (omega (arith, h, apart.1)))
  ]
    where
      at_last : c ≡ n → lacking (suc c) now + (if was n then 0 else 1) ≡ lacking (suc c) was
      at_last e =
          let rest = more-past c (omega (arith, e)) in
          let is_so : now n ≡ true = more n ∙ ap (λ b. b || was n) (eq-itself n) in
          let here : now c ≡ true = ap now e ∙ is_so in
          let there : ◌≡◌ {A = ℕ} (if was n then 0 else 1) (if was c then 0 else 1) = ap (λ m. if was m then 0 else 1) (sym e) in
          let gone : ◌≡◌ {A = ℕ} (if now c then 0 else 1) 0 = ap (λ b. if b then 0 else 1) here in
          omega (arith, rest, there, gone)

      before : c ≢ n → lacking c now + (if was n then 0 else 1) ≡ lacking c was →
          lacking (suc c) now + (if was n then 0 else 1) ≡ lacking (suc c) was
      before apart rest =
          let this : ◌≡◌ {A = ℕ} (if now c then 0 else 1) (if was c then 0 else 1) = ap (λ b. if b then 0 else 1) (other c apart) in
          omega (arith, rest, this)

  pub more-at-most : (c : ℕ) → lacking c was ≤ lacking c now + 1
  more-at-most c = by_cases (was n) (λ k. more-within c k)
    where
      by_cases : (b : Bool) → (n < c → lacking c now + (if b then 0 else 1) ≡ lacking c was) → lacking c was ≤ lacking c now + 1
      by_cases b h = elim (leb_tells c n) [
        | inl past ↦ let e = more-past c past.1 in omega (arith, e)
        | inr within ↦ bounded b (h (omega (arith, within.1)))
      ]
        where
          bounded : (b : Bool) → lacking c now + (if b then 0 else 1) ≡ lacking c was → lacking c was ≤ lacking c now + 1
          bounded true e = omega (arith, e)
          bounded false e = omega (arith, e)

-- of numbers of which none is so all are lacking
pub lacking-none : (c : ℕ) → lacking c (λ m. false) ≡ c
lacking-none zero = refl
lacking-none (suc c) = let rest = lacking-none c in omega (arith, rest)

pub lacking-at-most : (is_so : ℕ → Bool) (c : ℕ) → lacking c is_so ≤ c
lacking-at-most is_so zero = omega arith
lacking-at-most is_so (suc c) = by_so (is_so c) (lacking-at-most is_so c)
  where
    by_so : (b : Bool) → lacking c is_so ≤ c → lacking c is_so + (if b then 0 else 1) ≤ suc c
    by_so true h = omega (arith, h)
    by_so false h = omega (arith, h)

-- so many numbers more lack no more than all of them
pub lacking-longer : (is_so : ℕ → Bool) (c n : ℕ) → lacking (c + n) is_so ≤ lacking c is_so + n
lacking-longer is_so c zero = let e = ap (λ k. lacking k is_so) (let z : c + 0 ≡ c = omega arith in z) in omega (arith, e)
lacking-longer is_so c (suc n) =
    let e = ap (λ k. lacking k is_so) (let z : c + suc n ≡ suc (c + n) = omega arith in z) in
    let one = by_so (is_so (c + n)) (lacking-longer is_so c n) in
    omega (arith, e, one)
  where
    by_so : (b : Bool) → lacking (c + n) is_so ≤ lacking c is_so + n →
        lacking (c + n) is_so + (if b then 0 else 1) ≤ lacking c is_so + suc n
    by_so true h = omega (arith, h)
    by_so false h = omega (arith, h)

-- the same numbers are so
pub lacking-alike : (a b : ℕ → Bool) → ((m : ℕ) → a m ≡ b m) → (c : ℕ) → lacking c a ≡ lacking c b
lacking-alike a b same zero = refl
lacking-alike a b same (suc c) = let rest = lacking-alike a b same c in let this = same c in rw (rest, this)

-- Entries

pub has-with : (m n : ℕ) (y : Why) (es : List Entry) → has_entry m (with_reason n y es) ≡ (nat_eq m n || has_entry m es)
has-with m n y [] = refl
has-with m n y (e ∷ es) = elim (eqb_tells n e.0) [
  | inl same ↦ found same.0 same.1
  | inr apart ↦ further apart.0 (has-with m n y es)
]
  where
    found : nat_eq n e.0 ≡ true → n ≡ e.0 → has_entry m (with_reason n y (e ∷ es)) ≡ (nat_eq m n || has_entry m (e ∷ es))
    found b k =
        ap (λ t. has_entry m (if t then (e.0, joined e.1 y) ∷ es else e ∷ with_reason n y es)) b
        ∙ or-twice (nat_eq m e.0) (has_entry m es) ∙ ap (λ z. nat_eq m z || (nat_eq m e.0 || has_entry m es)) (sym k)

    further : nat_eq n e.0 ≡ false → has_entry m (with_reason n y es) ≡ (nat_eq m n || has_entry m es) →
        has_entry m (with_reason n y (e ∷ es)) ≡ (nat_eq m n || has_entry m (e ∷ es))
    further b rest =
        ap (λ t. has_entry m (if t then (e.0, joined e.1 y) ∷ es else e ∷ with_reason n y es)) b
        ∙ ap (λ z. nat_eq m e.0 || z) rest ∙ or-swap (nat_eq m e.0) (nat_eq m n) (has_entry m es)

pub length-with : (n : ℕ) (y : Why) (es : List Entry) → length (with_reason n y es) ≡ length es + (if has_entry n es then 0 else 1)
length-with n y [] = refl
length-with n y (e ∷ es) = go (nat_eq n e.0) (length-with n y es)
  where
    go : (b : Bool) → length (with_reason n y es) ≡ length es + (if has_entry n es then 0 else 1) →
        length (if b then (e.0, joined e.1 y) ∷ es else e ∷ with_reason n y es) ≡ suc (length es) + (if (b || has_entry n es) then 0 else 1)
    go true h = omega arith
    go false h = omega (arith, h)

-- the entries of others
pub has-without : (m n : ℕ) (es : List Entry) → has_entry m (without n es) ≡ (not (nat_eq m n) && has_entry m es)
has-without m n [] = nothing (nat_eq m n)
  where
    nothing : (b : Bool) → false ≡ (not b && false)
    nothing true = refl
    nothing false = refl
has-without m n (e ∷ es) = elim (eqb_tells n e.0) [
  | inl same ↦ gone same.0 same.1 (has-without m n es)
  | inr apart ↦ stays apart.0 apart.1 (has-without m n es)
]
  where
    dropped : (b r : Bool) → (not b && r) ≡ (not b && (b || r))
    dropped true r = refl
    dropped false r = refl

    kept : (a b r : Bool) → (a ≡ true → b ≡ false) → (a || (not b && r)) ≡ (not b && (a || r))
    kept true true r h = absurd (let k = h refl in cc)
    kept true false r h = refl
    kept false b r h = refl

    gone : nat_eq n e.0 ≡ true → n ≡ e.0 → has_entry m (without n es) ≡ (not (nat_eq m n) && has_entry m es) →
        has_entry m (without n (e ∷ es)) ≡ (not (nat_eq m n) && has_entry m (e ∷ es))
    gone b k ih =
        ap (λ t. has_entry m (if not t then e ∷ without n es else without n es)) b ∙ ih ∙ dropped (nat_eq m n) (has_entry m es)
        ∙ ap (λ z. not (nat_eq m n) && (nat_eq m z || has_entry m es)) k

    stays : nat_eq n e.0 ≡ false → n ≢ e.0 → has_entry m (without n es) ≡ (not (nat_eq m n) && has_entry m es) →
        has_entry m (without n (e ∷ es)) ≡ (not (nat_eq m n) && has_entry m (e ∷ es))
    stays b apart ih =
        ap (λ t. has_entry m (if not t then e ∷ without n es else without n es)) b ∙ ap (λ z. nat_eq m e.0 || z) ih
        ∙ kept (nat_eq m e.0) (nat_eq m n) (has_entry m es) (λ here. grind (arith, nat_tests, here, apart))

-- whoever had an entry made the list longer
pub length-without-had : (n : ℕ) (es : List Entry) → length (without n es) + (if has_entry n es then 1 else 0) ≤ length es
length-without-had n [] = omega arith
length-without-had n (e ∷ es) = go (nat_eq n e.0) (length-without-had n es)
  where
    go : (b : Bool) → length (without n es) + (if has_entry n es then 1 else 0) ≤ length es →
        length (if not b then e ∷ without n es else without n es) + (if (b || has_entry n es) then 1 else 0) ≤ suc (length es)
    go true h = at_most (has_entry n es) h
      where
        at_most : (c : Bool) → length (without n es) + (if c then 1 else 0) ≤ length es → length (without n es) + 1 ≤ suc (length es)
        at_most true k = omega (arith, k)
        at_most false k = omega (arith, k)
    go false h = omega (arith, h)

-- Room for entries

pub room-raised : (more c n : ℕ) (y : Why) (es : List Entry) (spare next : ℕ) → n < c → lacking c (λ m. has_entry m es) + more ≤ spare →
    length (with_reason n y es) + next ≡ length es + spare → lacking c (λ m. has_entry m (with_reason n y es)) + more ≤ next
room-raised more c n y es spare next within room kept =
    let one = more-within (λ m. has_entry m es) (λ m. has_entry m (with_reason n y es)) n (λ m. has-with m n y es) c within in
    let long = length-with n y es in
    omega (arith, one, long, room, kept)

-- whoever has no entry has room for one
pub room-there : (more c n : ℕ) (es : List Entry) (spare : ℕ) → n < c → lacking c (λ m. has_entry m es) + more ≤ spare
    → has_entry n es ≡ false →
    0 < spare
room-there more c n es spare within room none =
    let one = more-within (λ m. has_entry m es) (λ m. nat_eq m n || has_entry m es) n (λ m. refl) c within in
    let this : ◌≡◌ {A = ℕ} (if has_entry n es then 0 else 1) 1 = ap (λ b. if b then 0 else 1) none in
    omega (arith, one, this, room)

pub room-forgot : (more c n : ℕ) (es : List Entry) (spare next : ℕ) → lacking c (λ m. has_entry m es) + more ≤ spare →
    length (without n es) + next ≡ length es + spare → lacking c (λ m. has_entry m (without n es)) + more ≤ next
room-forgot more c n es spare next room kept = by_had (has_entry n es) refl
  where
    short : length (without n es) + (if has_entry n es then 1 else 0) ≤ length es
    short = length-without-had n es

    by_had : (b : Bool) → has_entry n es ≡ b → lacking c (λ m. has_entry m (without n es)) + more ≤ next
    by_had true had =
        let most = more-at-most (λ m. has_entry m (without n es)) (λ m. has_entry m es) n (λ m. had_more m had) c in
        let one : ◌≡◌ {A = ℕ} (if has_entry n es then 1 else 0) 1 = ap (λ b. if b then 1 else 0) had in
        omega (arith, most, one, short, room, kept)
      where
        had_more : (m : ℕ) → has_entry n es ≡ true → has_entry m es ≡ (nat_eq m n || has_entry m (without n es))
        had_more m had = elim (eqb_tells m n) [
          | inl same ↦ ap (λ z. has_entry z es) same.1 ∙ had ∙ sym (ap (λ b. b || has_entry m (without n es)) same.0)
          | inr apart ↦
              sym (ap (λ b. b || has_entry m (without n es)) apart.0 ∙ has-without m n es ∙ ap (λ b. not b && has_entry m es) apart.0)
        ]
    by_had false none =
        let same = lacking-alike (λ m. has_entry m (without n es)) (λ m. has_entry m es) (λ m. still m none) c in
        omega (arith, same, short, room, kept)
      where
        still : (m : ℕ) → has_entry n es ≡ false → has_entry m (without n es) ≡ has_entry m es
        still m none = elim (eqb_tells m n) [
          | inl same ↦
              has-without m n es ∙ ap (λ b. not b && has_entry m es) same.0 ∙ sym (ap (λ z. has_entry z es) same.1 ∙ none)
          | inr apart ↦ has-without m n es ∙ ap (λ b. not b && has_entry m es) apart.0
        ]

-- every number has an entry or lacks one
pub all-or-lacking : (c : ℕ) (es : List Entry) → c ≤ lacking c (λ m. has_entry m es) + length es
all-or-lacking c [] = let e = lacking-none c in omega (arith, e)
all-or-lacking c (e ∷ es) =
    let rest = all-or-lacking c es in
    let most = more-at-most (λ m. has_entry m es) (λ m. has_entry m (e ∷ es)) e.0 (λ m. refl) c in
    omega (arith, rest, most)

pub room-begun : (more c : ℕ) (es : List Entry) (spare : ℕ) → lacking c (λ m. has_entry m es) + more ≤ spare →
    lacking c (λ m. has_entry m []) + more ≤ length es + spare
room-begun more c es spare room =
    let all = all-or-lacking c es in
    let none = lacking-none c in
    omega (arith, all, none, room)
