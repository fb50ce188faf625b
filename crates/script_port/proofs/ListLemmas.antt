-- A list with one element changed.
use Rattle.std.proofs.Common.{◌≡◌, ◌≢◌, ℕ, zero, suc, ◌<◌, ◌≤◌, List, [], ◌∷◌, length, get_or, set, map, refl, sym, ap, ◌∙◌, arith, Some}
use Rattle.std.proofs.Common.{None, ◌++◌, take, drop}
use Rattle.std.specs.Prelude.{slice_get, option_map}
use Rattle.std.specs.Option.{option_map_or}
use Rattle.script_port.specs.ScriptLinks.{changed}

-- writing an element whose part is the changed part of the one before changes the list of parts
pub changed_set : {S T : Type 0} (g : T → S) (f : S → S) (es : List T) (k : ℕ) (x y : T) → k < length es → x ≡ get_or es k x → g y
    ≡ f (g x) → map g (set es k y) ≡ changed k f (map g es)
changed_set g f [] k x y h r e = absurd (omega arith)
changed_set g f (a ∷ es) zero x y h r e = let same : x ≡ a = r in ap (λ s. s ∷ map g es) (e ∙ ap (λ t. f (g t)) same)
changed_set g f (a ∷ es) (suc k) x y h r e = ap (λ s. g a ∷ s) (changed_set g f es k x y (omega arith) r e)

-- writing an element with the same part leaves the list of parts
pub same_set : {S T : Type 0} (g : T → S) (es : List T) (k : ℕ) (x y : T) → x ≡ get_or es k x → g y ≡ g x → map g (set es k y) ≡ map g es
same_set g [] k x y r e = refl
same_set g (a ∷ es) zero x y r e = let same : x ≡ a = r in ap (λ s. s ∷ map g es) (e ∙ ap g same)
same_set g (a ∷ es) (suc k) x y r e = ap (λ s. g a ∷ s) (same_set g es k x y r e)

-- past the end nothing changes
pub changed_past : {S T : Type 0} (g : T → S) (f : S → S) (es : List T) (k : ℕ) → length es ≤ k → changed k f (map g es) ≡ map g es
changed_past g f [] k h = refl
changed_past g f (a ∷ es) zero h = absurd (omega arith)
changed_past g f (a ∷ es) (suc k) h = ap (λ t. g a ∷ t) (changed_past g f es k (omega arith))

-- the part of an element that was read
pub part_read : {S T : Type 0} (g : T → S) (es : List T) (k : ℕ) (x : T) → k < length es → x ≡ get_or es k x → slice_get (map g es)
    k ≡ Some (g x)
part_read g [] k x h r = absurd (omega arith)
part_read g (a ∷ es) zero x h r = let same : x ≡ a = r in ap (λ t. Some (g t)) (sym same)
part_read g (a ∷ es) (suc k) x h r = part_read g es k x (omega arith) r

pub part_past : {S T : Type 0} (g : T → S) (es : List T) (k : ℕ) → length es ≤ k → slice_get (map g es) k ≡ None
part_past g [] k h = refl
part_past g (a ∷ es) zero h = absurd (omega arith)
part_past g (a ∷ es) (suc k) h = part_past g es k (omega arith)

pub part_at : {S T : Type 0} (g : T → S) (es : List T) (k : ℕ) (x : T) (d : S) → k < length es → x ≡ get_or es k x → get_or
    (map g es) k d ≡ g x
part_at g [] k x d h r = absurd (omega arith)
part_at g (a ∷ es) zero x d h r = let same : x ≡ a = r in ap g (sym same)
part_at g (a ∷ es) (suc k) x d h r = part_at g es k x d (omega arith) r

pub length-changed : {S : Type 0} (f : S → S) (ss : List S) (k : ℕ) → length (changed k f ss) ≡ length ss
length-changed f [] k = refl
length-changed f (s ∷ ss) zero = refl
length-changed f (s ∷ ss) (suc k) = ap suc (length-changed f ss k)

pub get_or-changed_same : {S : Type 0} (f : S → S) (ss : List S) (k : ℕ) (d : S) → k < length ss → get_or (changed k f ss) k d ≡ f
    (get_or ss k d)
get_or-changed_same f [] k d h = absurd (omega arith)
get_or-changed_same f (s ∷ ss) zero d h = refl
get_or-changed_same f (s ∷ ss) (suc k) d h = get_or-changed_same f ss k d (omega arith)

pub get_or-changed_other : {S : Type 0} (f : S → S) (ss : List S) (k j : ℕ) (d : S) → j ≢ k → get_or (changed k f ss) j d ≡ get_or ss j d
get_or-changed_other f [] k j d h = refl
get_or-changed_other f (s ∷ ss) zero zero d h = absurd (h refl)
get_or-changed_other f (s ∷ ss) zero (suc j) d h = refl
get_or-changed_other f (s ∷ ss) (suc k) zero d h = refl
get_or-changed_other f (s ∷ ss) (suc k) (suc j) d h = get_or-changed_other f ss k j d (λ e. h (ap suc e))

-- the same change, where the changes agree on the element
pub changed_agree : {S : Type 0} (f g : S → S) (ss : List S) (k : ℕ) → ((s : S) → f s ≡ g s) → changed k f ss ≡ changed k g ss
changed_agree f g [] k e = refl
changed_agree f g (s ∷ ss) zero e = ap (λ t. t ∷ ss) (e s)
changed_agree f g (s ∷ ss) (suc k) e = ap (λ t. s ∷ t) (changed_agree f g ss k e)

pub changed_none : {S : Type 0} (ss : List S) (k : ℕ) → changed k (λ s. s) ss ≡ ss
changed_none [] k = refl
changed_none (s ∷ ss) zero = refl
changed_none (s ∷ ss) (suc k) = ap (λ t. s ∷ t) (changed_none ss k)

pub changed_beyond : {S : Type 0} (f : S → S) (ss : List S) (k : ℕ) → length ss ≤ k → changed k f ss ≡ ss
changed_beyond f [] k h = refl
changed_beyond f (s ∷ ss) zero h = absurd (omega arith)
changed_beyond f (s ∷ ss) (suc k) h = ap (λ t. s ∷ t) (changed_beyond f ss k (omega arith))

-- the k-th element after a change there
pub slice_get-changed_same : {S : Type 0} (f : S → S) (ss : List S) (k : ℕ) → slice_get (changed k f ss) k ≡ option_map f (slice_get ss k)
slice_get-changed_same f [] k = refl
slice_get-changed_same f (s ∷ ss) zero = refl
slice_get-changed_same f (s ∷ ss) (suc k) = slice_get-changed_same f ss k

pub slice_get-changed_other : {S : Type 0} (f : S → S) (ss : List S) (k j : ℕ) → j ≢ k → slice_get (changed k f ss) j ≡ slice_get ss j
slice_get-changed_other f [] k j h = refl
slice_get-changed_other f (s ∷ ss) zero zero h = absurd (h refl)
slice_get-changed_other f (s ∷ ss) zero (suc j) h = refl
slice_get-changed_other f (s ∷ ss) (suc k) zero h = refl
slice_get-changed_other f (s ∷ ss) (suc k) (suc j) h = slice_get-changed_other f ss k j (λ e. h (ap suc e))

-- a change that leaves what is told of an element leaves what is told of the n-th
pub told-changed : {S A : Type 0} (p : S → A) (f : S → S) → ((s : S) → p (f s) ≡ p s) → (d : A) (ss : List S) (k n : ℕ) →
    option_map_or p (slice_get (changed k f ss) n) d ≡ option_map_or p (slice_get ss n) d
told-changed p f same d [] k n = refl
told-changed p f same d (s ∷ ss) zero zero = same s
told-changed p f same d (s ∷ ss) zero (suc n) = refl
told-changed p f same d (s ∷ ss) (suc k) zero = refl
told-changed p f same d (s ∷ ss) (suc k) (suc n) = told-changed p f same d ss k n

-- the k-th element of a list of which all were changed
pub slice_get-mapped : {S : Type 0} (f : S → S) (ss : List S) (k : ℕ) → slice_get (map f ss) k ≡ option_map f (slice_get ss k)
slice_get-mapped f [] k = refl
slice_get-mapped f (s ∷ ss) zero = refl
slice_get-mapped f (s ∷ ss) (suc k) = slice_get-mapped f ss k

-- where the first ones are changed, changing the next one
pub changed-next : {S : Type 0} (f : S → S) (ss : List S) (k : ℕ) → changed k f (map f (take k ss) ++ drop k ss) ≡
    map f (take (suc k) ss) ++ drop (suc k) ss
changed-next f [] zero = refl
changed-next f [] (suc k) = refl
changed-next f (s ∷ ss) zero = refl
changed-next f (s ∷ ss) (suc k) = ap (λ t. f s ∷ t) (changed-next f ss k)
