-- The queues as lists: what a test, a place and a write become where each queue is seen as its keys.
use Rattle.std.proofs.Common.{◌≡◌, ◌∙◌, sym, ap, refl, ℕ, ◌+◌, ◌<◌, Bool, not, ◌||◌, List, [], ◌∷◌, ◌++◌, length, map, get_or, take, drop}
use Rattle.std.proofs.Common.{false, arith, add-one, zero, suc, set}
use Rattle.std.proofs.lemmas.List.{length-map, map-set, get_or-map}
use Rattle.std.proofs.Math.Seq.{map-set_same}
use Rattle.prio_queue.specs.Queues.{popped, activated, is_queued}
use Rattle.std.specs.List.{list_any, prefix_len, position}

-- a test of some image is a test of some element
pub list_any_of_map : {X Y : Type 0} (p : Y → Bool) (f : X → Y) (xs : List X) → list_any p (map f xs) ≡ list_any (λ x. p (f x)) xs
list_any_of_map p f [] = refl
list_any_of_map p f (x ∷ xs) = ap (λ b. p (f x) || b) (list_any_of_map p f xs)

-- so many images pass as elements do
pub prefix_len_of_map : {X Y : Type 0} (p : Y → Bool) (f : X → Y) (xs : List X) → prefix_len p (map f xs) ≡ prefix_len (λ x. p (f x)) xs
prefix_len_of_map p f [] = refl
prefix_len_of_map p f (x ∷ xs) = rw (prefix_len_of_map p f xs) refl

-- the first image that passes stands where the first element does
pub position_of_map : {X Y : Type 0} (p : Y → Bool) (f : X → Y) (xs : List X) → position p (map f xs) ≡ position (λ x. p (f x)) xs
position_of_map p f xs = rw (prefix_len_of_map (λ y. not (p y)) f xs, length-map xs f) refl

-- the first elements have become their images
abbrev pub begun : {X : Type 0} → (X → X) → ℕ → List X → List X
begun f i xs = map f (take i xs) ++ drop i xs

-- as many stand there as before
pub length_begun : {X : Type 0} (f : X → X) (i : ℕ) (xs : List X) → length (begun f i xs) ≡ length xs
length_begun f zero xs = refl
length_begun f (suc i) [] = refl
length_begun f (suc i) (x ∷ xs) = ap suc (length_begun f i xs)

-- with the next element replaced by its image, one more has become its image
pub begun_next : {X : Type 0} (f : X → X) (i : ℕ) (xs : List X) (d : X) → i < length xs → set (begun f i xs) i (f (get_or xs i d))
    ≡ begun f (suc i) xs
begun_next f i [] d h = absurd (omega arith)
begun_next f zero (x ∷ xs) d h = refl
begun_next f (suc i) (x ∷ xs) d h = ap (λ ys. f x ∷ ys) (begun_next f i xs d (omega arith))

-- the next element is as it was
pub get_or_begun : {X : Type 0} (f : X → X) (i : ℕ) (xs : List X) (d : X) → i < length xs → get_or (begun f i xs) i d ≡ get_or xs i d
get_or_begun f i [] d h = absurd (omega arith)
get_or_begun f zero (x ∷ xs) d h = refl
get_or_begun f (suc i) (x ∷ xs) d h = get_or_begun f i xs d (omega arith)

-- a step of a loop that replaces each element, seen by f, by its image under g
pub begun_step : {X Y : Type 0} (f : X → Y) (g : Y → Y) (i : ℕ) (xs : List X) (ys : List Y) (x y : X) → i < length xs → map f xs ≡
    begun g i ys → x ≡ get_or xs i x → f y ≡ g (f x) → map f (set xs i y) ≡ begun g (i + 1) ys
begun_step f g i xs ys x y within so_far is image =
    let count : length xs ≡ length ys = sym (length-map xs f) ∙ ap length so_far ∙ length_begun g i ys in
    let lt : i < length ys = omega arith in
    let seen : f x ≡ get_or ys i (f x) = ap f is ∙ sym (get_or-map f xs i x (f x) within) ∙ ap (λ zs. get_or zs i (f x)) so_far ∙
    get_or_begun g i ys (f x) lt in
    rw add-one (map-set f xs i y ∙ ap (λ zs. set zs i (f y)) so_far ∙ ap (λ z. set (begun g i ys) i z) (image ∙ ap g seen) ∙
    begun_next g i ys (f x) lt)

-- a queue that lost its first key
pub popped_at : {X : Type 0} (f : X → List ℕ) (xs : List X) (i : ℕ) (x y : X) → i < length xs → x ≡ get_or xs i x → f y ≡ drop 1
    (f x) → map f (set xs i y) ≡ popped (map f xs) i
popped_at f xs i x y within is lost =
    map-set f xs i y ∙ ap (λ q. set (map f xs) i q) (lost ∙ ap (drop 1) (ap f is ∙ sym (get_or-map f xs i x [] within)))

-- a queue that got a key which stood in none
pub activated_at : {X : Type 0} (f : X → List ℕ) (xs : List X) (i : ℕ) (x y : X) (key : ℕ) → i < length xs → x ≡ get_or xs i x → f
    y ≡ f x ++ key ∷ [] → is_queued key (map f xs) ≡ false → map f (set xs i y) ≡ activated (map f xs) i key
activated_at f xs i x y key within is got absent =
    rw absent (map-set f xs i y ∙ ap (λ q. set (map f xs) i q) (got ∙ ap (λ q. q ++ key ∷ [])
    (ap f is ∙ sym (get_or-map f xs i x [] within))))

-- a queue whose keys stayed
pub kept_at : {X : Type 0} (f : X → List ℕ) (xs : List X) (i : ℕ) (x y : X) → x ≡ get_or xs i x → f y ≡ f x → map f (set xs i y) ≡ map f xs
kept_at f xs i x y is kept = map-set_same f xs i y x (kept ∙ ap f is)

-- a queue that changed into some other list of its keys
pub changed_at : {X : Type 0} (f : X → List ℕ) (g : List ℕ → List ℕ) (xs : List X) (i : ℕ) (x y : X) → i < length xs → x ≡ get_or
    xs i x → f y ≡ g (f x) → map f (set xs i y) ≡ set (map f xs) i (g (get_or (map f xs) i []))
changed_at f g xs i x y within is became =
    map-set f xs i y ∙ ap (λ q. set (map f xs) i q) (became ∙ ap g (ap f is ∙ sym (get_or-map f xs i x [] within)))
