-- What is done to the relay's state, with the entries that are put for it, as a relation of the state before, the
-- entries and the state after. Such relations stand one behind another.
use Rattle.std.specs.Prelude.{◌≡◌, ℕ, zero, suc, ◌+◌, List, [], ◌∷◌, ◌++◌}
use Rattle.ev_types.specs.Trace.{Trace}
use Rattle.relay_state.specs.State.{State}

-- nothing is put and nothing changes
abbrev pub Nothing : State → Trace → State → Type 0
Nothing s a new = (a ≡ []) × (new ≡ s)

-- first one thing, then another
pub record Then (R S : State → Trace → State → Type 0) (s : State) (a : Trace) (new : State) : Type 0 where
  pub middle : State
  pub front : Trace
  pub back : Trace
  pub first : R s front middle
  pub second : S middle back new
  pub joined : a ≡ front ++ back

-- one thing for each of a list, in its order
abbrev pub Each : {X : Type 0} → (X → State → Trace → State → Type 0) → List X → State → Trace → State → Type 0
Each R [] s a new = Nothing s a new
Each R (x ∷ xs) s a new = Then (R x) (Each R xs) s a new

-- one thing for each of some of the first of a list, and another for the next
pub record CutAt {X : Type 0} (R Cut : X → State → Trace → State → Type 0) (xs : List X) (s : State) (a : Trace) (new : State) :
    Type 0 where
  pub front : List X
  pub last : X
  pub back : List X
  pub all : xs ≡ front ++ last ∷ back
  pub went : Then (Each R front) (Cut last) s a new

-- the numbers of n links from k on
abbrev pub links_from : ℕ → ℕ → List ℕ
links_from k zero = []
links_from k (suc n) = k ∷ links_from (k + 1) n

-- this is done, and so it is told of its entries
abbrev pub Told : (State → Trace → State → Type 0) → (Trace → Type 0) → State → Trace → State → Type 0
Told R Tells s a new = R s a new × Tells a
