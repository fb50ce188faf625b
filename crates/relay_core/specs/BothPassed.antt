-- What a pass of a link leaves of the state: that of the direction from In, and then that of the other.
use Rattle.std.specs.Prelude.{◌≡◌, ◌≢◌, ◌⊎◌, ℕ, Bool, MatchBool}
use Rattle.relay_state.specs.State.{State}
use Rattle.relay_state.specs.Closing.{in_side, out_side}
use Rattle.relay_state.specs.Passing.{passage_at, round_from, PassedFrom, PartlyPassed}

-- both directions were passed, and this tells whether one of them changed
abbrev pub PassedBoth : State → ℕ → Bool → State → Type 0
PassedBoth old link changed new =
    (middle : State) × PassedFrom old (in_side link) middle × PassedFrom middle (out_side link) new
    × MatchBool changed ((middle ≢ old) ⊎ (new ≢ middle)) ((middle ≡ old) × (new ≡ middle))

-- some rounds of the first were made, or all and then some of the second
abbrev pub PartlyPassedBoth : State → ℕ → State → Type 0
PartlyPassedBoth old link new =
    PartlyPassed old (in_side link) new
    ⊎ ((middle : State) × PassedFrom old (in_side link) middle × PartlyPassed middle (out_side link) new)

-- a round of either direction changes nothing
abbrev pub BothStandStill : State → ℕ → Type 0
BothStandStill s link =
    (round_from s (in_side link) (passage_at s (in_side link)) ≡ passage_at s (in_side link))
    × (round_from s (out_side link) (passage_at s (out_side link)) ≡ passage_at s (out_side link))
