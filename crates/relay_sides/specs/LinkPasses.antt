-- What a pass of a link leaves: that of the direction from In, and then that of the other.
use Rattle.std.specs.Prelude.{◌≡◌, ◌≢◌, ◌⊎◌, ℕ, Bool, MatchBool}
use Rattle.ev_types.specs.declared.side.SideId.{SideId}
use Rattle.relay_state.specs.Closing.{in_side, out_side}
use Rattle.relay_sides.specs.Links.{Links, passage_at, round_from, PassedFrom, PartlyPassed}

-- both directions were passed, and this tells whether one of them changed
abbrev pub PassedLink : ℕ → Links → ℕ → Bool → Links → Type 0
PassedLink hold old link changed new =
    (middle : Links) × PassedFrom hold old (in_side link) middle × PassedFrom hold middle (out_side link) new
    × MatchBool changed ((middle ≢ old) ⊎ (new ≢ middle)) ((middle ≡ old) × (new ≡ middle))

-- some rounds of the first were made, or all and then some of the second
abbrev pub PartlyPassedLink : ℕ → Links → ℕ → Links → Type 0
PartlyPassedLink hold old link new =
    PartlyPassed hold old (in_side link) new
    ⊎ ((middle : Links) × PassedFrom hold old (in_side link) middle × PartlyPassed hold middle (out_side link) new)

-- a round of the direction changes nothing
abbrev pub NoRoundChanges : ℕ → Links → SideId → Type 0
NoRoundChanges hold k e = round_from hold k e (passage_at k e) ≡ passage_at k e

-- nor one of the other
abbrev pub NoRoundOfLinkChanges : ℕ → Links → ℕ → Type 0
NoRoundOfLinkChanges hold k link = NoRoundChanges hold k (in_side link) × NoRoundChanges hold k (out_side link)
