pub mod PlaceLemmas
pub mod EndLemmas
pub mod NeedleLemmas
