pub mod WorkLemmas
pub mod TurnsLemmas
pub mod RestLemmas
pub mod StoppedLemmas
pub mod EndLemmas
