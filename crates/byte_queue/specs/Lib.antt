pub mod MemoryAnswers
pub mod QueueView
pub mod QueuedBytes
