pub mod BufferLemmas
pub mod CallbackLemmas
