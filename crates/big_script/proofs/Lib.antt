pub mod GeneratedLemmas
pub mod LineLemmas
pub mod BigLemmas
pub mod DrainableLemmas
pub mod PutLemmas
mod Examples
