pub mod SumLemmas
mod Examples
