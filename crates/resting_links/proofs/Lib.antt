pub mod RestingLemmas
