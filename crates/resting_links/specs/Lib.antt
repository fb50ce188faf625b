pub mod RestingValue
pub mod RestingView
