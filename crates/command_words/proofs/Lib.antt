pub mod CutLemmas
pub mod OptionRules
pub mod WordViews
pub mod ClapTurns
pub mod ClapReads
pub mod ClapAgrees
pub mod ModeWords
pub mod ModeTurns
pub mod ModeReads
mod Examples
