pub mod Values
pub mod Options
pub mod ServeGrammar
pub mod Clap
pub mod Parse
pub mod ModeGrammar
pub mod ModeValues
pub mod WordsStatus
