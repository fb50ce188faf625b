pub mod Generated
pub mod BigScript
pub mod BigLaws
