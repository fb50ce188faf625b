pub mod TextScribeView
