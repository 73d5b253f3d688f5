pub mod ExhaustiveReading
pub mod ShortcutReading
pub mod ExhaustiveRules
pub mod Numbers
pub mod Largest
pub mod Scores
pub mod ShortcutRules
pub mod Decisions
