-- Law: the theorems on the definitions, by subject. Each is the contract of a function in src/laws.rt.
pub mod History
pub mod Cells
pub mod ListedContent
pub mod ListedLives
pub mod Archives
pub mod Passing
pub mod EqualSteps
pub mod Commands
pub mod Validity
pub mod Journal
pub mod Outlines
pub mod Slots
pub mod Updates
pub mod FiledOnce
pub mod Versions
