-- Law: lemmas for the proofs of several crates, by subject.
pub mod Lists
pub mod Validity
pub mod Commands
pub mod Journal
pub mod Cells
pub mod Rates
pub mod Preparations
