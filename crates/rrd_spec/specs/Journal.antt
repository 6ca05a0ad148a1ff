-- Definition: the journal: its entries, the commands that survive reverts, and the entries that it may contain (this
-- project's rules).
pub mod Entries
pub mod Survivors
pub mod Outlines
pub mod Fitting
