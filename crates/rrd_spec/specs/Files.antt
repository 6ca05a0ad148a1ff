-- Definition: a database in the order of a file (this project's rule).
pub mod Slots
pub mod Places
pub mod Filed
pub mod Rebuilding
