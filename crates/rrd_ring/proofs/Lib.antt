pub mod Names
pub mod Common
pub mod RowLemmas
pub mod RingLemmas
pub mod WrittenLemmas
pub mod BlockLemmas
