pub mod Places
pub mod PieceLemmas
pub mod CutLemmas
pub mod CrossLemmas
pub mod RowLemmas
pub mod BankLemmas
