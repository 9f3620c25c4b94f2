pub mod TurnLemmas
pub mod HistoryLemmas
pub mod PieceLemmas
