pub mod FieldLemmas
pub mod SendLemmas
pub mod ExchangeLemmas
pub mod CarriedLemmas
