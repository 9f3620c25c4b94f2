pub mod Parents
pub mod UnknownInstances
pub mod Deciding
pub mod MembershipLemmas
pub mod Waiting
