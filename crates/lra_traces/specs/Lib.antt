pub mod Traceparents
pub mod Tables
pub mod inner
