pub mod VerdictLines
