-- Which replies an ask gets, and what a request comes to by them.
pub mod Answers
pub mod Verdicts
