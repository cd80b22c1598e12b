-- What the proofs of several functions use.
pub mod Offered
pub mod Errors
