-- What the proofs of several functions use.
mod Empty
pub mod Sources
mod Probes
