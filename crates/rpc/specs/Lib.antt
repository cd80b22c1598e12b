pub mod Answer
pub mod Pattern
pub mod Request
pub mod Verdict
pub mod Call
