pub mod PathAnswer
pub mod TreeAnswer
pub mod Answers
pub mod Calls
