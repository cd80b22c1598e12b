pub mod Abnf
pub mod Json
pub mod Grammar
pub mod JsonText
pub mod Parser
