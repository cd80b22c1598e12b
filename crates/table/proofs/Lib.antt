pub mod Numbers
pub mod Frames
pub mod Rules
pub mod Versions
pub mod Inside
pub mod Examples
pub mod Users
