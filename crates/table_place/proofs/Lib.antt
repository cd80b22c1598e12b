pub mod Cursor
pub mod Reading
