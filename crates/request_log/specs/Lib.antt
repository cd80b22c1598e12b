pub mod Request
pub mod Log
pub mod Heading
