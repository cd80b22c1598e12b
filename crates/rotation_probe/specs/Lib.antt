pub mod Answer
pub mod Probe
pub mod Rpc
pub mod Source
