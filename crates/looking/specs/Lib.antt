pub mod Looking
pub mod Tracing
