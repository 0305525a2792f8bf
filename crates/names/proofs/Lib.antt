pub mod Bytes
pub mod Numbers
pub mod Parting
pub mod Places
