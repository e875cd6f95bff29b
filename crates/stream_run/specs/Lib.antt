pub mod Buffering
pub mod Streamed
