pub mod Between
pub mod Firsts
pub mod Scans
