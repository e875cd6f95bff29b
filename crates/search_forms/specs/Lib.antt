pub mod Tables
pub mod Asking
pub mod Scans
pub mod Fronts
