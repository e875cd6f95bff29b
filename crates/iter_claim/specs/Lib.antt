pub mod Numbers
pub mod Claiming
pub mod Seats
