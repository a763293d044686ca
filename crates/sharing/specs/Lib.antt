pub mod Shares
pub mod Arrival
pub mod Turns
pub mod Dealing
pub mod ArrivalLaws
pub mod TurnsLaws
pub mod Pairs
