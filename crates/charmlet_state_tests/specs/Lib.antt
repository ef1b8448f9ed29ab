pub mod Pair
pub mod Opening
