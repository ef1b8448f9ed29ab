pub mod Asking
pub mod Restarting
