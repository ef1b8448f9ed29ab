pub mod Names
pub mod Numbers
pub mod LineLoops
pub mod Limit
pub mod Manifests
