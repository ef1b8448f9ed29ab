pub mod Steps
pub mod Beginnings
pub mod Images
pub mod Notes
pub mod Others
pub mod Tables
pub mod Sealings
pub mod Shelves
