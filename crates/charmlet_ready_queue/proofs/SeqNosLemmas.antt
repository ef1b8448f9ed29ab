pub mod Rings
pub mod Rising
