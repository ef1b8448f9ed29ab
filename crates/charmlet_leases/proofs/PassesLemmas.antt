pub mod Lasting
pub mod Sets
pub mod OtherSteps
pub mod Places
pub mod Requests
pub mod Rising
pub mod Taken
