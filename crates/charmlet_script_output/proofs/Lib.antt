pub mod Printing
pub mod Naming
pub mod Enough
pub mod Results
pub mod Creations
pub mod Backs
