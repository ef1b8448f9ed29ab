pub mod Between
pub mod Firsts
pub mod Numbers
pub mod Sets
pub mod Standing
pub mod Steps
