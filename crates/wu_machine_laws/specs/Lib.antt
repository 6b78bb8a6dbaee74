pub mod Laws
pub mod Sound
pub mod Lasting
pub mod Leaving
pub mod Files
pub mod Rows
