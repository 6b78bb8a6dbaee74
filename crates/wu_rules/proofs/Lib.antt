pub mod InPlace
pub mod Lists
pub mod Marked
pub mod Placing
pub mod Outputs
pub mod Refusing
pub mod Timing
pub mod Keeping
