pub mod Laws
pub mod Loading
pub mod Making
pub mod Refilling
