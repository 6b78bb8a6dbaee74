pub mod Forms
pub mod Found
pub mod Others
pub mod Upgrades
