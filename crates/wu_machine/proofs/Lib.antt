pub mod ImportLemmas
pub mod ApartLemmas
pub mod BatchKeeps
pub mod StorableLemmas
pub mod ImageLemmas
pub mod PassKeeps
pub mod Versions
