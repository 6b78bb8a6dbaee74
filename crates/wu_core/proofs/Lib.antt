pub mod ClassLemmas
pub mod HostLemmas
pub mod MaskLemmas
pub mod NameLemmas
pub mod ParameterLemmas
mod ResultNameLemmas
