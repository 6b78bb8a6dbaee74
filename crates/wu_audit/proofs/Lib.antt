mod AnyOrderLemmas
mod CountLemmas
mod ExampleLemmas
mod ImportKeyLemmas
pub mod KeyLemmas
mod MovedLemmas
pub mod OrderLemmas
pub mod PartLemmas
pub mod PlaceLemmas
pub mod PlacingLemmas
pub mod RecordLemmas
pub mod SeenLemmas
mod SetLemmas
pub mod SoundLemmas
