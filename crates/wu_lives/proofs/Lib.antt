pub mod ReopeningLemmas
mod RunsLemmas
