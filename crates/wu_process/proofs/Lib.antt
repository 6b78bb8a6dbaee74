pub mod BackupLemmas
pub mod CopyLemmas
pub mod RunLemmas
