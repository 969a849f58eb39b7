pub mod Files
pub mod Forms
pub mod UnknownTags
pub mod BadPairs
pub mod BadPlaces
pub mod NamedPairs
pub mod FileFaults
