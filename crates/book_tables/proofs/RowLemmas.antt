pub mod GatheredLemmas
pub mod KeyTextLemmas
pub mod PartLemmas
pub mod RecordLemmas
pub mod ValueLemmas
