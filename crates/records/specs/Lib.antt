pub mod Cell
pub mod Column
pub mod Front
pub mod Json
pub mod List
pub mod Record
