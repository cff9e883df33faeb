pub mod AtDesk
pub mod Courses
pub mod DeskLaw
pub mod SalesTold
pub mod Selling
pub mod Sound
pub mod WholeLists
pub mod runs
