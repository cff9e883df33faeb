pub mod Decision
pub mod Law
pub mod Name
pub mod Office
