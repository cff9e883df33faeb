-- What the witnesses of the laws conclude.
pub mod Lived
