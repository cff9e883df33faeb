pub mod Along
pub mod Answering
pub mod Converses
pub mod OneConversation
