pub mod Fronts
pub mod Fields
pub mod Replies
pub mod ReplyFronts
