pub mod Replies
pub mod ReplyTests
