pub mod CompletionEntries
pub mod Replies
pub mod Printed
pub mod ToldEvents
