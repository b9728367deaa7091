pub mod Lines
pub mod ReplyFile
pub mod Words
pub mod CommandFile
pub mod Submission
pub mod Laws
pub mod steps
