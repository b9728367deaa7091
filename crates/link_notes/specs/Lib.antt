pub mod Notes
pub mod Text
pub mod Unread
pub mod Reading
pub mod Ended
pub mod Sum
pub mod Laws
