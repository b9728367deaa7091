pub mod VerifyFault
pub mod Verified
pub mod Judged
pub mod Known
pub mod steps
