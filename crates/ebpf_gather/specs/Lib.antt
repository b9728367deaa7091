pub mod First
pub mod Functions
pub mod References
pub mod CallTrees
