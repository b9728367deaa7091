pub mod Asked
pub mod MakesProgram
pub mod Printed
pub mod Traced
pub mod UserTold
pub mod steps
