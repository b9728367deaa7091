mod Alignment
mod Appended
