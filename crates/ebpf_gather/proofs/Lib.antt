mod First
mod Changes
mod ReferencedData
mod CallTrees
