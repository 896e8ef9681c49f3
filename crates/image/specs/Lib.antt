pub mod Image
pub mod Inner
pub mod Theorems
pub mod View
pub mod Zero
