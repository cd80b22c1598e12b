pub mod Columns
pub mod Figures
pub mod Ranked
pub mod Grid
pub mod Laws
