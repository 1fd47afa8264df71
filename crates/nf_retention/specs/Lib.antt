pub mod Thinning
pub mod Budget
pub mod Laws
pub mod Trash
pub mod Versions
