pub mod Keys
pub mod Rules
pub mod Ruled
pub mod Laws
