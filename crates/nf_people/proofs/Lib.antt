pub mod NameIndex
pub mod Quotas
pub mod Members
