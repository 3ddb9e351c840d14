pub mod Limits
pub mod Geometry
pub mod Weighting
pub mod Candidates
pub mod Laws
