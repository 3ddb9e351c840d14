pub mod Floors
pub mod Laws
pub mod LineLaws
pub mod PlaneLaws
pub mod PictureLaws
pub mod StripeLaws
pub mod Sizes
pub mod Magnitudes
