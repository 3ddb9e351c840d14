pub mod Lifted
pub mod Bands
pub mod Chains
pub mod Built
pub mod Finishing
pub mod Shown
pub mod Forgotten
