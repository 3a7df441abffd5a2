pub mod Shares
pub mod PlansOf
pub mod Worked
pub mod Planned
