pub mod Places
pub mod UnitRuns
pub mod Arranged
pub mod OnePlan
pub mod ReadOff
pub mod Examples
pub mod Filled
pub mod Owned
