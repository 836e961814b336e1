pub mod Breakers
pub mod BreakerLawful
pub mod Breaks
pub mod Stages
