pub mod Regrouping
pub mod UnderWay
pub mod Surplus
pub mod Shares
pub mod Across
