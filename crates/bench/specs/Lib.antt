pub mod TimingLines
pub mod TimingPlans
