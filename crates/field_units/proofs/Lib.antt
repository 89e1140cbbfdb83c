pub mod RoundedTicks
pub mod StreamSpacing
pub mod ScaleThatFits
pub mod TermsWithinLimits
mod TriedScales
