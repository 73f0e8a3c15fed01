pub mod Lives
pub mod Moments
pub mod StreamLives
