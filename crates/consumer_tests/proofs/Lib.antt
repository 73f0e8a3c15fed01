pub mod Singles
