pub mod Composing
pub mod Apart
pub mod Spelled
pub mod Named
pub mod Again
pub mod PrintedPrograms
pub mod AtFileScope
