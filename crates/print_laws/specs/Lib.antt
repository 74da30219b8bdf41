pub mod PrintedExpressions
pub mod PrintedStatements
pub mod Printed
pub mod Shown
pub mod Again
pub mod Worked
