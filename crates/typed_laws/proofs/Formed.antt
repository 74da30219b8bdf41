-- A shaped unit without faults gives a well-formed program.
pub mod FormedExpressions
mod FormedCalls
mod FormedDeclarations
mod FormedLoops
mod FormedStatements
mod ConstantRanges
mod FormedGlobals
pub mod FormedFunctions
pub mod FormedPrograms
