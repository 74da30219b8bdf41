-- Driven lists, one edge after the other, with their counters.
pub mod DrivingSteps
pub mod DrivenLists
pub mod DrivenPrefixes
pub mod DrivingComputed
pub mod CountersKeepBounds
pub mod CountersAndBounds
pub mod BoundsStep
pub mod TurnsBounded
pub mod WorkedDriving
