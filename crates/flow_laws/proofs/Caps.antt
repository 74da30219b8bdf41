-- How often a node can be left: caps, visits and spans.
pub mod CapsSumToSpan
pub mod WalkVisits
pub mod CapsAreVisits
pub mod RunVisits
pub mod KeptWalks
pub mod KeptListsWithinCaps
pub mod CapsOfParts
pub mod DoBoundsPositive
