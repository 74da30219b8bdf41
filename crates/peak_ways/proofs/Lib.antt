pub mod TurnCosts
