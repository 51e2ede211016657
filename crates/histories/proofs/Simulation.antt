-- Each call is a step of the machine or changes nothing; so every history keeps the theory's invariant, and whatever each call keeps.
pub mod Won
pub mod Comes
pub mod Pieces
pub mod Simulation
pub mod Counted
pub mod Standing
pub mod Follows
