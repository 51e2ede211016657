-- The map from the engine to the theory's machine: each accepted call is one of its moves.
pub mod Map
pub mod Put
pub mod Moves
pub mod Spots
pub mod Steps
