pub mod Map
pub mod Rules
pub mod Simulation
pub mod Demand
pub mod Filled
pub mod Worn
pub mod Plainly
