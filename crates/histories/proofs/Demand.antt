-- Demand 3 from that invariant, sentence by sentence, and histories that meet each premise.
pub mod Turns
pub mod Listed
pub mod Helped
pub mod Uncut
pub mod Sooner
pub mod Demand
pub mod Cuts
