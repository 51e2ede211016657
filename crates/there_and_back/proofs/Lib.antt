pub mod Kept
pub mod Show
pub mod Park
pub mod There
pub mod Exhibit
