-- What the theory asks of the calls: valid jobs, guards that stay, a free sheet for every begin.
pub mod Fine
pub mod Spare
pub mod Guards
pub mod Rules
pub mod Records
pub mod Used
pub mod Full
