-- Request 05: a worker stepped alone on a free lock gives what the plain engine gives.
pub mod Others
pub mod Plainly
pub mod Exhibit
