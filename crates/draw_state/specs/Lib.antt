pub mod Commands
pub mod Runs
pub mod Replies
pub mod TableBalls
pub mod Laws
pub mod State
