pub mod Answers
pub mod Counted
pub mod Ends
pub mod Judged
pub mod Listed
pub mod Walks
