mod Commands
mod Digits
pub mod NoticeWords
mod Reading
pub mod Triples
pub mod Trials
