pub mod Texts
pub mod Notices
pub mod Numbers
pub mod Line
pub mod Words
pub mod Insertions
