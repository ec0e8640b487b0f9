pub mod Reading
pub mod Scanned
pub mod Reader
pub mod Labels
pub mod TextLaws
