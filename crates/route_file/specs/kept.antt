pub mod Fields
pub mod NodeTexts
pub mod LinesSeen
