pub mod LogTexts
pub mod Logged
