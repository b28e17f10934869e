pub mod NodeTexts
pub mod Pieces
pub mod Printing
