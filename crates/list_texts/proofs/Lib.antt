pub mod Fronts
pub mod Numbers
pub mod WordFronts
pub mod LineFronts
pub mod Lists
