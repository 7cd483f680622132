pub mod Counts
pub mod ExamplesAnswered
pub mod ExamplesWorked
pub mod Layers
pub mod SheetsAllow
pub mod SheetsHeld
