pub mod ClausesAdd
pub mod Gathering
pub mod MarkedRows
pub mod Numbered
pub mod OfSheets
pub mod TableAdds
pub mod TableConsistent
