-- Lemmas on rounds by several replayers.
pub mod LogPlaces
pub mod Rounds
pub mod Fronts
pub mod Redoing
