-- The definitions that contracts cite.
pub mod Writing
pub mod Named
pub mod Supplied
pub mod Ledgers
pub mod Shown
pub mod ExitReason
pub mod Created
pub mod Back
pub use Rattle.charmlet_model.specs.Shelves
pub use Rattle.charmlet_model.specs.Texts
pub use Rattle.charmlet_requests.specs.Handlers
pub use Rattle.charmlet_engine.specs.Engine
pub use Rattle.charmlet_engine.specs.Wanted
pub use Rattle.charmlet_engine.specs.Constructions
pub use Rattle.charmlet_script.specs.Printed
pub use Rattle.charmlet_script.specs.Script
