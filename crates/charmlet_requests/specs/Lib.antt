-- The definitions that contracts cite.
pub mod Knowing
pub mod Pass
pub mod Rising
pub mod Handlers
pub use Rattle.charmlet_model.specs.Core
pub use Rattle.charmlet_model.specs.Row
pub use Rattle.charmlet_model.specs.Sound
pub use Rattle.charmlet_model.specs.Told
pub use Rattle.charmlet_model.specs.World
pub use Rattle.charmlet_history.specs.Kept
