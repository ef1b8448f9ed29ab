-- The definitions that contracts cite.
pub mod Copying
pub mod Moving
pub mod StoreParts
pub use Rattle.charmlet_model.specs.Core
pub use Rattle.charmlet_model.specs.Names
pub use Rattle.charmlet_model.specs.Reaction
pub use Rattle.charmlet_model.specs.Run
pub use Rattle.charmlet_model.specs.Shelves
pub use Rattle.charmlet_shelf.specs.Shelf
pub use Rattle.charmlet_stock.specs.Stock
pub use Rattle.charmlet_delivery.specs.Kept
pub use Rattle.charmlet_delivery.specs.Workplace
pub use Rattle.charmlet_delivery.specs.element
pub use Rattle.charmlet_delivery.specs.UnderWay
pub use Rattle.charmlet_delivery.specs.Turns
