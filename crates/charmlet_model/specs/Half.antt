-- The two halves of a store.
use Rattle.charmlet_model.specs.declared.half.Half.{Half}
use Rattle.charmlet_model.specs.declared.half.Half.TheVariants.{Zero, One}

-- the other half
abbrev pub other : Half → Half
other Zero = One
other One = Zero
