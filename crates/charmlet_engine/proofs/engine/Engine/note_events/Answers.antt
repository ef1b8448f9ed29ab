use Rattle.std.proofs.Common.{subst, sym}
use Rattle.charmlet_history.specs.Kept.{Kept}
use Rattle.charmlet_store.specs.Together as stores
use Rattle.charmlet_engine.specs.Together.{AreTied}
use Rattle.charmlet_engine.proofs.Fitting.{same_fit}
use Rattle.charmlet_engine.proofs.Tied.{tied_inside}
use Rattle.charmlet_engine.proofs.engine.Engine.note_events.Goals as goal

pub invariant_of-self-inside : goal.invariant_of-self-inside
invariant_of-self-inside g c =
    let its = c.self-inside.inside.0.0 in
    same_fit its.history its.shelves.items its.stock c.self-inside.invariant c.note_events.new.self c.note_events.ensures.kept

pub invariant_of-self : goal.invariant_of-self
invariant_of-self g c =
    let its = c.self-inside.inside.0.0 in
    let halves = c.self-inside.inside.0.1.0 in
    let tied = tied_inside c.self.inside its.history its.stock halves c.self-inside.view_is c.self.invariant in
    subst (λ (h : Kept). AreTied {G = g.D.Disk} (stores.shown_by h its.stock) halves) (sym c.note_events.ensures.kept) tied
