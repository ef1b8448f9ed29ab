-- The laws of stores that were brought back.
use Rattle.std.specs.Prelude.{◌≡◌, ℕ, ◌+◌, List, length, None}
use Rattle.charmlet_model.specs.declared.kind.Kind.{Kind}
use Rattle.charmlet_model.specs.Core.{Blanks}
use Rattle.charmlet_model.specs.Sound.{opened}
use Rattle.charmlet_model.specs.World.{world}
use Rattle.charmlet_image.specs.declared.half.OpenHalf.{OpenHalf}
use Rattle.charmlet_image.specs.Images.{Saved}
use Rattle.charmlet_image.specs.Views.{image_said}
use Rattle.charmlet_recovery.specs.Bases.{base, events_of}
use Rattle.charmlet_recovery.specs.Blanks.{made}
use Rattle.charmlet_recovery.specs.Faults.{first_fault}
use Rattle.charmlet_history.specs.Kept.{core_in}
use Rattle.charmlet_store.specs.Store.{StoreShown, blanks_of}
use Rattle.charmlet_replay.specs.Places.{events_in}
use Rattle.charmlet_replay.specs.Ready.{IsReady}
use Rattle.charmlet_replay.specs.Replayed.{IsOpenIn, IsRepeated}

-- Where no record of a half is at fault, the store that opens with the world after its log, after
-- so many events, and which has the blanks that its objects didn't take, is what a replay gives.
abbrev pub ReopenedIsRepeated : Type 0
ReopenedIsRepeated = (bytes : List ℕ) (s : Saved) (half : OpenHalf) (processors : ℕ)
    (given : Blanks) (store : StoreShown) → IsOpenIn bytes s half →
    first_fault (image_said half.image) half.header.events
    (events_in half.image.manifest half.log.rest.now) ≡ None → IsReady store →
    core_in store.history ≡ opened processors (world (base (image_said half.image))
    (events_of (events_in half.image.manifest half.log.rest.now)))
    (half.header.events + length (events_in half.image.manifest half.log.rest.now))
    half.header.generation half.log.ends →
    ((kind : Kind) → blanks_of store kind + made (image_said half.image)
    (events_in half.image.manifest half.log.rest.now) kind ≡ given kind) →
    IsRepeated processors given s store
