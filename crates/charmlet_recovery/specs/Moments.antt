-- Images that are taken while events come, each element at its own moment.
use Rattle.std.specs.Prelude.{◌≡◌, ℕ, zero, suc, ◌+◌, List, [], ◌∷◌, ◌++◌, take, is_some, if◌then◌else◌, Option, Some, None}
use Rattle.std.specs.List.{All}
use Rattle.std.specs.List.Sorted.{IsStrictlySortedBy}
use Rattle.std.specs.Map.{keys_of, values_of}
use Rattle.charmlet_model.specs.declared.names.Elem.{Elem}
use Rattle.charmlet_model.specs.declared.message.Message.{Message}
use Rattle.charmlet_model.specs.declared.event.Event.{Event}
use Rattle.charmlet_model.specs.declared.event.Event.TheVariants as events
use Rattle.charmlet_model.specs.declared.reaction.Reaction.{Reaction}
use Rattle.charmlet_model.specs.declared.logged.CatchUpEntry.{CatchUpEntry}
use Rattle.charmlet_model.specs.Names.{elem_cmp}
use Rattle.charmlet_model.specs.Fit.{IsKept}
use Rattle.charmlet_model.specs.World.{World, world, after, record_at, record_of, reaction_of, message_among}
use Rattle.charmlet_model.specs.Logging.{effect_between}
use Rattle.charmlet_image.specs.Images.{Image}

-- what a catch-up list keeps of a message and of what its receiver made of it
abbrev pub noted : World → Message → Option Reaction → List CatchUpEntry
noted w m None = []
noted w m (Some o) = record {
  message = m;
  received = (record_of w m.to).received + 1;
  effect = effect_between (record_of w m.to).state o.state;
} ∷ []

-- the same for the message that a delivery finds
abbrev pub noted_if : World → Option Message → List CatchUpEntry
noted_if w None = []
noted_if w (Some m) = noted w m (reaction_of w m)

-- what a catch-up list keeps of an event
abbrev pub noted_at : World → Event → List CatchUpEntry
noted_at w (events.Deliver id) = noted_if w (message_among id w.pending)
noted_at w (events.Accept client number to entry words) = []

-- the deliveries of a history, as a catch-up list has them
abbrev pub deliveries : World → List Event → List CatchUpEntry
deliveries w [] = []
deliveries w (e ∷ es) = noted_at w e ++ deliveries (after w e) es

-- While the events came, the image of the world was taken: each element's record at some moment,
-- clients and pending messages at the end, and all deliveries from the start to the end.
pub record IsTakenDuring (w : World) (events : List Event) (image : Image) : Type 0 where
  pub manifest : image.manifest ≡ w.manifest
  pub clients : image.clients ≡ (world w events).clients
  pub pending : image.pending ≡ (world w events).pending
  pub rising : IsStrictlySortedBy elem_cmp (keys_of image.records)
  pub no_empty : All IsKept (values_of image.records)
  pub records : (x : Elem) → (k : ℕ)
      × (record_at image.records x ≡ record_of (world w (take k events)) x)
  pub caught_up : image.caught_up ≡ deliveries w events

-- the moment at which the record of x is taken: when its shelf is reached, after n events, or
-- before that as soon as x is absent
abbrev pub moment : Elem → ℕ → World → List Event → ℕ
moment x zero w es = 0
moment x (suc n) w [] = 0
moment x (suc n) w (e ∷ es) = if is_some (record_of w x).state
    then suc (moment x n (after w e) es) else 0
