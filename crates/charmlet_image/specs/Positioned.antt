-- How lists of an image are read with the places of their records.
use Rattle.std.specs.Prelude.{ℕ, ◌-◌, List, ◌++◌, length, map, Result, Ok, Err}
use Rattle.charmlet_model.specs.declared.names.Elem.{Elem}
use Rattle.charmlet_model.specs.declared.message.Message.{Message}
use Rattle.charmlet_model.specs.declared.client.ClientRow.{ClientRow}
use Rattle.charmlet_model.specs.declared.state.Record.{Record}
use Rattle.charmlet_model.specs.declared.logged.CatchUpEntry.{CatchUpEntry}
use Rattle.charmlet_model.specs.Spelling.{spell_list, spell_message, spell_caught_up}
use Rattle.charmlet_record.specs.declared.positioned.Positioned.{Positioned}
use Rattle.charmlet_record.specs.Reading.{Reads, ◌>>=◌, yield, Kinds, read_list, read_caught_up, read_positioned}
use Rattle.charmlet_record.specs.Places.{with_places}
use Rattle.charmlet_image.specs.declared.header.Mark.{Mark}
use Rattle.charmlet_image.specs.After.{read_list_after}
use Rattle.charmlet_image.specs.Images.{Image, spell_array, spell_client, spell_image}
use Rattle.charmlet_image.specs.Reading.{read_array, read_client, read_pending, read_entry, greatest_count}

-- what records say without their places
abbrev pub items_of : {X : Type 0} → List (Positioned X) → List X
items_of placed = map (λ p. p.item) placed

-- a message with an id that none before it has, with its place; `following` bytes follow the part
-- that is read
abbrev pub read_positioned_pending : ℕ → Kinds → List (Positioned Message) →
    Reads (Positioned Message)
read_positioned_pending following kinds before =
    read_positioned following (read_pending kinds (items_of before))

-- an image with the places of its messages
pub record PositionedImage : Type 0 where
  pub manifest : Kinds
  pub clients : List (ℕ × ClientRow)
  pub pending : List (Positioned Message)
  pub records : List (Elem × Record)
  pub caught_up : List (Positioned CatchUpEntry)

-- an image with these places; `following` bytes follow the part that is read
unfoldable pub read_positioned_image : Mark → ℕ → Reads PositionedImage
read_positioned_image mark following = do
  manifest ← read_list_after 1 64 (read_array mark)
  clients ← read_list_after 0 1024 (read_client mark)
  pending ← read_list_after 0 greatest_count (read_positioned_pending following manifest)
  records ← read_list_after 0 greatest_count (read_entry manifest)
  caught_up ← read_list 0 greatest_count (read_positioned following (read_caught_up manifest))
  yield (record {
    manifest = manifest;
    clients = clients;
    pending = pending;
    records = records;
    caught_up = caught_up;
  })

-- the bytes of an image up to the end of its pending messages
abbrev pub up_to_pending : Mark → Image → List ℕ
up_to_pending mark i = spell_list (spell_array mark) i.manifest
    ++ (spell_list (spell_client mark) i.clients ++ spell_list spell_message i.pending)

-- the pending messages of an image, each with how many bytes are left from it on, of `all` from the
-- image's beginning on
abbrev pub placed_pending : Mark → ℕ → Image → List (Positioned Message)
placed_pending mark all i = with_places spell_message
    (all - length (up_to_pending mark i)) i.pending

-- the same for the deliveries of its catch-up list, which ends the image
abbrev pub placed_caught_up : Mark → ℕ → Image → List (Positioned CatchUpEntry)
placed_caught_up mark all i = with_places spell_caught_up
    (all - length (spell_image mark i)) i.caught_up

-- an image with the places that the lengths say, of `all` bytes from its beginning on
abbrev pub image_with_places : Mark → ℕ → Image → PositionedImage
image_with_places mark all i =
    record {
      manifest = i.manifest;
      clients = i.clients;
      pending = placed_pending mark all i;
      records = i.records;
      caught_up = placed_caught_up mark all i;
    }

-- what was read, with these places
abbrev pub with_image_places : Mark → ℕ → Result (Image × List ℕ) ℕ →
    Result (PositionedImage × List ℕ) ℕ
with_image_places mark all (Ok x) = Ok (image_with_places mark all x.0, x.1)
with_image_places mark all (Err left) = Err left
