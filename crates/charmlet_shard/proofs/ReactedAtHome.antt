-- What a receiver at its home sends and replies.
use Rattle.std.proofs.Common.{◌≡◌, ℕ, ◌<◌, List, length, sym, ap, ◌∙◌}
use Rattle.std.specs.Prelude.{get_or}
use Rattle.charmlet_model.specs.declared.names.Elem.{Elem}
use Rattle.charmlet_model.specs.declared.kind_version.KindVersion.{KindVersion}
use Rattle.charmlet_model.specs.declared.message.Message.{Message}
use Rattle.charmlet_model.specs.declared.state.Record.{Record}
use Rattle.charmlet_model.specs.Core.{home}
use Rattle.charmlet_model.specs.Reaction.{react}
use Rattle.charmlet_model.specs.World.{record_at}
use Rattle.charmlet_chare.specs.declared.output.Output.{Output}
use Rattle.charmlet_world.specs.declared.element.Element.{Element}
use Rattle.charmlet_shelf.specs.Shelf.{View}
use Rattle.charmlet_shard.specs.Home.{AreHome}
use Rattle.charmlet_shard.specs.Receiving.{IsKnownAs, IsOutputAt, IsOutputOf, due_for}
use Rattle.charmlet_shard.proofs.Received.{seen_is}

pub is_own : (n : ℕ) (records : List (Elem × Record)) (shelves : List View) (are : AreHome n records shelves) (p : ℕ) (within : p < length shelves) (shelf : View) (is : shelf ≡ get_or shelves p shelf)
    (kind_version : KindVersion) (m : Message) (its : home m.to n ≡ p) (e : Element) (known : IsKnownAs kind_version (record_at records m.to) e) (output : Output) → IsOutputOf (due_for kind_version shelf.records e m) output → IsOutputAt kind_version records m output
is_own n records shelves are p within shelf is kind_version m its e known output made =
    (made.0, sym (ap (λ (r : Record). react kind_version m.to r.state m.entry m.words) (seen_is n records shelves are p within shelf is kind_version m.to its e known)) ∙ made.1, made.2)
