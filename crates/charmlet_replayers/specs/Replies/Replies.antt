-- The replies of deliveries that replayers make again.
use Rattle.std.specs.Prelude.{◌≡◌, ℕ, ◌==◌, ◌&&◌, List, [], ◌∷◌, ◌++◌, if◌then◌else◌, Option, Some, None}
use Rattle.std.specs.List.{AllByRecursion}
use Rattle.charmlet_model.specs.declared.event.Event.{Event}
use Rattle.charmlet_model.specs.declared.names.Elem.{Elem}
use Rattle.charmlet_model.specs.declared.names.MsgId.{MsgId}
use Rattle.charmlet_model.specs.declared.names.Origin.{Origin}
use Rattle.charmlet_model.specs.declared.names.Origin.TheVariants.{Client, Element}
use Rattle.charmlet_model.specs.declared.reaction.Reaction.{Reaction}
use Rattle.charmlet_model.specs.declared.state.Record.{Record}
use Rattle.charmlet_model.specs.Row.{Item}
use Rattle.charmlet_model.specs.World.{World, record_at}
use Rattle.charmlet_record.specs.Reading.{Kinds}
use Rattle.charmlet_recovery.specs.Bases.{reaction}
use Rattle.charmlet_recovery.specs.Replays.{last_reply}
use Rattle.charmlet_log_scan.specs.declared.partition.task.Task.{Task}
use Rattle.charmlet_log_scan.specs.Partition.Parts.{done}
use Rattle.charmlet_replayers.specs.declared.replies.reply.Reply.{Reply}

-- what is kept of a reply to the message with this origin and number: only a client's
abbrev pub kept_reply : Origin → ℕ → List ℕ → List Reply
kept_reply (Element x) number words = []
kept_reply (Client c) number words =
    record { client = c; number = number; words = words } ∷ []

-- the same of what a reaction replies, if there is one
abbrev pub kept_of : MsgId → Option Reaction → List Reply
kept_of id None = []
kept_of id (Some o) = kept_reply id.origin id.number o.reply

-- the replies that are kept while a replayer does its tasks
abbrev pub replies_of : Kinds → List (Elem × Record) → List Task → List Reply
replies_of manifest records [] = []
replies_of manifest records (t ∷ ts) =
    kept_of t.message.id (reaction manifest (record_at records t.message.to) t.message)
    ++ replies_of manifest (done manifest records t) ts

-- the first of the replies to this request
abbrev pub given : ℕ → ℕ → List Reply → Item
given client number [] = None
given client number (r ∷ rs) = if (r.client == client) && (r.number == number) then Some r.words
    else given client number rs

-- each of them has the words that the history replies to its request, and there is one for each
-- request that the history replies to
pub record AreRepliesOf (w : World) (history : List Event) (rs : List Reply) : Type 0 where
  pub each : AllByRecursion (λ r. last_reply r.client r.number w history ≡ Some r.words) rs
  pub all : (client number : ℕ) → given client number rs ≡ None →
      last_reply client number w history ≡ None
