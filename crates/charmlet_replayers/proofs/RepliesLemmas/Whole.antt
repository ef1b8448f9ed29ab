-- Rows that are filled with the replies of a history are those of the world after it.
use Rattle.std.proofs.Common.{◌≡◌, ℕ, true, List, ◌∙◌, Some}
use Rattle.charmlet_model.specs.declared.client.ClientRow.{ClientRow}
use Rattle.charmlet_model.specs.declared.event.Event.{Event}
use Rattle.charmlet_model.specs.Fit.{IsFit}
use Rattle.charmlet_model.specs.Row.{in_window, reply_to}
use Rattle.charmlet_model.specs.World.{IsLegal, World, client_of, row_of, world}
use Rattle.charmlet_model.proofs.Fits.{AllByRecursion-map, fit-world}
use Rattle.charmlet_recovery.specs.Replays.{last_reply, or_else, reply_if}
use Rattle.charmlet_recovery.proofs.Replies.{replies_are_last}
use Rattle.charmlet_replayers.specs.declared.replies.reply.Reply.{Reply}
use Rattle.charmlet_replayers.specs.Replies.Filled.{AreButForReplies, filled}
use Rattle.charmlet_replayers.specs.Replies.Replies.{AreRepliesOf}
use Rattle.charmlet_replayers.proofs.RepliesLemmas.FilledRows.{filled-is}
use Rattle.charmlet_replayers.proofs.RepliesLemmas.Once.{last-answered}

pub filled-are-worlds : (w : World) (before : ℕ) (history : List Event) (rows : List (ℕ × ClientRow)) (rs : List Reply) → IsFit w → IsLegal w before history → AreButForReplies w history rows →
    AreRepliesOf w history rs → filled rows rs ≡ (world w history).clients
filled-are-worlds w before history rows rs fit legal but replies =
    let v = world w history in
    let fit_end = fit-world w history fit legal.events legal.each_can in
    let right = λ (r : Reply) (last : last_reply r.client r.number w history ≡ Some r.words) (here : in_window (client_of v r.client) r.number ≡ true).
    (let answered = last-answered w history r.client r.number r.words fit legal.events legal.each_can last in
    let some = answered.reply here in
    let old = reply_to (client_of w r.client) r.number in
    replies_are_last w before history r.client r.number fit legal ∙ (λ i. reply_if (some i) (or_else (last i) old))) in
    filled-is v.clients rows rs fit_end.rising_clients (λ c. (fit_end.clients c).numbered) (record {
      blank = but.blank;
      each = AllByRecursion-map (λ (r : Reply). last_reply r.client r.number w history ≡ Some r.words) (λ (r : Reply). in_window (row_of v.clients r.client) r.number ≡ true → reply_to (row_of v.clients r.client) r.number ≡ Some r.words) rs right replies.each;
      others = λ c n none. but.others c n (replies.all c n none);
    })
