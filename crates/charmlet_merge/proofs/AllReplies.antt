-- The replies of all replayers, put into the rows one after the other.
use Rattle.std.proofs.Common.{◌≡◌, ℕ, zero, suc, ◌+◌, ◌≤◌, ◌^◌, true, false, List, [], ◌∷◌, ◌++◌, length, map, refl, sym, ap, subst, ◌∙◌, arith}
use Rattle.std.specs.Prelude.{Option, Some, None, flat_map, is_some, slice_get, unwrap_or}
use Rattle.std.proofs.lemmas.Bool.{leb-true}
use Rattle.std.proofs.lemmas.List.{length-map}
use Rattle.charmlet_model.specs.declared.client.ClientRow.{ClientRow}
use Rattle.charmlet_model.specs.declared.logged.Logged.{Logged}
use Rattle.charmlet_model.specs.declared.names.Elem.{Elem}
use Rattle.charmlet_model.specs.Logging.{event_of}
use Rattle.charmlet_model.specs.World.{IsLegal, World, after, world}
use Rattle.charmlet_model.proofs.Maps.{both_parts}
use Rattle.charmlet_record.specs.declared.positioned.Positioned.{Positioned}
use Rattle.charmlet_image.specs.Positioned.{items_of}
use Rattle.charmlet_recovery.specs.Bases.{events_of}
use Rattle.charmlet_recovery.specs.Faults.{event_tests, first_failure, happens}
use Rattle.charmlet_recovery.specs.Replays.{LogScan}
use Rattle.charmlet_chare.specs.declared.chare.Chare.{Ghosts}
use Rattle.charmlet_replayers.specs.declared.replies.reply.Reply.{Reply}
use Rattle.charmlet_replayers.specs.Replies.Filled.{filled}
use Rattle.charmlet_replayers.specs.Replies.Replies.{AreRepliesOf}
use Rattle.charmlet_replayers.proofs.RepliesLemmas.OfEvents.{all-can, are-of-events, none-first}
use Rattle.charmlet_replayers.proofs.RepliesLemmas.Whole.{filled-are-worlds}
use Rattle.charmlet_replayers.specs.declared.replayer.replayer.Replayer.{Replayer}
use Rattle.charmlet_merge.specs.Rows.{AreToFill}

-- at most so many events are in a log in which none is at fault
few-events : (w : World) (count : ℕ) (log : List Logged) → count ≤ 2 ^ 40 → first_failure (event_tests w count log) ≡ None → count + length (events_of log) ≤ 2 ^ 40
few-events w count [] few none = omega (arith, few)
few-events w count (l ∷ log) few none =
    let parts = none-first (happens w count l) (event_tests (after w (event_of l)) (count + 1) log) none in
    let one = leb-true (count + 1) (2 ^ 40) (both_parts _ _ (both_parts _ _ parts.0).0).1 in
    let rest = few-events (after w (event_of l)) (count + 1) log one parts.1 in
    omega (arith, rest)

module _ {C : Type 0} {G : Ghosts C} where
  -- what all replayers reply, one replayer after the other
  abbrev pub replies_in : List (Replayer C G) → List Reply
  replies_in [] = []
  replies_in (replayer ∷ replayers) = replayer.replies.items ++ replies_in replayers

  abbrev lists : List (Replayer C G) → List (List Reply)
  lists = map (λ (replayer : Replayer C G). replayer.replies.items)

  same-lists : (replayers : List (Replayer C G)) → flat_map (λ rs. rs) (lists replayers) ≡ replies_in replayers
  same-lists [] = refl
  same-lists (replayer ∷ replayers) = ap (λ rs. replayer.replies.items ++ rs) (same-lists replayers)

  its-replayer : (replayers : List (Replayer C G)) (v : ℕ) (rs : List Reply) → slice_get (lists replayers) v ≡ Some rs → (replayer : Replayer C G) × (slice_get replayers v ≡ Some replayer) × (rs ≡ replayer.replies.items)
  its-replayer [] v rs is = absurd (let contra : false ≡ true = ap is_some is in let never : ⊥ = cc in never)
  its-replayer (replayer ∷ replayers) zero rs is = (replayer, refl, sym (ap (λ (o : Option (List Reply)). unwrap_or o []) is))
  its-replayer (replayer ∷ replayers) (suc v) rs is = its-replayer replayers v rs is

  pub rows-are : (worker : Elem → ℕ) (w : World) (count : ℕ) (scan : LogScan) (log : List (Positioned Logged)) (rows : List (ℕ × ClientRow)) (replayers : List (Replayer C G)) → AreToFill worker w count scan log rows replayers →
      filled rows (replies_in replayers) ≡ (world w (events_of (items_of log))).clients
  rows-are worker w count scan log rows replayers are =
      let events = events_of (items_of log) in
      let many = length-map replayers (λ (replayer : Replayer C G). replayer.replies.items) in
      let limit = few-events w count (items_of log) are.few are.happen in
      let legal : IsLegal w 0 events = record { events = are.typed; each_can = all-can w count (items_of log) are.happen; in_limit = omega (arith, limit) } in
      let replies = are-of-events worker w count scan log (lists replayers) are.fit are.typed are.begin are.happen
      (λ x. let less = are.within x in omega (arith, less, many))
      (λ v rs is. let at = its-replayer replayers v rs is in at.2 ∙ are.replies v at.0 at.1) in
      filled-are-worlds w 0 events rows (replies_in replayers) are.fit legal are.others (subst (AreRepliesOf w events) (same-lists replayers) replies)
