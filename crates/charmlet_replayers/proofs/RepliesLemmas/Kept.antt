-- A scan that knows no words of the log's replies keeps all others.
use Rattle.std.proofs.Common.{◌≡◌, ◌≢◌, ℕ, ◌+◌, ◌==◌, true, false, cond, ◌&&◌, List, [], ◌∷◌, refl, sym, ap, subst, ◌∙◌, if◌then◌else◌, Some, None}
use Rattle.std.specs.Prelude.{Option}
use Rattle.std.specs.List.{AllByRecursion}
use Rattle.std.specs.Ordering.{eq_by_cmp, nat_cmp}
use Rattle.std.proofs.lemmas.Bool.{eq-eqb}
use Rattle.std.proofs.lemmas.Map.Lookups.{exact_unsigned}
use Rattle.std.proofs.lemmas.Map.Views.{tells_apart}
use Rattle.charmlet_model.specs.declared.logged.Logged.{Logged}
use Rattle.charmlet_model.specs.declared.logged.Logged.TheVariants.{Accept, Deliver}
use Rattle.charmlet_model.specs.declared.message.Message.{Message}
use Rattle.charmlet_model.specs.declared.message.Outgoing.{Outgoing}
use Rattle.charmlet_model.specs.declared.names.Elem.{Elem}
use Rattle.charmlet_model.specs.declared.names.MsgId.{MsgId}
use Rattle.charmlet_model.specs.declared.names.Origin.{Origin}
use Rattle.charmlet_model.specs.declared.names.Origin.TheVariants.{Client, Element}
use Rattle.charmlet_model.specs.declared.reaction.Reaction.{Reaction}
use Rattle.charmlet_model.specs.Fit.{IsFit, IsMessage, WasSent}
use Rattle.charmlet_model.specs.Logging.{event_of}
use Rattle.charmlet_model.specs.Names.{same_id, same_origin}
use Rattle.charmlet_model.specs.Row.{Item, in_window, reply_to, with_reply, with_request}
use Rattle.charmlet_model.specs.World.{IsEvent, World, after, answered, client_of, message_among, row_of, world}
use Rattle.charmlet_model.proofs.SeqNos.{next_number}
use Rattle.charmlet_model.proofs.Fits.{fit-after, found}
use Rattle.charmlet_model.proofs.Histories.{row_of-insert}
use Rattle.charmlet_model.proofs.Maps.{both_parts}
use Rattle.charmlet_model.proofs.Windows.{awaited-parts}
use Rattle.charmlet_recovery.specs.Bases.{events_of}
use Rattle.charmlet_recovery.specs.Faults.{event_tests, first_failure, happens}
use Rattle.charmlet_recovery.specs.Replays.{IsBeginning, LogScan, blank_rows, last_reply, or_else, scan_after, scanned, scanned_message, reply_by}
use Rattle.charmlet_recovery.proofs.Lists.{begin-accept, begin-performed}
use Rattle.charmlet_recovery.proofs.Steps.{after-happening, happening}
use Rattle.charmlet_replayers.specs.Replies.Filled.{AreButForReplies}
use Rattle.charmlet_replayers.proofs.RepliesLemmas.FilledRows.{alike-rows}
use Rattle.charmlet_replayers.proofs.RepliesLemmas.OfEvents.{go-on, none-first}
use Rattle.charmlet_replayers.proofs.RepliesLemmas.Once.{replied}
use Rattle.charmlet_replayers.proofs.RepliesLemmas.Rows.{AreAlike, alike-inside, reply-other, request-alike}

-- a scan without the words of its rows
abbrev blanked : LogScan → LogScan
blanked scan = record scan { clients = blank_rows scan.clients }

-- ---- whether rows have words makes no difference to the scan

module _ (w : World) (scan : LogScan) (begin : IsBeginning w (blanked scan)) where
  -- the world with the rows of the scan
  abbrev v : World
  v = record w { clients = scan.clients }

  as_before : IsBeginning v (blanked scan)
  as_before = record { pending = begin.pending; sent = begin.sent; clients = refl }

  blank-accept : (client number : ℕ) (to : Elem) (entry : ℕ) (words : List ℕ) → scanned (blanked scan) (Accept client number to entry words) ≡ blanked (scanned scan (Accept client number to entry words))
  blank-accept client number to entry words =
      let same = (begin-accept v (blanked scan) client number to entry words as_before).clients in
      λ i. record (scanned scan (Accept client number to entry words)) { clients = same i }

  blank-message : (o : Option Message) (sends : List Outgoing) → scanned_message (blanked scan) o sends ≡ blanked (scanned_message scan o sends)
  blank-message None sends = refl
  blank-message (Some m) sends =
      let nothing : Reaction = record { state = None; sends = []; reply = [] } in
      let same : answered (blank_rows scan.clients) m.id.origin m.id.number [] ≡ blank_rows (answered scan.clients m.id.origin m.id.number []) =
      (begin-performed v (blanked scan) m nothing as_before).clients in
      λ i. record (scanned_message scan (Some m) sends) { clients = same i }

  blank-scanned : (l : Logged) → scanned (blanked scan) l ≡ blanked (scanned scan l)
  blank-scanned (Accept client number to entry words) = blank-accept client number to entry words
  blank-scanned (Deliver id received effect sends) = blank-message (message_among id scan.pending) sends

-- ---- one event

same-client : (c k : ℕ) (id : MsgId) → id.origin ≡ Client c → k ≡ id.number → same_id (record { origin = Client c; number = k }) id ≡ true
same-client c k id is one =
    let a : same_origin (Client c) id.origin ≡ true = ap (same_origin (Client c)) is ∙ eq-eqb c c refl in
    let b : (k == id.number) ≡ true = eq-eqb k id.number one in
    λ i. a i && b i

module _ (w : World) (scan : LogScan) (begin : IsBeginning w (blanked scan)) (fit : IsFit w) (c k : ℕ) (same : reply_to (row_of scan.clients c) k ≡ reply_to (client_of w c) k) where
  row_alike : (d : ℕ) → AreAlike (row_of scan.clients d) (client_of w d)
  row_alike d = alike-rows scan.clients w.clients d begin.clients

  by-origin : (origin : Origin) (n : ℕ) (reply : List ℕ) → WasSent w origin n → (origin ≡ Client c → k ≢ n) →
      reply_to (row_of (answered scan.clients origin n []) c) k ≡ reply_to (row_of (answered w.clients origin n reply) c) k
  by-origin (Element x) n reply sent apart = same
  by-origin (Client d) n reply sent apart =
      let mine = (awaited-parts (client_of w d) n sent).0 in
      let mine_too : in_window (row_of scan.clients d) n ≡ true = alike-inside (row_of scan.clients d) (client_of w d) n (row_alike d) ∙ mine in
      let old = with_reply (row_of scan.clients d) n [] in
      let new = with_reply (client_of w d) n reply in
      ap (λ row. reply_to row k) (row_of-insert scan.clients d old c)
      ∙ (elim (eq_by_cmp nat_cmp c d) as (λ b. eq_by_cmp nat_cmp c d ≡ b → reply_to (cond b old (row_of scan.clients c)) k ≡ reply_to (cond b new (row_of w.clients c)) k) [
        | true ↦ λ is.
            let one = tells_apart exact_unsigned c d is in
            let not = apart (ap Client (sym one)) in
            reply-other (row_of scan.clients d) n k [] mine_too not
            ∙ subst (λ e. reply_to (row_of scan.clients e) k ≡ reply_to (client_of w e) k) one same
            ∙ sym (reply-other (client_of w d) n k reply mine not)
        | false ↦ λ _. same
      ] refl)
      ∙ sym (ap (λ row. reply_to row k) (row_of-insert w.clients d new c))

  pub same-after : (before : ℕ) (l : Logged) → happens w before l ≡ true → reply_by c k w (event_of l) ≡ None → reply_to (row_of (scanned scan l).clients c) k ≡ reply_to (client_of (after w (event_of l)) c) k
  same-after before (Accept client number to entry words) h none =
      let able = (both_parts _ _ (both_parts _ _ h).0).0 in
      let last = next_number w client number to entry words able in
      let old = with_request (row_of scan.clients client) number in
      let new = with_request (client_of w client) number in
      ap (λ row. reply_to row k) (row_of-insert scan.clients client old c)
      ∙ (elim (eq_by_cmp nat_cmp c client) as (λ b. eq_by_cmp nat_cmp c client ≡ b → reply_to (cond b old (row_of scan.clients c)) k ≡ reply_to (cond b new (row_of w.clients c)) k) [
        | true ↦ λ is.
            let one = tells_apart exact_unsigned c client is in
            request-alike (row_of scan.clients client) (client_of w client) number k (row_alike client) (fit.clients client).numbered last
            (subst (λ e. reply_to (row_of scan.clients e) k ≡ reply_to (client_of w e) k) one same)
        | false ↦ λ _. same
      ] refl)
      ∙ sym (ap (λ row. reply_to row k) (row_of-insert w.clients client new c))
  same-after before (Deliver id received effect sends) h none =
      let able = (both_parts _ _ (both_parts _ _ h).0).0 in
      let its = happening w id fit able in
      let m = its.message in
      let o = its.outcome in
      let message : IsMessage w m = found (IsMessage w) id w.pending m its.is_message fit.messages in
      let apart : m.id.origin ≡ Client c → k ≢ m.id.number = λ is one.
      (let yes_it : same_id (record { origin = Client c; number = k }) m.id ≡ true = same-client c k m.id is one in
      let some : (if same_id (record { origin = Client c; number = k }) m.id then Some o.reply else None) ≡ None = sym (replied w c k id its) ∙ none in
      let contra : Some o.reply ≡ None = sym (ap (λ b. if b then Some o.reply else None) yes_it) ∙ some in
      let never : ⊥ = cc in never) in
      ap (λ p. reply_to (row_of (scanned_message scan p sends).clients c) k) (ap (message_among id) begin.pending ∙ its.is_message)
      ∙ by-origin m.id.origin m.id.number o.reply message.sent apart
      ∙ sym (ap (λ (v : World). reply_to (client_of v c) k) (after-happening w id its))

-- ---- a log

nothing-else : (a b : Item) → or_else a b ≡ None → (a ≡ None) × (b ≡ None)
nothing-else None b h = (refl, h)
nothing-else (Some x) b h = absurd (let never : ⊥ = cc in never)

others-kept : (w : World) (before : ℕ) (scan : LogScan) (log : List Logged) (c k : ℕ) → IsFit w → AllByRecursion IsEvent (events_of log) → IsBeginning w (blanked scan) →
    first_failure (event_tests w before log) ≡ None → reply_to (row_of scan.clients c) k ≡ reply_to (client_of w c) k → last_reply c k w (events_of log) ≡ None →
    reply_to (row_of (scan_after scan log).clients c) k ≡ reply_to (client_of (world w (events_of log)) c) k
others-kept w before scan [] c k fit typed begin none same last = same
others-kept w before scan (l ∷ log) c k fit typed begin none same last =
    let e = event_of l in
    let v = after w e in
    let parts = none-first (happens w before l) (event_tests v (before + 1) log) none in
    let able = (both_parts _ _ (both_parts _ _ parts.0).0).0 in
    let two = nothing-else (last_reply c k v (events_of log)) (reply_by c k w e) last in
    let on : IsBeginning v (blanked (scanned scan l)) = subst (IsBeginning v) (blank-scanned w scan begin l) (go-on w (blanked scan) before l begin parts.0).begin in
    others-kept v (before + 1) (scanned scan l) log c k (fit-after w e fit typed.0 able) typed.1 on parts.1
    (same-after w scan begin fit c k same before l parts.0 two.1) two.0

blank-kept : (w : World) (before : ℕ) (scan : LogScan) (log : List Logged) → IsBeginning w (blanked scan) → first_failure (event_tests w before log) ≡ None →
    blank_rows (scan_after scan log).clients ≡ blank_rows (world w (events_of log)).clients
blank-kept w before scan [] begin none = begin.clients
blank-kept w before scan (l ∷ log) begin none =
    let v = after w (event_of l) in
    let parts = none-first (happens w before l) (event_tests v (before + 1) log) none in
    let on : IsBeginning v (blanked (scanned scan l)) = subst (IsBeginning v) (blank-scanned w scan begin l) (go-on w (blanked scan) before l begin parts.0).begin in
    blank-kept v (before + 1) (scanned scan l) log on parts.1

pub keeps-others : (w : World) (before : ℕ) (scan : LogScan) (log : List Logged) → IsFit w → AllByRecursion IsEvent (events_of log) → IsBeginning w scan →
    first_failure (event_tests w before log) ≡ None → AreButForReplies w (events_of log) (scan_after (record scan { clients = w.clients }) log).clients
keeps-others w before scan log fit typed begin none =
    let q : LogScan = record scan { clients = w.clients } in
    let begins : IsBeginning w (blanked q) = record { pending = begin.pending; sent = begin.sent; clients = refl } in
    record {
      blank = blank-kept w before q log begins none;
      others = λ c k last. others-kept w before q log c k fit typed begins none refl last;
    }
