-- The numbers that origins have given.
use Rattle.std.proofs.Common.{◌≡◌, ℕ, ◌+◌, ◌<◌, ◌≤◌, Bool, true, false, cond, List, [], ◌∷◌, length, refl, sym, ap, subst, ◌∙◌, arith, le_refl}
use Rattle.std.specs.Prelude.{Option, Some, None, unwrap_or}
use Rattle.std.specs.Cmp.{nat_cmp_total}
use Rattle.std.specs.List.{AllByRecursion}
use Rattle.std.specs.Ordering.{eq_by_cmp, nat_cmp}
use Rattle.std.specs.BTreeMap.{insert_entry, is_at}
use Rattle.std.specs.Map.{lookup}
use Rattle.std.proofs.lemmas.Bool.{eqb-true}
use Rattle.std.proofs.lemmas.Map.Lookups.{exact_unsigned}
use Rattle.std.proofs.lemmas.Map.Views.{tells_apart}
use Rattle.charmlet_model.specs.declared.client.ClientRow.{ClientRow}
use Rattle.charmlet_model.specs.declared.names.Elem.{Elem}
use Rattle.charmlet_model.specs.declared.names.MsgId.{MsgId}
use Rattle.charmlet_model.specs.declared.names.Origin.{Origin}
use Rattle.charmlet_model.specs.declared.names.Origin.TheVariants.{Client, Element}
use Rattle.charmlet_model.specs.declared.message.Message.{Message}
use Rattle.charmlet_model.specs.declared.message.Outgoing.{Outgoing}
use Rattle.charmlet_model.specs.declared.logged.Logged.{Logged}
use Rattle.charmlet_model.specs.declared.logged.Logged.TheVariants.{Accept, Deliver}
use Rattle.charmlet_model.specs.Names.{elem_cmp, same_id}
use Rattle.charmlet_model.specs.Row.{no_client, with_reply, with_request}
use Rattle.charmlet_model.specs.World.{answered, message_among, numbered, request, row_of, without}
use Rattle.charmlet_model.proofs.Fits.{AllByRecursion-map, AllByRecursion-without, same_id-is, tied_itself-nat}
use Rattle.charmlet_model.proofs.Maps.{both_parts, elem_total, elem_exact, lookup-insert_entry, tied_elem}
use Rattle.charmlet_model.proofs.Reactions.{AllByRecursion-append}
use Rattle.charmlet_record.specs.Reading.{Kinds}
use Rattle.charmlet_recovery.specs.Replays.{LogScan, scanned, scanned_message, scans, sent_at}
use Rattle.charmlet_log_scan.specs.Partition.Known.{AreGiven, given_by}

unwrapped : {X : Type 0} (b : Bool) (x d : X) (o : Option X) → unwrap_or (cond b (Some x) o) d ≡ cond b x (unwrap_or o d)
unwrapped true x d o = refl
unwrapped false x d o = refl

row_of-insert : (rows : List (ℕ × ClientRow)) (k : ℕ) (row : ClientRow) (c : ℕ) → row_of (insert_entry nat_cmp rows k row) c ≡ cond (eq_by_cmp nat_cmp c k) row (row_of rows c)
row_of-insert rows k row c = ap (λ o. unwrap_or o no_client) (lookup-insert_entry nat_cmp nat_cmp_total c k row rows) ∙ unwrapped (eq_by_cmp nat_cmp c k) row no_client (lookup (is_at (nat_cmp c)) rows)

sent_at-insert : (sent : List (Elem × ℕ)) (k : Elem) (n : ℕ) (x : Elem) → sent_at (insert_entry elem_cmp sent k n) x ≡ cond (eq_by_cmp elem_cmp x k) n (sent_at sent x)
sent_at-insert sent k n x = ap (λ o. unwrap_or o 0) (lookup-insert_entry elem_cmp elem_total x k n sent) ∙ unwrapped (eq_by_cmp elem_cmp x k) n 0 (lookup (is_at (elem_cmp x)) sent)

-- ---- a new id is no pending one

pub is-new : (scan : LogScan) (ms : List Message) (id : MsgId) → AllByRecursion (λ (m : Message). m.id.number ≤ given_by scan m.id.origin) ms → given_by scan id.origin < id.number → message_among id ms ≡ None
is-new scan [] id given new = refl
is-new scan (m ∷ ms) id given new =
    elim (same_id id m.id) as (λ b. same_id id m.id ≡ b → cond b (Some m) (message_among id ms) ≡ None) [
      | true ↦ λ same.
          let is = same_id-is id m.id same in
          let low : id.number ≤ given_by scan id.origin = subst (λ (i : MsgId). i.number ≤ given_by scan i.origin) (sym is) given.0 in
          absurd (let no : ⊥ = omega (arith, low, new) in no)
      | false ↦ λ _. is-new scan ms id given.1 new
    ] refl

-- ---- numbers only grow

row-grows : (rows : List (ℕ × ClientRow)) (k : ℕ) (row : ClientRow) → (row_of rows k).last ≤ row.last → (c : ℕ) → (row_of rows c).last ≤ (row_of (insert_entry nat_cmp rows k row) c).last
row-grows rows k row grows c =
    subst (λ (r : ClientRow). (row_of rows c).last ≤ r.last) (sym (row_of-insert rows k row c))
    (elim (eq_by_cmp nat_cmp c k) as (λ b. eq_by_cmp nat_cmp c k ≡ b → (row_of rows c).last ≤ (cond b row (row_of rows c)).last) [
      | true ↦ λ same. subst (λ d. (row_of rows d).last ≤ row.last) (sym (tells_apart exact_unsigned c k same)) grows
      | false ↦ λ _. le_refl (row_of rows c).last
    ] refl)

answered-grows : (rows : List (ℕ × ClientRow)) (origin : Origin) (number : ℕ) (reply : List ℕ) (c : ℕ) → (row_of rows c).last ≤ (row_of (answered rows origin number reply) c).last
answered-grows rows (Element x) number reply c = le_refl (row_of rows c).last
answered-grows rows (Client k) number reply c = row-grows rows k (with_reply (row_of rows k) number reply) (le_refl (row_of rows k).last) c

sent-grows : (sent : List (Elem × ℕ)) (k : Elem) (more : ℕ) (x : Elem) → sent_at sent x ≤ sent_at (insert_entry elem_cmp sent k (sent_at sent k + more)) x
sent-grows sent k more x =
    subst (λ n. sent_at sent x ≤ n) (sym (sent_at-insert sent k (sent_at sent k + more) x))
    (elim (eq_by_cmp elem_cmp x k) as (λ b. eq_by_cmp elem_cmp x k ≡ b → sent_at sent x ≤ cond b (sent_at sent k + more) (sent_at sent x)) [
      | true ↦ λ same. subst (λ y. sent_at sent y ≤ sent_at sent k + more) (sym (tells_apart elem_exact x k same)) (omega arith)
      | false ↦ λ _. le_refl (sent_at sent x)
    ] refl)

still-given : (old new : LogScan) (ms : List Message) → ((origin : Origin) → given_by old origin ≤ given_by new origin) → AllByRecursion (λ (m : Message). m.id.number ≤ given_by old m.id.origin) ms →
    AllByRecursion (λ (m : Message). m.id.number ≤ given_by new m.id.origin) ms
still-given old new ms grows given =
    AllByRecursion-map (λ (m : Message). m.id.number ≤ given_by old m.id.origin) (λ (m : Message). m.id.number ≤ given_by new m.id.origin) ms
    (λ m low. let more = grows m.id.origin in omega (arith, low, more)) given

-- ---- a request

accepted : (manifest : Kinds) (scan : LogScan) (before client number : ℕ) (to : Elem) (entry : ℕ) (words : List ℕ) → scans manifest scan before (Accept client number to entry words) ≡ true → (row_of scan.clients client).last + 1 ≡ number
accepted manifest scan before client number to entry words h =
    let next = both_parts _ _ (both_parts _ _ (both_parts _ _ (both_parts _ _ (both_parts _ _ h).0).0).0).0 in
    sym (eqb-true number ((row_of scan.clients client).last + 1) (both_parts _ _ next.0).0)

after-request : (manifest : Kinds) (scan : LogScan) (before client number : ℕ) (to : Elem) (entry : ℕ) (words : List ℕ) → AreGiven scan → scans manifest scan before (Accept client number to entry words) ≡ true →
    AreGiven (scanned scan (Accept client number to entry words))
after-request manifest scan before client number to entry words given h =
    let new = scanned scan (Accept client number to entry words) in
    let next = accepted manifest scan before client number to entry words h in
    let row = with_request (row_of scan.clients client) number in
    let grows : (origin : Origin) → given_by scan origin ≤ given_by new origin = grows_by next in
    let here : number ≤ (row_of new.clients client).last =
    subst (λ (r : ClientRow). number ≤ r.last) (sym (row_of-insert scan.clients client row client))
    (subst (λ b. number ≤ (cond b row (row_of scan.clients client)).last) (sym (tied_itself-nat client)) (le_refl number)) in
    AllByRecursion-append (λ (m : Message). m.id.number ≤ given_by new m.id.origin) scan.pending (request client number to entry words ∷ []) (still-given scan new scan.pending grows given) (here, tt)
  where
    grows_by : (row_of scan.clients client).last + 1 ≡ number → (origin : Origin) → given_by scan origin ≤ given_by (scanned scan (Accept client number to entry words)) origin
    grows_by next (Element x) = le_refl (sent_at scan.sent x)
    grows_by next (Client c) = row-grows scan.clients client (with_request (row_of scan.clients client) number) (omega (arith, next)) c

-- ---- a delivery

sends-given : (scan : LogScan) (from : Elem) (sent : ℕ) (ss : List Outgoing) → sent + length ss ≤ sent_at scan.sent from → AllByRecursion (λ (m : Message). m.id.number ≤ given_by scan m.id.origin) (numbered from sent ss)
sends-given scan from sent [] enough = tt
sends-given scan from sent (s ∷ ss) enough = (omega (arith, enough), sends-given scan from (sent + 1) ss (omega (arith, enough)))

after-message : (scan : LogScan) (m : Option Message) (sends : List Outgoing) → AreGiven scan → AreGiven (scanned_message scan m sends)
after-message scan None sends given = given
after-message scan (Some m) sends given =
    let new = scanned_message scan (Some m) sends in
    let all = sent_at scan.sent m.to + length sends in
    let here : all ≤ sent_at new.sent m.to =
    subst (λ n. all ≤ n) (sym (sent_at-insert scan.sent m.to all m.to)) (subst (λ b. all ≤ cond b all (sent_at scan.sent m.to)) (sym (tied_elem m.to)) (le_refl all)) in
    AllByRecursion-append (λ (n : Message). n.id.number ≤ given_by new n.id.origin) (without m.id scan.pending) (numbered m.to (sent_at scan.sent m.to) sends)
    (still-given scan new (without m.id scan.pending) grows (AllByRecursion-without (λ (n : Message). n.id.number ≤ given_by scan n.id.origin) m.id scan.pending given))
    (sends-given new m.to (sent_at scan.sent m.to) sends here)
  where
    grows : (origin : Origin) → given_by scan origin ≤ given_by (scanned_message scan (Some m) sends) origin
    grows (Element x) = sent-grows scan.sent m.to (length sends) x
    grows (Client c) = answered-grows scan.clients m.id.origin m.id.number [] c

pub stays-given : (manifest : Kinds) (scan : LogScan) (before : ℕ) (l : Logged) → AreGiven scan → scans manifest scan before l ≡ true → AreGiven (scanned scan l)
stays-given manifest scan before (Accept client number to entry words) given h = after-request manifest scan before client number to entry words given h
stays-given manifest scan before (Deliver id received effect sends) given h = after-message scan (message_among id scan.pending) sends given
