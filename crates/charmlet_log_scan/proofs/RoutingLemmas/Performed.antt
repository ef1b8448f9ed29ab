-- What a reaction of the right shape makes of a fit world is fit.
use Rattle.std.proofs.Common.{◌≡◌, ℕ, ◌^◌, ◌+◌, ◌<◌, ◌≤◌, Bool, true, false, cond, ◌&&◌, List, [], ◌∷◌, length, refl, sym, ap, subst, ◌∙◌, arith, inr, ◌≢◌}
use Rattle.std.specs.Prelude.{Some, None, IsSome, IsTrue, is_some, if◌then◌else◌, ◌==◌, unwrap_or}
use Rattle.std.specs.List.{All, AllByRecursion}
use Rattle.std.specs.List.Sorted.{IsStrictlySortedBy}
use Rattle.std.specs.Map.{lookup, keys_of, values_of}
use Rattle.std.specs.BTreeMap.{is_at}
use Rattle.std.specs.Ordering.{eq_by_cmp, nat_cmp}
use Rattle.std.specs.Cmp.{nat_cmp_total, nat_eq_equiv}
use Rattle.std.proofs.lemmas.Map.Views.{tells_apart, All-values-insert_entry, All-keys-insert_entry}
use Rattle.std.proofs.lemmas.Map.Lookups.{exact_unsigned}
use Rattle.charmlet_model.specs.declared.names.Elem.{Elem}
use Rattle.charmlet_model.specs.declared.names.Origin.{Origin}
use Rattle.charmlet_model.specs.declared.names.Origin.TheVariants.{Client, Element}
use Rattle.charmlet_model.specs.declared.names.MsgId.{MsgId}
use Rattle.charmlet_model.specs.declared.message.Message.{Message}
use Rattle.charmlet_model.specs.declared.message.Outgoing.{Outgoing}
use Rattle.charmlet_model.specs.declared.kind_version.KindVersion.{KindVersion}
use Rattle.charmlet_model.specs.declared.state.Record.{Record}
use Rattle.charmlet_model.specs.declared.reaction.Reaction.{Reaction}
use Rattle.charmlet_model.specs.declared.client.ClientRow.{ClientRow}
use Rattle.charmlet_model.specs.Names.{elem_cmp, same_origin, same_id}
use Rattle.charmlet_model.specs.Reaction.{greatest, kind_version_of}
use Rattle.charmlet_model.specs.Packed.{IsState}
use Rattle.charmlet_model.specs.Row.{no_client, awaits, with_reply}
use Rattle.charmlet_model.specs.World.{World, performed, without, numbered, answered, record_of, row_of, client_of, version_of_array, advanced}
use Rattle.charmlet_model.specs.Fit.{IsElem, IsOrigin, AreWords, AreApart, AreDistinct, WasSent, IsMessage, IsRecord, IsKept, IsRow, IsFit}
use Rattle.charmlet_model.proofs.Maps.{elem_total, elem_exact, same_from_test, rising-insert_entry, length-insert_entry, tied_elem}
use Rattle.charmlet_model.proofs.Histories.{row_of-insert, record_at-insert}
use Rattle.charmlet_model.proofs.Windows.{inside-parts, awaited-parts, others_await, row-with_reply, count-with_reply}
use Rattle.charmlet_model.proofs.Reactions.{IsOutgoing, IsReaction, AllByRecursion-append}
use Rattle.charmlet_model.proofs.Fits.{AllByRecursion-map, AllByRecursion-without, distinct-append, numbered-apart, numbered-distinct, same_id-is, IfSome-map}

true-false : {P : Type 0} (b : Bool) → b ≡ true → b ≡ false → P
true-false b p q = cc

All-both : {A : Type 0} (P Q : A → Type 0) (xs : List A) → AllByRecursion P xs → AllByRecursion Q xs → AllByRecursion (λ x. P x × Q x) xs
All-both P Q [] h k = tt
All-both P Q (x ∷ xs) h k = ((h.0, k.0), All-both P Q xs h.1 k.1)

distinct-without : (id : MsgId) (ms : List Message) → AreDistinct ms → AreDistinct (without id ms)
distinct-without id [] h = tt
distinct-without id (m ∷ ms) h =
    elim (same_id id m.id) as (λ b. AreDistinct (if b then ms else m ∷ without id ms)) [
      | true ↦ h.1
      | false ↦ (AllByRecursion-without (λ n. same_id m.id n.id ≡ false) id ms h.0, distinct-without id ms h.1)
    ]

without-apart : (id : MsgId) (ms : List Message) → AreDistinct ms → AreApart id (without id ms)
without-apart id [] h = tt
without-apart id (m ∷ ms) h =
    elim (same_id id m.id) as (λ b. same_id id m.id ≡ b → AreApart id (if b then ms else m ∷ without id ms)) [
      | true ↦ λ same. subst (λ i. AreApart i ms) (sym (same_id-is id m.id same)) h.0
      | false ↦ λ apart. (apart, without-apart id ms h.1)
    ] refl

numbered-messages : (w : World) (from : Elem) (ss : List Outgoing) (sent : ℕ) → sent + length ss ≤ (record_of w from).sent → IsElem w.manifest from →
    AllByRecursion (IsOutgoing from) ss → AllByRecursion (IsMessage w) (numbered from sent ss)
numbered-messages w from [] sent room known h = tt
numbered-messages w from (s ∷ ss) sent room known h = (
  record {
    origin = known;
    sent = (omega arith, omega arith);
    to = record { array = subst (λ a. IsSome (version_of_array w a)) (sym h.0.array) known.array; index = h.0.index };
    entry = h.0.entry;
    words = h.0.words;
  },
  numbered-messages w from ss (sent + 1) (omega arith) known h.1,
)

module _ (w : World) (m : Message) (o : Reaction) where
  abbrev v : World
  v = performed w m (Some o)

  abbrev next : Record
  next = advanced (record_of w m.to) o

  sent_grows : (x : Elem) → (record_of w x).sent ≤ (record_of v x).sent
  sent_grows x =
      subst (λ r. (record_of w x).sent ≤ r.sent) (sym (record_at-insert w.records m.to next x))
      (elim (eq_by_cmp elem_cmp x m.to) as (λ b. eq_by_cmp elem_cmp x m.to ≡ b → (record_of w x).sent ≤ (cond b next (record_of w x)).sent) [
        | true ↦ λ same. let here = ap (λ y. (record_of w y).sent) (tells_apart elem_exact x m.to same) in omega arith
        | false ↦ λ _. omega arith
      ] refl)

  record_here : record_of v m.to ≡ next
  record_here = record_at-insert w.records m.to next m.to ∙ ap (λ b. cond b next (record_of w m.to)) (tied_elem m.to)

  -- the row of a client, as the reply leaves it
  abbrev replied : ℕ → ℕ → ClientRow
  replied k number = with_reply (row_of w.clients k) number o.reply

  -- who waits for another message goes on waiting
  still_waits : (origin : Origin) (number c n : ℕ) → WasSent w origin number → WasSent w (Client c) n → (same_origin origin (Client c) && (number == n)) ≡ false →
      IsTrue (awaits (row_of (answered w.clients origin number o.reply) c) n)
  still_waits (Element x) number c n mine h apart = h
  still_waits (Client k) number c n mine h apart =
      subst (λ r. IsTrue (awaits r n)) (sym (row_of-insert w.clients k (replied k number) c))
      (elim (eq_by_cmp nat_cmp c k) as (λ b. eq_by_cmp nat_cmp c k ≡ b → IsTrue (awaits (cond b (replied k number) (client_of w c)) n)) [
        | true ↦ λ same.
            let is = tells_apart exact_unsigned c k same in
            others_await (client_of w k) number o.reply (awaited-parts (client_of w k) number mine).0 n (other is)
            (subst (λ j. awaits (client_of w j) n ≡ true) is h)
        | false ↦ λ _. h
      ] refl)
    where
      other : c ≡ k → n ≢ number
      other is one =
          let one_client : (k == c) ≡ true = subst (λ j. (k == j) ≡ true) (sym is) (nat_eq_equiv.refl k) in
          let one_number : (number == n) ≡ true = subst (λ j. (number == j) ≡ true) (sym one) (nat_eq_equiv.refl number) in
          true-false ((k == c) && (number == n)) (ap (λ b. b && (number == n)) one_client ∙ one_number) apart

  still_pending : WasSent w m.id.origin m.id.number → (origin : Origin) (number : ℕ) → WasSent w origin number → same_id m.id (record { origin = origin; number = number }) ≡ false → WasSent v origin number
  still_pending mine (Element x) number h apart = (h.0, let grows = sent_grows x in omega (arith, h.1))
  still_pending mine (Client c) number h apart = still_waits m.id.origin m.id.number c number mine h apart

  rising_answered : (origin : Origin) (number : ℕ) → IsStrictlySortedBy nat_cmp (keys_of w.clients) → IsStrictlySortedBy nat_cmp (keys_of (answered w.clients origin number o.reply))
  rising_answered (Element x) number h = h
  rising_answered (Client k) number h = rising-insert_entry nat_cmp nat_cmp_total k (replied k number) w.clients h

  -- a client that waits for a reply has a row
  abbrev IsKnown : Origin → Type 0
  IsKnown (Element x) = Unit {0}
  IsKnown (Client k) = is_some (lookup (is_at (nat_cmp k)) w.clients) ≡ true

  row_known : (origin : Origin) (number : ℕ) → WasSent w origin number → IsKnown origin
  row_known (Element x) number h = tt
  row_known (Client k) number h =
      elim (lookup (is_at (nat_cmp k)) w.clients) as (λ found. awaits (unwrap_or found no_client) number ≡ true → is_some found ≡ true) [
        | None ↦ λ none. let inside = inside-parts no_client number (awaited-parts no_client number none).0 in absurd (omega arith)
        | Some _ ↦ λ _. refl
      ] h

  few_answered : (origin : Origin) (number : ℕ) → IsKnown origin → IsStrictlySortedBy nat_cmp (keys_of w.clients) → length w.clients ≤ 1024 → length (answered w.clients origin number o.reply) ≤ 1024
  few_answered (Element x) number known rising few = few
  few_answered (Client k) number known rising few =
      let whole = length-insert_entry nat_cmp nat_cmp_total k (replied k number) w.clients rising in
      let same = ap (λ b. cond b (length w.clients) (length w.clients + 1)) known in
      omega arith

  nonzero_answered : (origin : Origin) (number : ℕ) → WasSent w origin number → ((c : ℕ) → IsRow (client_of w c)) →
      All (λ (row : ClientRow). 0 < length row.window) (values_of w.clients) → All (λ (row : ClientRow). 0 < length row.window) (values_of (answered w.clients origin number o.reply))
  nonzero_answered (Element x) number sent rows h = h
  nonzero_answered (Client k) number sent rows h =
      let inside = inside-parts (client_of w k) number (awaited-parts (client_of w k) number sent).0 in
      let count = count-with_reply (client_of w k) number o.reply in
      All-values-insert_entry nat_cmp k (replied k number) (λ (r : ClientRow). 0 < length r.window) w.clients h (omega arith)

  small_answered : (origin : Origin) (number : ℕ) → IsOrigin w.manifest origin → All (λ c. c < 2 ^ 32) (keys_of w.clients) → All (λ c. c < 2 ^ 32) (keys_of (answered w.clients origin number o.reply))
  small_answered (Element x) number known h = h
  small_answered (Client k) number known h = All-keys-insert_entry nat_cmp k (replied k number) (λ (c : ℕ). c < 2 ^ 32) w.clients h known

  rows_answered : (origin : Origin) (number : ℕ) → AreWords 512 o.reply → ((c : ℕ) → IsRow (client_of w c)) → (c : ℕ) → IsRow (row_of (answered w.clients origin number o.reply) c)
  rows_answered (Element x) number short h c = h c
  rows_answered (Client k) number short h c =
      subst IsRow (sym (row_of-insert w.clients k (replied k number) c))
      (elim (eq_by_cmp nat_cmp c k) as (λ b. IsRow (cond b (replied k number) (client_of w c))) [ true ↦ row-with_reply (client_of w k) number o.reply (h k) short | false ↦ h c ])

  pub fit-perform : IsFit w → (kind_version : KindVersion) → version_of_array w m.to.array ≡ Some kind_version → IsMessage w m → IsReaction kind_version m.to o →
      (record_of w m.to).received + 1 ≤ greatest → (record_of w m.to).sent + 16 ≤ greatest → IsFit v
  fit-perform fit kind_version known message reaction counts room =
      let left = without m.id w.pending in
      let sends = numbered m.to (record_of w m.to).sent o.sends in
      let old : AllByRecursion (λ n. IsMessage w n × (same_id m.id n.id ≡ false)) left =
      All-both (IsMessage w) (λ n. same_id m.id n.id ≡ false) left
      (AllByRecursion-without (IsMessage w) m.id w.pending fit.messages) (without-apart m.id w.pending fit.distinct) in
      let enough : (record_of w m.to).sent + length o.sends ≤ (record_of v m.to).sent = let here = ap (λ (r : Record). r.sent) record_here in omega arith in
      record {
        rising_arrays = fit.rising_arrays;
        rising_records = rising-insert_entry elem_cmp elem_total m.to next w.records fit.rising_records;
        rising_clients = rising_answered m.id.origin m.id.number fit.rising_clients;
        small_arrays = fit.small_arrays;
        small_clients = small_answered m.id.origin m.id.number message.origin fit.small_clients;
        known_records = All-keys-insert_entry elem_cmp m.to next (IsElem w.manifest) w.records fit.known_records message.to;
        some_arrays = fit.some_arrays;
        few_arrays = fit.few_arrays;
        few_clients = few_answered m.id.origin m.id.number (row_known m.id.origin m.id.number message.sent) fit.rising_clients fit.few_clients;
        no_empty_record = All-values-insert_entry elem_cmp m.to next IsKept w.records fit.no_empty_record (inr (omega arith));
        no_empty_row = nonzero_answered m.id.origin m.id.number message.sent fit.clients fit.no_empty_row;
        distinct = distinct-append left sends (distinct-without m.id w.pending fit.distinct) (numbered-distinct m.to o.sends (record_of w m.to).sent)
            (AllByRecursion-map (λ n. IsMessage w n × (same_id m.id n.id ≡ false)) (λ n. AreApart n.id sends) left
            (λ n k. numbered-apart n.id m.to o.sends (record_of w m.to).sent (used n.id.origin n.id.number k.0.sent)) old);
        messages = AllByRecursion-append (IsMessage v) left sends
            (AllByRecursion-map (λ n. IsMessage w n × (same_id m.id n.id ≡ false)) (IsMessage v) left
            (λ n k. record { origin = k.0.origin; sent = still_pending message.sent n.id.origin n.id.number k.0.sent k.1; to = k.0.to; entry = k.0.entry; words = k.0.words }) old)
            (numbered-messages v m.to o.sends (record_of w m.to).sent enough message.to reaction.sends);
        records = λ x.
            subst (IsRecord (version_of_array w x.array)) (sym (record_at-insert w.records m.to next x))
            (elim (eq_by_cmp elem_cmp x m.to) as (λ b. eq_by_cmp elem_cmp x m.to ≡ b → IsRecord (version_of_array w x.array) (cond b next (record_of w x))) [
              | true ↦ λ same. subst (λ y. IsRecord (version_of_array w y.array) next) (sym (tells_apart elem_exact x m.to same))
                  (record {
                    state = IfSome-map (λ s. (kind_version_of s ≡ kind_version) × IsState s) (λ s. (version_of_array w m.to.array ≡ Some (kind_version_of s)) × IsState s) o.state (λ s k. (known ∙ ap Some (sym k.0), k.1)) reaction.state;
                    sent = let few = reaction.count in omega arith;
                    received = counts;
                  })
              | false ↦ λ _. fit.records x
            ] refl);
        clients = rows_answered m.id.origin m.id.number reaction.reply fit.clients;
      }
    where
      used : (origin : Origin) (number : ℕ) → WasSent w origin number → same_origin origin (Element m.to) ≡ true → number ≤ (record_of w m.to).sent
      used (Client c) number h same = absurd (let no : ⊥ = cc in no)
      used (Element x) number h same = let here = ap (λ y. (record_of w y).sent) (same_from_test x m.to same) in omega (arith, h.1)
