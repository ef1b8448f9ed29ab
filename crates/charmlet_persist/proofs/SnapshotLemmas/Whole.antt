-- The bytes of the image of the present world as a whole.
use Rattle.std.proofs.Common.{◌≡◌, inr, ℕ, ◌+◌, ◌≤◌, ◌^◌, List, [], ◌∷◌, ◌++◌, length, drop, sym, ap, subst, ◌∙◌, append_assoc, length-append, arith}
use Rattle.std.specs.Prelude.{All, IfSome, Some, None}
use Rattle.std.specs.List.{AllByRecursion}
use Rattle.std.specs.Cmp.{nat_cmp_total}
use Rattle.std.specs.Ordering.{nat_cmp}
use Rattle.std.proofs.lemmas.List.{append-nil, drop_at, length-map}
use Rattle.std.proofs.lemmas.List.Elements.{All-from_recursion}
use Rattle.charmlet_pup.specs.Fields.{number_bytes}
use Rattle.charmlet_model.specs.declared.client.ClientRow.{ClientRow}
use Rattle.charmlet_model.specs.declared.message.Message.{Message}
use Rattle.charmlet_model.specs.Core.{Core, end_of_image, present}
use Rattle.charmlet_model.specs.Fit.{AreWords, IsFit, IsMessage, IsRow}
use Rattle.charmlet_model.specs.Row.{Item, no_client}
use Rattle.charmlet_model.specs.Spelling.{spell_list, spell_log, spell_message}
use Rattle.charmlet_model.specs.World.{World}
use Rattle.charmlet_model.proofs.Fits.{AllByRecursion-map}
use Rattle.charmlet_record.specs.Limits.{AreFewWords}
use Rattle.charmlet_record.specs.Reading.{Kinds}
use Rattle.charmlet_image.specs.declared.header.Mark.TheVariants.{Third}
use Rattle.charmlet_image.specs.FitImages.{image_of}
use Rattle.charmlet_image.specs.Images.{Saved, spell_array, spell_client, spell_entry, spell_half, spell_header, spell_image}
use Rattle.charmlet_image.proofs.FitImageLemmas.{all_entries, few_in}
use Rattle.charmlet_world.specs.Client.Client.{Rows}
use Rattle.charmlet_world.specs.Seen.{present_rows}
use Rattle.charmlet_recovery.specs.Stores.{saved_of}
use Rattle.charmlet_recovery.proofs.Writing.{halves_have_size, images_have_size}
use Rattle.charmlet_persist.specs.Snapshot.Showing.{AreShort, IsImageOf, PassesLimit, event_count, spell_present}

-- ---- a fit world's replies and messages are short

few_words : (item : Item) → IfSome item (AreWords 512) → IfSome item AreFewWords
few_words None is = tt
few_words (Some words) is = is.0

row_short : (row : ClientRow) → IsRow row → AreShort row
row_short row is =
    All-from_recursion (λ (item : Item). IfSome item AreFewWords) row.window (AllByRecursion-map (λ (item : Item). IfSome item (AreWords 512)) (λ (item : Item). IfSome item AreFewWords) row.window few_words is.replies)

kept_short : (es : List (ℕ × Rows)) → AllByRecursion (λ (e : ℕ × ClientRow). IsRow e.1) (present_rows es) → AllByRecursion (λ (e : ℕ × Rows). AreShort e.1.present) es
kept_short [] all = tt
kept_short (e ∷ es) all = (row_short e.1.present all.0, kept_short es all.1)

module _ (w : World) (fit : IsFit w) where
  pub rows_short : (es : List (ℕ × Rows)) → present_rows es ≡ w.clients → All (λ (e : ℕ × Rows). AreShort e.1.present) es
  rows_short es is =
      let rows = all_entries nat_cmp nat_cmp_total (λ c row. IsRow row) w.clients no_client fit.rising_clients fit.clients in
      All-from_recursion (λ (e : ℕ × Rows). AreShort e.1.present) es (kept_short es (subst (AllByRecursion (λ (e : ℕ × ClientRow). IsRow e.1)) (sym is) rows))

  pub rows_few : (es : List (ℕ × Rows)) → present_rows es ≡ w.clients → length es ≤ 1024
  rows_few es is =
      let same : length (present_rows es) ≡ length w.clients = ap (length {A = ℕ × ClientRow}) is in
      omega (arith, fit.few_clients, same, length-map {B = ℕ × ClientRow} es (λ (e : ℕ × Rows). (e.0, e.1.present)))

  pub messages_short : All (λ (m : Message). AreFewWords m.words) w.pending
  messages_short = All-from_recursion (λ (m : Message). AreFewWords m.words) w.pending (AllByRecursion-map (IsMessage w) (λ (m : Message). AreFewWords m.words) w.pending (λ m is. is.words.0) fit.messages)

-- ---- the lists, one after the other

regrouped : (b m c p r u : List ℕ) → ((((b ++ m) ++ c) ++ p) ++ r) ++ u ≡ b ++ (m ++ (c ++ (p ++ (r ++ (u ++ [])))))
regrouped b m c p r u = simp (append_assoc, append-nil)

module _ (core : Core) where
  abbrev w : World
  w = present core

  pub lists_are : (b b1 b2 b3 b4 b5 : List ℕ) (kinds : Kinds) (clients : List (ℕ × ClientRow)) (pending : List Message) → kinds ≡ w.manifest → clients ≡ w.clients → pending ≡ w.pending →
      b1 ≡ b ++ spell_list (spell_array Third) kinds → b2 ≡ b1 ++ spell_list (spell_client Third) clients → b3 ≡ b2 ++ spell_list spell_message pending → b4 ≡ b3 ++ spell_list spell_entry w.records →
      b5 ≡ b4 ++ number_bytes 4 0 → b5 ≡ b ++ spell_present core
  unfolding spell_image
  lists_are b b1 b2 b3 b4 b5 kinds clients pending is_k is_c is_p e1 e2 e3 e4 e5 =
      let m = spell_list (spell_array Third) w.manifest in
      let c = spell_list (spell_client Third) w.clients in
      let p = spell_list spell_message w.pending in
      let r = spell_list spell_entry w.records in
      let f1 : b1 ≡ b ++ m = e1 ∙ ap (λ (k : Kinds). b ++ spell_list (spell_array Third) k) is_k in
      let f2 : b2 ≡ (b ++ m) ++ c = e2 ∙ (λ i. f1 i ++ spell_list (spell_client Third) (is_c i)) in
      let f3 : b3 ≡ ((b ++ m) ++ c) ++ p = e3 ∙ (λ i. f2 i ++ spell_list spell_message (is_p i)) in
      let f4 : b4 ≡ (((b ++ m) ++ c) ++ p) ++ r = e4 ∙ ap (λ (t : List ℕ). t ++ r) f3 in
      e5 ∙ ap (λ (t : List ℕ). t ++ number_bytes 4 0) f4 ∙ regrouped b m c p r (number_bytes 4 0)

  pub end_is : end_of_image core ≡ 25 + length (spell_present core)
  end_is = let size = images_have_size w in omega arith

  -- a list that is too long for its count is too long for a file
  pub pending_pass_limit : 2 ^ 32 ≤ length w.pending → PassesLimit core
  pending_pass_limit many = let few = few_in Third (image_of w) in inr (omega (arith, few.0, end_is))

  pub records_pass_limit : 2 ^ 32 ≤ length w.records → PassesLimit core
  records_pass_limit many = let few = few_in Third (image_of w) in inr (omega (arith, few.1, end_is))

  -- the lists after the header's room, and the gate after them
  module _ (zeros lists pushed : List ℕ) (room : length zeros ≡ 24) (lists_after : lists ≡ zeros ++ spell_present core) (gate_after : pushed ≡ lists ++ 0 ∷ []) where
    pub lists_long : length lists ≡ 24 + length (spell_present core)
    lists_long = let same : length lists ≡ length (zeros ++ spell_present core) = ap (length {A = ℕ}) lists_after in omega (arith, same, room, length-append zeros (spell_present core))

    pub whole_long : length pushed ≡ end_of_image core
    whole_long = let same : length pushed ≡ length (lists ++ 0 ∷ []) = ap (length {A = ℕ}) gate_after in omega (arith, same, lists_long, end_is, length-append lists (0 ∷ []))

  -- the header's room filled, and the gate after the lists
  pub image_is : (zeros pushed bytes : List ℕ) (generation events size : ℕ) → length zeros ≡ 24 → pushed ≡ (zeros ++ spell_present core) ++ 0 ∷ [] →
      bytes ≡ spell_header (record { mark = Third; generation = generation; events = events; size = size }) ++ drop 24 pushed →
      generation ≡ core.generation + 1 → events ≡ event_count core → size ≡ length (spell_present core) → IsImageOf core bytes
  unfolding spell_half spell_log
  image_is zeros pushed bytes generation events size room gate is is_g is_e is_s =
      let saved : Saved = saved_of w (event_count core) (core.generation + 1) [] in
      let image = spell_present core in
      let header : record { mark = Third; generation = generation; events = events; size = size } ≡ saved.header = (λ i. record { mark = Third; generation = is_g i; events = is_e i; size = is_s i }) in
      let others : drop 24 pushed ≡ image ++ 0 ∷ [] = ap (drop 24) (gate ∙ append_assoc zeros image (0 ∷ [])) ∙ drop_at zeros (image ++ 0 ∷ []) 24 room in
      let text : 1 ∷ (spell_header saved.header ++ (image ++ 0 ∷ [])) ≡ (1 ∷ (spell_header saved.header ++ (image ++ []))) ++ 0 ∷ [] = ap (λ (t : List ℕ). 1 ∷ t) (simp (append_assoc, append-nil)) in
      ap (λ (t : List ℕ). 1 ∷ t) (is ∙ (λ i. spell_header (header i) ++ others i)) ∙ text

  pub length_is : (bytes : List ℕ) → IsImageOf core bytes → length bytes ≡ end_of_image core
  length_is bytes is =
      let half = spell_half (saved_of w (event_count core) (core.generation + 1) []) in
      let size = halves_have_size w (event_count core) (core.generation + 1) in
      let whole : length (1 ∷ bytes) ≡ length (half ++ 0 ∷ []) = ap (length {A = ℕ}) is in
      omega (arith, whole, size, length-append half (0 ∷ []))
