-- The equality by which a table compares ids is the model's.
use Rattle.std.proofs.Common.{◌≡◌, ℕ, refl, sym, ap, ◌∙◌, Bool, true, false, not, ◌&&◌, ◌||◌, cond, eqb, List, [], ◌∷◌, ◌++◌, map, Ok}
use Rattle.std.specs.Prelude.{◌==◌}
use Rattle.std.specs.Cmp.{both_ways}
use Rattle.std.specs.List.{list_any}
use Rattle.std.proofs.lemmas.Bool.{eqb-true, eq-eqb}
use Rattle.charmlet_model.specs.declared.names.Origin.{Origin}
use Rattle.charmlet_model.specs.declared.names.Origin.TheVariants.{Client, Element}
use Rattle.charmlet_model.specs.declared.names.MsgId.{MsgId}
use Rattle.charmlet_model.specs.declared.message.Message.{Message}
use Rattle.charmlet_model.specs.Names.{same_id, same_origin}
use Rattle.charmlet_model.specs.contracts.names.MsgIdPartialEq.TheImpl.{eq-value}
use Rattle.charmlet_record.specs.declared.positioned.Positioned.{Positioned}
use Rattle.charmlet_record.specs.Reading.{Kinds, then_read, ◌>>=◌, yield, read_elem, read_number, read_words, read_message_of}
use Rattle.charmlet_record.proofs.Formats.{go_ok, ok_parts}
use Rattle.charmlet_image.specs.Ids.{is_absent}
use Rattle.charmlet_image.specs.Positioned.{items_of}
use Rattle.charmlet_image.specs.Reading.{is_fresh}

-- the equality by which a table compares ids
abbrev pub table_eq : MsgId → MsgId → Bool
table_eq = eq-value.it

agree_at : (o p : Origin) (m n : ℕ) → table_eq (record { origin = o; number = m }) (record { origin = p; number = n }) ≡ (same_origin o p && (m == n))
agree_at (Client a) (Client b) m n = refl
agree_at (Element a) (Element b) m n = refl
agree_at (Client a) (Element b) m n = refl
agree_at (Element a) (Client b) m n = refl

agree : (a b : MsgId) → table_eq a b ≡ same_id a b
agree a b = agree_at a.origin b.origin a.number b.number

pub table_eq-is : table_eq ≡ same_id
table_eq-is = λ i a b. agree a b i

turned_number : (a b : ℕ) → eqb a b ≡ eqb b a
turned_number a b = both_ways (eqb a b) (eqb b a) (λ h. eq-eqb _ _ (sym (eqb-true _ _ h))) (λ h. eq-eqb _ _ (sym (eqb-true _ _ h)))

turned_origin : (o p : Origin) → same_origin o p ≡ same_origin p o
turned_origin (Client a) (Client b) = turned_number a b
turned_origin (Element a) (Element b) = λ i. turned_number a.array b.array i && turned_number a.index b.index i
turned_origin (Client a) (Element b) = refl
turned_origin (Element a) (Client b) = refl

turned : (a b : MsgId) → same_id a b ≡ same_id b a
turned a b = λ i. turned_origin a.origin b.origin i && turned_number a.number b.number i

not_or : (a b : Bool) → not (a || b) ≡ (not a && not b)
not_or true b = refl
not_or false b = refl

absent_at : (placed : List (Positioned Message)) (id : MsgId) → is_absent (map (λ p. p.item.id) placed) id ≡ is_fresh (items_of placed) id
absent_at [] id = refl
absent_at (p ∷ ps) id =
    not_or (same_id id p.item.id) (list_any (same_id id) (map (λ q. q.item.id) ps))
    ∙ λ i. not (turned id p.item.id i) && absent_at ps id i

-- no message has an id where the table has not
pub absent_is_fresh : (placed : List (Positioned Message)) → is_absent (map (λ p. p.item.id) placed) ≡ is_fresh (items_of placed)
absent_is_fresh placed = λ i id. absent_at placed id i

-- the keys of a table to which an id went that it had not
pub new_key : (keys : List MsgId) (id : MsgId) → is_absent keys id ≡ true → cond (list_any (table_eq id) keys) keys (keys ++ id ∷ []) ≡ keys ++ id ∷ []
new_key keys id absent =
    ap (λ (same : MsgId → MsgId → Bool). cond (list_any (same id) keys) keys (keys ++ id ∷ [])) table_eq-is
    ∙ by (list_any (same_id id) keys) absent
  where
    by : (b : Bool) → not b ≡ true → cond b keys (keys ++ id ∷ []) ≡ keys ++ id ∷ []
    by true h = absurd cc
    by false h = refl

-- a message has the id that was read before it
pub message_has_id : (kinds : Kinds) (id : MsgId) (bytes : List ℕ) (x : Message × List ℕ) → read_message_of kinds id bytes ≡ Ok x → x.0.id ≡ id
unfolding read_message_of then_read
message_has_id kinds id bytes x e =
    let to = go_ok (read_elem kinds bytes) (λ to. read_number 2 >>= λ entry. read_words >>= λ words. yield (record { id = id; to = to; entry = entry; words = words })) x e in
    let entry = go_ok (read_number 2 to.0.1) (λ entry. read_words >>= λ words. yield (record { id = id; to = to.0.0; entry = entry; words = words })) x to.2 in
    let words = go_ok (read_words entry.0.1) (λ words. yield (record { id = id; to = to.0.0; entry = entry.0.0; words = words })) x entry.2 in
    let made : Message = record { id = id; to = to.0.0; entry = entry.0.0; words = words.0.0 } in
    ap (λ (m : Message). m.id) (sym (ok_parts made words.0.1 x words.2).0)
