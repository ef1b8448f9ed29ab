-- Lists whose items depend on those before them keep the two laws.
use Rattle.std.proofs.Common.{arith, ◌≡◌, ℕ, zero, suc, ◌^◌, ◌<◌, Bool, List, [], ◌∷◌, ◌++◌, length, Ok, IsTrue, refl, sym, ap, subst, ◌∙◌, append_assoc}
use Rattle.std.specs.List.{flat_map}
use Rattle.std.proofs.lemmas.List.{append-nil}
use Rattle.charmlet_model.specs.declared.names.MsgId.{MsgId}
use Rattle.charmlet_model.specs.Spelling.{spell_list, spell_message}
use Rattle.charmlet_record.specs.Reading.{Reads, then_read, read_within, read_id, read_message_of, Kinds}
use Rattle.charmlet_record.specs.Lawful.{IsBytes, Lawful, InRange, Within}
use Rattle.charmlet_record.specs.Written.{IsMessage}
use Rattle.charmlet_record.proofs.Formats.{from_as, field, go_ok, ok_parts, counted, checked-lawful, IsBytes-after}
use Rattle.charmlet_record.proofs.Fields.{id-lawful, message_of-as}
use Rattle.charmlet_record.proofs.Reach.{and_then, yields, range_within, number_within, checked_within, elem_within, id_within, words_within}
use Rattle.charmlet_image.specs.After.{read_after, read_list_after, read_message_if}

-- each item may come next after those before it
abbrev pub AllAfter : {X : Type 0} → (List X → X → Type 0) → List X → List X → Type 0
AllAfter Next before [] = Unit {0}
AllAfter Next before (x ∷ xs) = Next before x × AllAfter Next (before ++ x ∷ []) xs

-- what was read so, after those before it
pub after_taken : {X : Type 0} {Next : List X → X → Type 0} {spell : X → List ℕ} {read : List X → Reads X} → ((before : List X) → Lawful (Next before) spell (read before)) → (before : List X) (n : ℕ) (bytes : List ℕ) (y : List X × List ℕ) → IsBytes bytes → read_after read n before bytes ≡ Ok y →
    (xs : List X) × (y.0 ≡ before ++ xs) × (bytes ≡ flat_map spell xs ++ y.1) × (length xs ≡ n) × AllAfter Next before xs
unfolding read_after then_read
after_taken f before zero bytes y fits e =
    let made = ok_parts before bytes y e in
    ([], sym made.0 ∙ sym (append-nil before), made.1, refl, tt)
after_taken {spell = spell} {read = read} f before (suc n) bytes y fits e =
    let a = go_ok (read before bytes) (λ x. read_after read n (before ++ x ∷ [])) y e in
    let first = (f before).spelled_so bytes a.0 fits a.1 in
    let others = after_taken f (before ++ a.0.0 ∷ []) n a.0.1 y (IsBytes-after bytes (spell a.0.0) a.0.1 first.0 fits) a.2 in
    let text = first.0 ∙ ap (λ (t : List ℕ). spell a.0.0 ++ t) others.2 ∙ sym (append_assoc (spell a.0.0) (flat_map spell others.0) y.1) in
    (a.0.0 ∷ others.0, others.1 ∙ append_assoc before (a.0.0 ∷ []) others.0, text, ap suc others.3, (first.1, others.4))

-- so many items, each by those before it
pub after-lawful : {X : Type 0} {Next : List X → X → Type 0} {spell : X → List ℕ} {read : List X → Reads X} → ((before : List X) → Lawful (Next before) spell (read before)) →
    (n : ℕ) → Lawful (λ xs. (length xs ≡ n) × AllAfter Next [] xs) (flat_map spell) (read_after read n [])
unfolding read_after then_read
after-lawful {X = X} {Next = Next} {spell = spell} {read = read} f n = record {
  read_back = λ xs rest is. subst (λ (k : ℕ). read_after read k [] (flat_map spell xs ++ rest) ≡ Ok (xs, rest)) is.0 (again [] xs rest is.1);
  spelled_so = λ bytes xs fits e.
      let t = after_taken f [] n bytes xs fits e in
      subst (λ (ys : List X). (bytes ≡ flat_map spell ys ++ xs.1) × ((length ys ≡ n) × AllAfter Next [] ys)) (sym t.1) (t.2, (t.3, t.4));
}
  where
    again : (before xs : List X) (rest : List ℕ) → AllAfter Next before xs → read_after read (length xs) before (flat_map spell xs ++ rest) ≡ Ok (before ++ xs, rest)
    again before [] rest all = ap (λ (ys : List X). Ok (ys, rest)) (sym (append-nil before))
    again before (x ∷ xs) rest all =
        ap (read_after read (suc (length xs)) before) (append_assoc (spell x) (flat_map spell xs) rest)
        ∙ rw ((f before).read_back x (flat_map spell xs ++ rest) all.0) (again (before ++ x ∷ []) xs rest all.1)
        ∙ ap (λ (ys : List X). Ok (ys, rest)) (append_assoc before (x ∷ []) xs)

-- such a list after its length
pub list_after-lawful : {X : Type 0} {Next : List X → X → Type 0} {spell : X → List ℕ} {read : List X → Reads X} (low high : ℕ) → high < 256 ^ 4 → ((before : List X) → Lawful (Next before) spell (read before)) →
    Lawful (λ xs. InRange low high (length xs) × AllAfter Next [] xs) (spell_list spell) (read_list_after low high read)
unfolding read_list_after
list_after-lawful {Next = Next} {spell = spell} low high small f = counted (AllAfter Next []) spell low high small (after-lawful f)

-- a message whose id passes a test
pub message_if-lawful : (test : MsgId → Bool) (kinds : Kinds) → Lawful (λ m. IsMessage kinds m × IsTrue (test m.id)) spell_message (read_message_if test kinds)
unfolding read_message_if spell_message
message_if-lawful test kinds =
    from_as (field (checked-lawful test (id-lawful kinds)) (λ x is. (is.0.0, is.1)) (λ id is_id.
    let f = message_of-as kinds id is_id.0 in
    record {
      back = λ m rest is. f.back m rest (is.0.0, is.1);
      so = λ bytes y fits e.
          let g = f.so bytes y fits e in
          (g.0, g.1, g.2, ((g.3.0, subst (λ (i : MsgId). IsTrue (test i)) (sym g.3.1) is_id.1), g.3.1));
    }))

-- ---- faults

pub after_within : {X : Type 0} (read : List X → Reads X) → ((before : List X) → Within (read before)) → (n : ℕ) (before : List X) → Within (read_after read n before)
unfolding read_after
after_within read h zero before = yields before
after_within read h (suc n) before = and_then (read before) _ (h before) (λ x. after_within read h n (before ++ x ∷ []))

pub list_after_within : {X : Type 0} (low high : ℕ) (read : List X → Reads X) → ((before : List X) → Within (read before)) → Within (read_list_after low high read)
unfolding read_list_after
list_after_within low high read h = and_then (read_within low high 4) (λ count. read_after read count []) (range_within low high 4) (λ count. after_within read h count [])

message_of_within : (kinds : Kinds) (id : MsgId) → Within (read_message_of kinds id)
unfolding read_message_of
message_of_within kinds id = and_then _ _ (elem_within kinds) (λ to. and_then _ _ (number_within 2) (λ entry. and_then _ _ words_within (λ words. λ rest. omega arith)))

pub message_if_within : (test : MsgId → Bool) (kinds : Kinds) → Within (read_message_if test kinds)
unfolding read_message_if
message_if_within test kinds = and_then _ _ (checked_within test (read_id kinds) (id_within kinds)) (λ id. message_of_within kinds id)
