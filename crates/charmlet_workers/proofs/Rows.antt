-- What rows know of requests that were accepted.
use Rattle.std.proofs.Common.{◌≡◌, ℕ, zero, suc, ◌+◌, ◌-◌, ◌≤◌, true, false, Some, None, refl, arith, le_refl, if◌then◌else◌, nat_lt}
use Rattle.std.proofs.lemmas.Bool.{ltb-true}
use Rattle.charmlet_model.specs.declared.client.ClientRow.{ClientRow}
use Rattle.charmlet_model.specs.declared.told.Told.TheVariants.{Unknown, Past}
use Rattle.charmlet_model.specs.Row.{Item, in_window, reply_to, with_request}
use Rattle.charmlet_model.specs.Told.{told_of, told_of_item}
use Rattle.charmlet_requests.specs.Knowing.{gone_on, greater, is_unknown, passed, reached}

-- ---- the last number of a row only grows

pub greater_least : (a b : ℕ) → a ≤ greater a b
greater_least a b = elim (nat_lt a b) as (λ t. nat_lt a b ≡ t → a ≤ (if t then b else a)) [ true ↦ λ up. let less = ltb-true a b up in omega (arith, less) | false ↦ λ _. le_refl a ] refl

gone_last : (row : ClientRow) (more : ℕ) → (gone_on row more).last ≡ row.last + more
gone_last row zero = omega arith
gone_last row (suc more) = omega (arith, gone_last (with_request row (row.last + 1)) more)

pub reached_least : (row : ClientRow) (number : ℕ) → (number ≤ (reached row number).last) × (row.last ≤ (reached row number).last)
reached_least row number =
    let near = passed row (number - 8) in
    let last = gone_last near (number - near.last) in
    let least : row.last ≤ near.last = greater_least row.last (number - 8) in
    (omega (arith, last), omega (arith, last, least))

-- ---- a number up to the last one isn't unknown

item_seen : (item : Item) → is_unknown (told_of_item item) ≡ false
item_seen None = refl
item_seen (Some reply) = refl

pub row_seen : (row : ClientRow) (number : ℕ) → number ≤ row.last → is_unknown (told_of row number) ≡ false
row_seen row number within =
    elim (nat_lt row.last number) as (λ b. nat_lt row.last number ≡ b → is_unknown (if b then Unknown else if in_window row number then told_of_item (reply_to row number) else Past) ≡ false) [
      | true ↦ λ over. let above = ltb-true row.last number over in absurd (omega (arith, above, within))
      | false ↦ λ _. elim (in_window row number) as (λ b. is_unknown (if b then told_of_item (reply_to row number) else Past) ≡ false) [ true ↦ item_seen (reply_to row number) | false ↦ refl ]
    ] refl
