use Rattle.std.proofs.Common.{◌≡◌, ◌∷◌, [], ℕ, List, length, take, slice_index_or, slice_set, refl, arith, rules, ap, sym, ◌∙◌}
use Rattle.charmlet_image.specs.declared.half.Beginning.TheVariants.{Closed}
use Rattle.charmlet_cli.specs.Spare.{gate_of, opened, start_in}
use Rattle.charmlet_cli.proofs.spare.start_of.Goals as goal

-- what stands in front of the first bytes is the first gate
gate_is : (bytes first : List ℕ) → first ≡ take 25 bytes → slice_index_or first 0 0 ≡ gate_of bytes
gate_is [] first is = rw is refl
gate_is (gate ∷ rest) first is = rw is refl

-- and with an open gate they are the first bytes of the opened half
opened_is : (bytes first : List ℕ) → first ≡ take 25 bytes → slice_set first 0 1 ≡ take 25 (opened bytes)
opened_is [] first is = rw is refl
opened_is (gate ∷ rest) first is = rw is refl

pub returns : goal.returns
returns c = λ bytes is.
    rw (gate_is bytes c.args.first.now is, c.read_top-beginning.ensures bytes is, c.read_top-behind.ensures (opened bytes) (opened_is bytes c.args.first.now is)) refl

-- a half without a byte is closed
closed_is : (bytes first : List ℕ) → first ≡ take 25 bytes → length first ≡ 0
    → record { gate = 0; beginning = Closed; behind = Closed } ≡ start_in bytes
closed_is [] first is empty = refl
closed_is (gate ∷ rest) first is empty =
    let some : length (take 25 (gate ∷ rest)) ≡ 0 = ap length (sym is) ∙ empty in
    absurd (omega (arith, some))

pub returns-then-is_empty : goal.returns-then-is_empty
returns-then-is_empty c =
    let empty : length c.args.first.now ≡ 0 = search rules in
    λ bytes is. closed_is bytes c.args.first.now is empty
