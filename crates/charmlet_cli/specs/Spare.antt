-- What is to be known of the half that isn't taken.
use Rattle.std.specs.Prelude.{ℕ, List, [], ◌∷◌, if◌then◌else◌, nat_lt}
use Rattle.charmlet_model.specs.declared.half.Half.{Half}
use Rattle.charmlet_model.specs.declared.half.Half.TheVariants.{Zero, One}
use Rattle.charmlet_image.specs.declared.half.Beginning.{Beginning}
use Rattle.charmlet_image.specs.declared.half.Beginning.TheVariants.{Closed, Open, Damaged}
use Rattle.charmlet_image.specs.Halves.{top}
use Rattle.charmlet_image.specs.Views.{beginning}
use Rattle.charmlet_cli.specs.declared.spare.Spare.{Spare}
use Rattle.charmlet_cli.specs.declared.spare.Spare.TheVariants as spares
use Rattle.charmlet_cli.specs.declared.spare.Start.{Start}

-- its first byte, which is 0 if there is none
abbrev pub gate_of : List ℕ → ℕ
gate_of [] = 0
gate_of (gate ∷ rest) = gate

-- the bytes with an open first gate
abbrev pub opened : List ℕ → List ℕ
opened [] = []
opened (gate ∷ rest) = 1 ∷ rest

-- how a half begins, and how it would if its first gate were open
abbrev pub start_in : List ℕ → Start
start_in bytes = record {
  gate = gate_of bytes;
  beginning = beginning (top bytes);
  behind = beginning (top (opened bytes));
}

-- by its header, beside a taken half of this generation
abbrev pub judged_behind : Half → Beginning → ℕ → Spare
judged_behind half (Damaged offset) generation = spares.Damaged half offset
judged_behind half (Open header) generation = if nat_lt generation header.generation
    then spares.Later half header.generation else spares.Sound
judged_behind half Closed generation = spares.Sound

-- the first byte of a half is 0 or 1
abbrev pub judged : Half → Start → ℕ → Spare
judged half start generation = if nat_lt 1 start.gate then spares.Damaged half 0
    else judged_behind half start.behind generation

-- one half is taken, and the other one is closed
abbrev pub judged_both : Start → Start → (zero one : Beginning) → Spare
judged_both first second (Open taken) Closed = judged One second taken.generation
judged_both first second Closed (Open taken) = judged Zero first taken.generation
judged_both first second _ _ = spares.Sound

-- what the bytes of both halves say of the one that isn't taken
abbrev pub spare_in : (zero one : List ℕ) → Spare
spare_in zero one = judged_both (start_in zero) (start_in one)
    (beginning (top zero)) (beginning (top one))
