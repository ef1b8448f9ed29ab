-- Names of handlers, and what they stand for.
use Rattle.std.proofs.Common.{◌≡◌, ℕ, true, false, List, [], ◌∷◌, ◌++◌, Some, None, refl, ap}
use Rattle.std.specs.Prelude.{if◌then◌else◌, is_some}
use Rattle.std.specs.Str.{bytes_eq}
use Rattle.charmlet_script.specs.declared.script.HandlerLine.{HandlerLine}
use Rattle.charmlet_script_output.specs.Named.{Names, named_by}

-- what one line says of a name
abbrev pub says_of : HandlerLine → Names
says_of line name = if bytes_eq line.name name then Some (record { array = line.array; entry = line.entry }) else None

-- a line after others says it of its name, and they say it of the others
pub named_more : (lines : List HandlerLine) (line : HandlerLine) (name : List ℕ) →
    named_by (lines ++ line ∷ []) name ≡ (if bytes_eq line.name name then Some (record { array = line.array; entry = line.entry }) else named_by lines name)
named_more [] line name = refl
named_more (l ∷ lines) line name =
    let later = named_more lines line name in
    elim (bytes_eq line.name name) as (λ b. named_by (lines ++ line ∷ []) name ≡ (if b then Some (record { array = line.array; entry = line.entry }) else named_by lines name) →
    (if is_some (named_by (lines ++ line ∷ []) name) then named_by (lines ++ line ∷ []) name else says_of l name)
    ≡ (if b then Some (record { array = line.array; entry = line.entry }) else (if is_some (named_by lines name) then named_by lines name else says_of l name))) [
      | true ↦ λ is. ap (λ o. if is_some o then o else says_of l name) is
      | false ↦ λ is. ap (λ o. if is_some o then o else says_of l name) is
    ] later
