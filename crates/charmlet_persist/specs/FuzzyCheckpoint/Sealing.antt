-- What a fuzzy checkpoint writes at its end.
use Rattle.std.specs.Prelude.{◌≡◌, ◌⊎◌, ℕ, ◌+◌, ◌<◌, ◌≤◌, ◌^◌, List, [], ◌∷◌, ◌++◌, length, Option, Some, None, IfSome, option_map}
use Rattle.std.specs.List.{flat_map}
use Rattle.charmlet_pup.specs.Fields.{number_bytes, byte_list}
use Rattle.charmlet_model.specs.declared.names.Elem.{Elem}
use Rattle.charmlet_model.specs.declared.refusal.Refusal.{Refusal}
use Rattle.charmlet_model.specs.declared.refusal.Refusal.TheVariants as refusals
use Rattle.charmlet_model.specs.Core.{Core, present}
use Rattle.charmlet_model.specs.Spelling.{spell_elem, spell_list, spell_message}
use Rattle.charmlet_image.specs.declared.header.Header.{Header}
use Rattle.charmlet_image.specs.declared.header.Mark.TheVariants.{Third}
use Rattle.charmlet_image.specs.Images.{spell_array, spell_client, spell_header, spell_option}
use Rattle.charmlet_persist.specs.declared.fuzzy_checkpoint.captured_element.CapturedElement.{CapturedElement}
use Rattle.charmlet_persist.specs.FuzzyCheckpoint.Checkpoint.{Run}

-- the packed state has fewer than 2^32 bytes, if there is one
abbrev pub IsShort : CapturedElement → Type 0
IsShort s = IfSome s.packed (λ bytes. length bytes.items < 2 ^ 32)

-- an entry
unfoldable pub spell_kept : Elem → CapturedElement → List ℕ
spell_kept x s = spell_elem x
    ++ (number_bytes 8 s.sent ++ (number_bytes 8 s.received
    ++ spell_option byte_list (option_map (λ bytes. bytes.items) s.packed)))

-- the entry, if there is one
abbrev pub spell_kept_if : Elem → Option CapturedElement → List ℕ
spell_kept_if x None = []
spell_kept_if x (Some s) = spell_kept x s

-- the same of a pair
abbrev pub spell_captured : Elem × Option CapturedElement → List ℕ
spell_captured e = spell_kept_if e.0 e.1

-- one more, if there is an entry
abbrev pub counted_if : Option CapturedElement → ℕ → ℕ
counted_if None n = n
counted_if (Some s) n = n + 1

-- how many entries there are
abbrev pub count_kept : List (Elem × Option CapturedElement) → ℕ
count_kept [] = 0
count_kept (e ∷ es) = counted_if e.1 (count_kept es)

-- the entries, after how many they are
abbrev pub spell_entries : List (Elem × Option CapturedElement) → List ℕ
spell_entries captured = number_bytes 4 (count_kept captured) ++ flat_map spell_captured captured

-- The image: arrays, clients and pending messages as they are at its end, the entries, and the
-- deliveries that were made meanwhile.
abbrev pub spell_running : Core → Run → List ℕ
spell_running core run =
    spell_list (spell_array Third) (present core).manifest
    ++ (spell_list (spell_client Third) (present core).clients
    ++ (spell_list spell_message (present core).pending ++ (spell_entries run.captured
    ++ (number_bytes 4 run.count ++ run.caught_up))))

-- its header, with the next generation, which counts each event
abbrev pub header_of : Core → Run → Header
header_of core run = record {
  mark = Third;
  generation = core.generation + 1;
  events = core.before + length core.history;
  size = length (spell_running core run);
}

-- the header, the image, and the closed gate of a log that has no batch yet
abbrev pub sealing_bytes : Core → Run → List ℕ
sealing_bytes core run = spell_header (header_of core run) ++ (spell_running core run ++ 0 ∷ [])

-- the next generation is at most 2^40, and the file has at most 2^31 bytes, both gates and the
-- header among them
pub record IsWithinLimits (core : Core) (run : Run) : Type 0 where
  pub generation : core.generation < 2 ^ 40
  pub size : length (sealing_bytes core run) < 2 ^ 31

-- the next generation would be past its limit, or the file past its own
abbrev pub PassesLimit : Core → Run → Type 0
PassesLimit core run = (2 ^ 40 ≤ core.generation) ⊎ (2 ^ 31 ≤ length (sealing_bytes core run))

-- memory is lacking, or a limit would be passed
abbrev pub IsRefusal : Core → Run → Refusal → Type 0
IsRefusal core run refusal = (refusal ≡ refusals.Memory)
    ⊎ ((refusal ≡ refusals.ImageFull) × PassesLimit core run)
