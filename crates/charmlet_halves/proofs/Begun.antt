-- Halves that are opened as they are found.
use Rattle.std.proofs.Common.{◌≡◌, ℕ, ◌+◌, ◌<◌, Bool, None, List, ◌++◌, length, get_or, refl, sym, ◌∙◌, ap, arith, length-append}
use Rattle.std.proofs.lemmas.List.{get_or-take}
use Rattle.charmlet_model.specs.declared.half.Half.{Half}
use Rattle.charmlet_model.specs.declared.half.Half.TheVariants.{Zero, One}
use Rattle.charmlet_model.specs.Half.{other}
use Rattle.charmlet_disk.specs.File.{File}
use Rattle.charmlet_disk.specs.Disk.{IsSettled}
use Rattle.charmlet_model.specs.Spelling.{spell_log}
use Rattle.charmlet_image.specs.Images.{Saved, spell_header, spell_image, spell_half}
use Rattle.charmlet_image.specs.Halves.{IsSaved}
use Rattle.charmlet_image.proofs.HalfViews.{length-spell_header}
use Rattle.charmlet_image.specs.Spelled.{Spells}
use Rattle.charmlet_halves.specs.Bytes.{FirstGate}
use Rattle.charmlet_halves.specs.Ready.{IsReady}
use Rattle.charmlet_halves.specs.Found.{bytes_of}

-- a spelled half begins with an open gate
pub begins : (s : Saved) → (0 < length (spell_half s)) × (get_or (spell_half s) 0 0 ≡ 1)
unfolding spell_half
begins s = (omega arith, refl)

-- the halves are ready where one of them is spelled so
pub ready_so : (files : Half → File) (half : Half) (spare_closed : Bool) (s : Saved) (log_end : ℕ) → IsSettled files → Spells (files half).now (spell_half s) → log_end ≡ length (spell_half s)
    → FirstGate spare_closed (files (other half)).now → IsReady files half log_end spare_closed None
ready_so files half spare_closed s log_end settled spells ends gate = record {
  settled = settled;
  opened =
      sym (get_or-take (length (spell_half s)) (files half).now 0 0 (begins s).0)
      ∙ ap (λ (b : List ℕ). get_or b 0 0) spells.front ∙ (begins s).1;
  some = omega (arith, ends, (begins s).0);
  inside = omega (arith, ends, spells.inside);
  closed = λ is_one. spells.closed (ap (λ (n : ℕ). get_or (files half).now n 0) (sym ends) ∙ is_one);
  spare = gate;
  image = λ at none. absurd cc;
}

-- one of two halves
pub bytes_by : (files : Half → File) (half : Half) → bytes_of (files Zero).now (files One).now half ≡ (files half).now
bytes_by files Zero = refl
bytes_by files One = refl

-- how long a half is up to the gate at its log's end
pub length-half : (s : Saved) → IsSaved s → 25 + s.header.size + length (spell_log s.batches) ≡ length (spell_half s)
unfolding spell_half
length-half s good =
    let image = spell_image s.header.mark s.image in
    omega (arith, good.size, length-spell_header s.header, length-append (spell_header s.header) (image ++ spell_log s.batches), length-append image (spell_log s.batches))
