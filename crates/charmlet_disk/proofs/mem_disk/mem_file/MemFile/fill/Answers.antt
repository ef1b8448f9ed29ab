use Rattle.std.proofs.Common.{List, ℕ, ◌++◌, ◌∙◌, ap, subst}
use Rattle.charmlet_disk.specs.Crash.{filled}
use Rattle.charmlet_disk.specs.Memory.{file_of}
use Rattle.charmlet_disk.specs.Overlay.{IsOverlaid}
use Rattle.charmlet_disk.proofs.Leaving.{is_filled, is_clean}
use Rattle.charmlet_disk.proofs.mem_disk.mem_file.MemFile.fill.Goals as goal

pub returns : goal.returns
returns c =
    let file = file_of c.args.self.now in
    let bytes = c.fill.new.bytes.items in
    let overlaid = subst (λ (rs : List (ℕ × ℕ)). IsOverlaid rs (λ _. c.args.byte) file.now bytes) c.deref.ensures.value c.fill.ensures.filled in
    let filled_so = is_filled file c.args.byte bytes overlaid in
    let sure = c.append.ensures.longer ∙ ap (λ (l : List ℕ). l ++ c.deref-2.result.now) c.clear.ensures.items in
    is_clean bytes c.append.new.bytes.items c.clear-2.new.self.items (filled c.args.byte file) filled_so (sure ∙ c.deref-2.ensures.value ∙ filled_so) c.clear-2.ensures.items
