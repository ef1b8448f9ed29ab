use Rattle.std.proofs.Common.{◌≡◌, List, ℕ, drop, refl, ◌∙◌, ap, subst, ◌++◌, length, get_or, arith}
use Rattle.charmlet_disk.specs.Memory.{file_of}
use Rattle.charmlet_disk.specs.Overlay.{IsOverlaid}
use Rattle.charmlet_disk.proofs.Leaving.{appended, made_sure, is_clean}
use Rattle.charmlet_disk.proofs.mem_disk.mem_file.MemFile.make_sure.Goals as goal

pub returns : goal.returns
returns c =
    let file = file_of c.args.self.now in
    let new = c.copy.new.to.items in
    let start : c.append.new.bytes.items ≡ file.sure ++ drop (length file.sure) file.now =
    appended c.append.new.bytes.items file.sure c.deref.result.now file.now c.len-old_end.result _ c.append.ensures.longer c.deref.ensures.value (c.len-old_end.ensures ∙ c.args.self.now.sure.ok.0)
    (omega (arith, ap (λ (l : List ℕ). length l) c.deref.ensures.value)) in
    let overlaid : IsOverlaid file.ranges (λ k. get_or file.now k 0) (file.sure ++ drop (length file.sure) file.now) new =
    subst (λ (l : List ℕ). IsOverlaid file.ranges (λ k. get_or file.now k 0) l new) start
    (subst (λ (l : List ℕ). IsOverlaid file.ranges (λ k. get_or l k 0) c.append.new.bytes.items new) c.deref-2.ensures.value
    (subst (λ (rs : List (ℕ × ℕ)). IsOverlaid rs (λ k. get_or c.deref-2.result.now k 0) c.append.new.bytes.items new) c.deref-3.ensures.value c.copy.ensures.copied)) in
    is_clean file.now new c.clear.new.self.items file.now refl (made_sure file c.requires.left new overlaid) c.clear.ensures.items
