use Rattle.std.proofs.Common.{◌≡◌, ◌-◌, ◌++◌, List, ℕ, length, take, replicate, max, get_or, refl, ◌∙◌, ap, subst, arith}
use Rattle.charmlet_disk.specs.Crash.{first_halves, last_end, half_written}
use Rattle.charmlet_disk.specs.Memory.{file_of}
use Rattle.charmlet_disk.specs.Overlay.{IsOverlaid}
use Rattle.charmlet_disk.specs.Ends.{last_end-halves}
use Rattle.charmlet_disk.proofs.Leaving.{is_half_written, is_clean}
use Rattle.charmlet_disk.proofs.mem_disk.mem_file.MemFile.keep_first_halves.Goals as goal

pub end_of-requires : goal.end_of-requires
end_of-requires c =
    omega (arith, ap (λ (rs : List (ℕ × ℕ)). last_end rs) (c.deref.ensures.value ∙ c.halve.ensures), last_end-halves c.args.self.now.ranges.items, c.requires.inside, c.args.self.now.bytes.ok, c.args.self.now.bytes.small)

pub returns : goal.returns
returns c =
    let file = file_of c.args.self.now in
    let halves = first_halves file.ranges in
    let new = c.copy.new.to.items in
    let padded : c.pad.new.bytes.items ≡ file.sure ++ replicate (length file.now - length file.sure) 0 =
    c.pad.ensures.padded ∙ ap (λ (n : ℕ). file.sure ++ replicate (n - length file.sure) 0) (c.len-2.ensures ∙ c.args.self.now.bytes.ok.0) in
    let overlaid : IsOverlaid halves (λ k. get_or file.now k 0) (file.sure ++ replicate (length file.now - length file.sure) 0) new =
    subst (λ (l : List ℕ). IsOverlaid halves (λ k. get_or file.now k 0) l new) padded
    (subst (λ (l : List ℕ). IsOverlaid halves (λ k. get_or l k 0) c.pad.new.bytes.items new) c.deref-2.ensures.value
    (subst (λ (rs : List (ℕ × ℕ)). IsOverlaid rs (λ k. get_or c.deref-2.result.now k 0) c.pad.new.bytes.items new) (c.deref-3.ensures.value ∙ c.halve.ensures) c.copy.ensures.copied)) in
    let last : c.end_of.result ≡ last_end halves = c.end_of.ensures ∙ ap (λ (rs : List (ℕ × ℕ)). last_end rs) (c.deref.ensures.value ∙ c.halve.ensures) in
    let end : c.max-end.result ≡ max (length file.sure) (last_end halves) = omega (arith, c.max-end.ensures, c.len.ensures, c.args.self.now.sure.ok.0, last) in
    let left : c.truncate.new.self.items ≡ half_written file =
    c.truncate.ensures.items ∙ ap (λ (n : ℕ). take n new) end ∙ is_half_written file c.requires refl new overlaid in
    is_clean c.cut_to.new.bytes.items c.truncate.new.self.items c.clear.new.self.items (half_written file) (c.cut_to.ensures.same ∙ c.deref-4.ensures.value ∙ left) left c.clear.ensures.items
