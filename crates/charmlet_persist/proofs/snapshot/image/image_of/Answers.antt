use Rattle.std.proofs.Common.{◌≡◌, inr, ℕ, ◌-◌, ◌++◌, ◌∷◌, [], List, length, refl, ap, ◌∙◌, arith}
use Rattle.charmlet_history.specs.Kept.{core_in}
use Rattle.charmlet_persist.specs.Snapshot.Showing.{spell_present}
use Rattle.charmlet_persist.proofs.SnapshotLemmas.Whole.{image_is, length_is, lists_long, whole_long}
use Rattle.charmlet_persist.proofs.snapshot.image.image_of.Goals as goal

pub returns-then-len-ge-MAX_HALF-clause-err : goal.returns-then-len-ge-MAX_HALF-clause-err
returns-then-len-ge-MAX_HALF-clause-err g c =
    let core = core_in c.args.history.now in
    let room : length c.in_ok-bytes.bytes.items ≡ 24 = omega (arith, c.in_ok-bytes.ensures.len, c.in_ok-bytes.bytes.ok.0) in
    let long = whole_long core c.in_ok-bytes.bytes.items c.append_lists.new.out.items c.push.new.self.items room c.in_ok-append_lists.ensures.ok c.in_ok-push.ensures.items in
    inr (refl, inr (omega (arith, long, c.if-len-ge-MAX_HALF.true, c.len.ensures, c.push.new.self.ok.0)))

pub returns-clause-bytes : goal.returns-clause-bytes
returns-clause-bytes g c =
    let core = core_in c.args.history.now in
    let zeros = c.in_ok-bytes.bytes.items in
    let room : length zeros ≡ 24 = omega (arith, c.in_ok-bytes.ensures.len, c.in_ok-bytes.bytes.ok.0) in
    let long = lists_long core zeros c.append_lists.new.out.items c.push.new.self.items room c.in_ok-append_lists.ensures.ok c.in_ok-push.ensures.items in
    let size : c.len-size.result - 24 ≡ length (spell_present core) = omega (arith, long, c.len-size.ensures, c.append_lists.new.out.ok.0) in
    let pushed : c.push.new.self.items ≡ (zeros ++ spell_present core) ++ 0 ∷ [] = c.in_ok-push.ensures.items ∙ ap (λ (t : List ℕ). t ++ 0 ∷ []) c.in_ok-append_lists.ensures.ok in
    image_is core zeros c.push.new.self.items c.fill_header.new.out.items _ _ _ room pushed c.in_ok-fill_header.ensures (omega arith) (omega arith) size

pub returns-clause-size : goal.returns-clause-size
returns-clause-size g c = length_is (core_in c.args.history.now) c.fill_header.new.out.items (returns-clause-bytes g c)

pub returns-clause-within : goal.returns-clause-within
returns-clause-within g c =
    let core = core_in c.args.history.now in
    let room : length c.in_ok-bytes.bytes.items ≡ 24 = omega (arith, c.in_ok-bytes.ensures.len, c.in_ok-bytes.bytes.ok.0) in
    let long = whole_long core c.in_ok-bytes.bytes.items c.append_lists.new.out.items c.push.new.self.items room c.in_ok-append_lists.ensures.ok c.in_ok-push.ensures.items in
    record {
      generation = omega arith;
      size = omega (arith, c.push.new.self.ok.0);
    }
