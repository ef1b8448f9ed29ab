use Rattle.std.proofs.Common.{◌≡◌, inr, ℕ, ◌-◌, ◌++◌, ◌∷◌, [], List, length, refl, sym, ap, subst, ◌∙◌, arith}
use Rattle.charmlet_history.specs.Kept.{core_in}
use Rattle.charmlet_persist.specs.Writes.Rest.{IsSealing}
use Rattle.charmlet_persist.specs.FuzzyCheckpoint.Checkpoint.{Run}
use Rattle.charmlet_persist.specs.FuzzyCheckpoint.Sealing.{spell_running}
use Rattle.charmlet_persist.proofs.FuzzyCheckpointLemmas.Sealings.{bytes_are, is_sealing, lists_long, whole_long}
use Rattle.charmlet_persist.proofs.fuzzy_checkpoint.checkpoint.FuzzyCheckpoint.encode.Goals as goal

pub returns-then-len-ge-MAX_HALF-clause-err : goal.returns-then-len-ge-MAX_HALF-clause-err
returns-then-len-ge-MAX_HALF-clause-err c =
    let core = core_in c.args.history.now in
    let run : Run = c.args.self.now in
    let room : length c.in_ok-bytes.bytes.items ≡ 24 = omega (arith, c.in_ok-bytes.ensures.len, c.in_ok-bytes.bytes.ok.0) in
    let long = whole_long core run c.requires.running c.requires.captured c.facts.ensures.sound c.in_ok-bytes.bytes.items c.append_lists.new.out.items c.push.new.self.items room c.in_ok-append_lists.ensures.ok c.in_ok-push.ensures.items in
    inr (refl, inr (omega (arith, long, c.if-len-ge-MAX_HALF.true, c.len.ensures, c.push.new.self.ok.0)))

pub returns-clause-bytes : goal.returns-clause-bytes
returns-clause-bytes c =
    let core = core_in c.args.history.now in
    let run : Run = c.args.self.now in
    let zeros = c.in_ok-bytes.bytes.items in
    let room : length zeros ≡ 24 = omega (arith, c.in_ok-bytes.ensures.len, c.in_ok-bytes.bytes.ok.0) in
    let long = lists_long core run c.requires.running c.requires.captured c.facts.ensures.sound zeros c.append_lists.new.out.items c.push.new.self.items room c.in_ok-append_lists.ensures.ok c.in_ok-push.ensures.items in
    let size : c.len-size.result - 24 ≡ length (spell_running core run) = omega (arith, long, c.len-size.ensures, c.append_lists.new.out.ok.0) in
    let pushed : c.push.new.self.items ≡ (zeros ++ spell_running core run) ++ 0 ∷ [] = c.in_ok-push.ensures.items ∙ ap (λ (t : List ℕ). t ++ 0 ∷ []) c.in_ok-append_lists.ensures.ok in
    bytes_are core run c.requires.running c.requires.captured c.facts.ensures.sound zeros c.push.new.self.items c.fill_header.new.out.items _ _ _ room pushed c.in_ok-fill_header.ensures (omega arith) (omega arith) size

pub returns-clause-within : goal.returns-clause-within
returns-clause-within c =
    let core = core_in c.args.history.now in
    let run : Run = c.args.self.now in
    let room : length c.in_ok-bytes.bytes.items ≡ 24 = omega (arith, c.in_ok-bytes.ensures.len, c.in_ok-bytes.bytes.ok.0) in
    let long = whole_long core run c.requires.running c.requires.captured c.facts.ensures.sound c.in_ok-bytes.bytes.items c.append_lists.new.out.items c.push.new.self.items room c.in_ok-append_lists.ensures.ok c.in_ok-push.ensures.items in
    record {
      generation = omega arith;
      size = omega (arith, long, c.push.new.self.ok.0);
    }

pub returns-clause-sealing : goal.returns-clause-sealing
returns-clause-sealing c =
    let core = core_in c.args.history.now in
    let run : Run = c.args.self.now in
    subst (IsSealing core) (sym (returns-clause-bytes c)) (is_sealing core run c.requires.running c.requires.captured c.facts.ensures.sound (returns-clause-within c))
