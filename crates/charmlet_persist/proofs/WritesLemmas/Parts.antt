-- The parts of a history that are written together.
use Rattle.std.proofs.Common.{◌≡◌, ℕ, ◌+◌, ◌*◌, ◌<◌, ◌≤◌, List, ◌++◌, length, take, drop, min, sym, ap, subst, ◌∙◌, arith}
use Rattle.std.proofs.lemmas.List.{take-append-drop, length-take, length-drop, take_min}
use Rattle.std.proofs.lemmas.Grind.{div_ceil_times}
use Rattle.std.proofs.Math.Seq.{take-add}
use Rattle.std.specs.Fork.{slice_chunk}
use Rattle.charmlet_model.specs.declared.event.Event.{Event}
use Rattle.charmlet_model.specs.Logging.{logged_all}
use Rattle.charmlet_model.specs.World.{World, world, IsLegal}
use Rattle.charmlet_model.proofs.Histories.{world-append}
use Rattle.charmlet_record.specs.WalBuffer.{batch_count}
use Rattle.charmlet_recovery.proofs.Values.{length-log}
use Rattle.charmlet_recovery.proofs.Writing.{legal_histories_part}

-- how many events the first batches have
abbrev pub done : List Event → ℕ → ℕ
done history i = min (i * 4096) (length history)

-- the events of a batch
abbrev pub part : List Event → ℕ → List Event
part history i = slice_chunk history 4096 i

-- the world before a batch
abbrev pub before_part : World → List Event → ℕ → World
before_part w history i = world w (take (done history i) history)

-- what is known of a batch that there is
pub record IsPart (w : World) (count : ℕ) (history : List Event) (i : ℕ) : Type 0 where
  pub whole : done history i ≡ i * 4096
  pub next : done history (i + 1) ≡ done history i + length (part history i)
  pub most : done history (i + 1) ≤ length history
  pub some : 1 ≤ length (part history i)
  pub few : length (part history i) ≤ 4096
  pub legal : IsLegal (before_part w history i) (count + done history i) (part history i)
  pub world_is : before_part w history (i + 1) ≡ world (before_part w history i) (part history i)

pub is_part : (w : World) (count : ℕ) (history : List Event) (i : ℕ) → IsLegal w count history → i < batch_count (logged_all w history) → IsPart w count history i
is_part w count history i legal lt =
    let k = i * 4096 in
    let many = length-log w history in
    let most = (div_ceil_times (length (logged_all w history)) 4096 (omega arith)).1 in
    let inside : k < length history = omega (arith, many, most, lt) in
    let rest = drop k history in
    let size : length (part history i) ≡ min 4096 (length rest) = length-take 4096 rest in
    let left = length-drop k history in
    let whole : done history i ≡ k = omega arith in
    let next : done history (i + 1) ≡ done history i + length (part history i) = omega (arith, size, left) in
    let front : length (take k history) ≡ k = omega (arith, length-take k history) in
    let split = legal_histories_part w count (take k history) rest (subst (IsLegal w count) (sym (take-append-drop k history)) legal) in
    let later = legal_histories_part (world w (take k history)) (count + length (take k history)) (part history i) (drop 4096 rest)
    (subst (IsLegal (world w (take k history)) (count + length (take k history))) (sym (take-append-drop 4096 rest)) split.later_is) in
    let here : IsLegal (world w (take k history)) (count + k) (part history i) = subst (λ (n : ℕ). IsLegal (world w (take k history)) (count + n) (part history i)) front later.earlier_is in
    let sum : k + 4096 ≡ (i + 1) * 4096 = omega arith in
    let taken : take (done history (i + 1)) history ≡ take k history ++ part history i =
    take_min ((i + 1) * 4096) history ∙ ap (λ (n : ℕ). take n history) (sym sum) ∙ take-add k 4096 history in
    record {
      whole = whole;
      next = next;
      most = omega arith;
      some = omega (arith, size, left);
      few = omega (arith, size);
      legal = subst (λ (n : ℕ). IsLegal (world w (take n history)) (count + n) (part history i)) (sym whole) here;
      world_is = ap (world w) taken ∙ world-append w (take k history) (part history i) ∙ ap (λ (n : ℕ). world (world w (take n history)) (part history i)) (sym whole);
    }

-- all batches have all events
pub all_done : (w : World) (history : List Event) (i : ℕ) → batch_count (logged_all w history) ≤ i → done history i ≡ length history
all_done w history i le =
    let many = length-log w history in
    let enough = (div_ceil_times (length (logged_all w history)) 4096 (omega arith)).0 in
    omega (arith, many, enough, le)
