-- What the workers of a drain delivered.
use Rattle.std.proofs.Common.{◌≡◌, ℕ, suc, ◌+◌, ◌-◌, ◌^◌, ◌<◌, ◌≤◌, List, [], ◌∷◌, ◌++◌, length, map, refl, sym, ap, subst, ◌∙◌, arith, true, Option}
use Rattle.std.specs.Prelude.{min, slice_index_or, sum_by, IfSome}
use Rattle.std.specs.List.{AllByRecursion}
use Rattle.std.proofs.lemmas.List.Sums.{sum_by-cons}
use Rattle.charmlet_model.specs.declared.names.MsgId.{MsgId}
use Rattle.charmlet_model.specs.declared.refusal.Refusal.{Refusal}
use Rattle.charmlet_script.specs.declared.printed.Drained.{Drained}
use Rattle.charmlet_script.specs.Printed.{drained_text}
use Rattle.charmlet_leases.specs.Seats.Seats.{HeldSeat}
use Rattle.charmlet_workers.specs.declared.work.Worked.{Worked}
use Rattle.charmlet_workers.specs.Refusals.{is_work_refusal}
use Rattle.charmlet_workers.specs.Working.{HasServed}
use Rattle.charmlet_cli_workers.specs.Said.{Clients, Deeds, HaveDelivered, IsDrained, refused_texts}

module _ {S : Type 0} (seat : S → HeldSeat) (worked : S → Worked) where
  -- each worker's ids are more by as many as it counts
  pub all_served : (turns : ℕ) (old new : List S) → length new ≡ length old →
      ((i : ℕ) (d : S) → i < length old → HasServed (seat (slice_index_or old i d)) (seat (slice_index_or new i d)) turns (worked (slice_index_or new i d))) →
      HaveDelivered turns (map (λ s. (seat s).ids) old) (map (λ s. (seat s).ids) new) (sum_by (λ s. (worked s).count) new)
  all_served turns [] [] same each = (refl, refl)
  all_served turns [] (t ∷ new) same each = absurd (omega (arith, same))
  all_served turns (s ∷ old) [] same each = absurd (omega (arith, same))
  all_served turns (s ∷ old) (t ∷ new) same each =
      let here = each 0 s (omega arith) in
      let more = here.seat.ids in
      let rest = map (λ s. (seat s).ids) new in
      let fewer : length new ≡ length old = omega (arith, same) in
      let long = here.seat.counted in
      let within : length more ≤ turns = omega (arith, long, here.most) in
      let grown : (seat t).ids ≡ (seat s).ids ++ more = ap (λ (h : HeldSeat). h.ids) here.seat.seat in (
        more,
        rest,
        sum_by (λ s. (worked s).count) new,
        within,
        all_served turns old new fewer (λ i d less. each (suc i) d (omega (arith, less))),
        ap (λ ids. ids ∷ rest) grown,
        sum_by-cons (λ s. (worked s).count) t new ∙ ap (λ n. n + sum_by (λ s. (worked s).count) new) (sym long),
      )

  -- one more seat without ids
  pub none_more : (slots : List S) (s : S) → AllByRecursion (λ ids. ids ≡ []) (map (λ s. (seat s).ids) slots) → (seat s).ids ≡ [] → AllByRecursion (λ ids. ids ≡ []) (map (λ s. (seat s).ids) (slots ++ s ∷ []))
  none_more [] s all none = (none, tt)
  none_more (t ∷ slots) s all none = (all.0, none_more slots s all.1 none)

  -- what a drain prints
  pub drained_so : (clients : Clients) (turns : ℕ) (before : Deeds) (old new : List S) (drained : Drained) (refusal : Option Refusal) → before.delivered ≡ map (λ s. (seat s).ids) old → length new ≡ length old →
      ((i : ℕ) (d : S) → i < length old → HasServed (seat (slice_index_or old i d)) (seat (slice_index_or new i d)) turns (worked (slice_index_or new i d))) →
      drained.delivered ≡ min (sum_by (λ s. (worked s).count) new) (2 ^ 32 - 1) → clients.pending drained.left → IfSome refusal (λ refusal. is_work_refusal refusal ≡ true) →
      IsDrained clients turns before (record before { delivered = map (λ s. (seat s).ids) new }) (drained_text drained ∷ refused_texts refusal)
  drained_so clients turns before old new drained refusal is same each counts left known = record {
    count = sum_by (λ s. (worked s).count) new;
    delivered = subst (λ ids. HaveDelivered turns ids (map (λ s. (seat s).ids) new) (sum_by (λ s. (worked s).count) new)) (sym is) (all_served turns old new same each);
    accepts = refl;
    knows = refl;
    drained = drained;
    counts = counts;
    left = left;
    refusal = refusal;
    known = known;
    texts_are = refl;
  }

  pub none_pushed : (slots new : List S) (s : S) → new ≡ slots ++ s ∷ [] → AllByRecursion (λ ids. ids ≡ []) (map (λ s. (seat s).ids) slots) → (seat s).ids ≡ [] → AllByRecursion (λ ids. ids ≡ []) (map (λ s. (seat s).ids) new)
  none_pushed slots new s is all none = subst (λ (ss : List S). AllByRecursion (λ ids. ids ≡ []) (map (λ s. (seat s).ids) ss)) (sym is) (none_more slots s all none)

-- one more seat in a list, and one fewer behind it
pub moved : (seats : List HeldSeat) (held : HeldSeat) (lists : List (List MsgId)) → map (λ (h : HeldSeat). h.ids) (seats ++ held ∷ []) ++ lists ≡ map (λ (h : HeldSeat). h.ids) seats ++ held.ids ∷ lists
moved [] held lists = refl
moved (h ∷ seats) held lists = ap (λ ls. h.ids ∷ ls) (moved seats held lists)
