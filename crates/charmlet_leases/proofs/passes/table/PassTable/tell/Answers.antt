use Rattle.std.proofs.Common.{◌≡◌, ◌+◌, ◌++◌, ◌∷◌, ◌<◌, ◌≤◌, suc, refl, List, Some, map, take, drop, length, ap, sym, ◌∙◌, subst, arith, rules}
use Rattle.std.specs.Prelude.{slice_get, slice_set}
use Rattle.std.specs.List.{AllByRecursion}
use Rattle.std.proofs.lemmas.List.{drop_all, take_all}
use Rattle.charmlet_history.specs.Kept.{core_in}
use Rattle.charmlet_leases.specs.Passes.Passes.{HeldPass, IsKept, TellAll, event_count, with_flush}
use Rattle.charmlet_leases.proofs.PassesLemmas.Places.{all-next, found, next-changed, next-left}
use Rattle.charmlet_leases.proofs.passes.table.PassTable.tell.Goals as goal

pub loop-i-preserved : goal.loop-i-preserved
loop-i-preserved g c =
    let i = c.loop-i.i in
    let xs = c.args.passes.now in
    let count = event_count (core_in c.args.history.now) in
    let flushed : HeldPass → HeldPass = with_flush count in
    let ys : List HeldPass = map flushed (take i xs) ++ drop i xs in
    let x : HeldPass = c.index-passes-i.result in
    let within : i < length c.loop-i.passes = search rules in
    let at : slice_get ys i ≡ Some x = subst (λ (l : List HeldPass). slice_get l i ≡ Some x) c.loop-i.invariant.2 (found c.loop-i.passes i x within c.index-passes-i.is) in
    let told : c.tell_one.new.pass ≡ flushed x = c.tell_one.ensures.told ∙ ap flushed (sym c.index-passes-i.is) in
    let few : x.flushed ≤ count = subst (λ (h : HeldPass). h.flushed ≤ count) (sym c.index-passes-i.is) c.tell_one.ensures.rising in
    let one : suc i ≡ i + 1 = omega arith in
    let left : drop i xs ≡ x ∷ drop (suc i) xs = next-left flushed xs i x at in
    let kept : IsKept c.loop-i.self c.tell_one.new.self x (flushed x) = subst (λ (h : HeldPass × HeldPass). IsKept c.loop-i.self c.tell_one.new.self h.0 h.1) (λ k. (sym c.index-passes-i.is k, told k)) c.tell_one.ensures.kept in (
      c.tell_one.ensures.current,
      c.tell_one.ensures.kept.out ∙ c.loop-i.invariant.1,
      (λ k. slice_set (c.loop-i.invariant.2 k) i (told k))
          ∙ next-changed flushed xs i x at
          ∙ ap (λ n. map flushed (take n xs) ++ drop n xs) one,
      (λ last all. c.loop-i.invariant.3 last (subst (λ l. TellAll count c.loop-i.self l last) (sym left) (c.tell_one.new.self, kept, subst (λ n. TellAll count c.tell_one.new.self (drop n xs) last) (sym one) all))),
      subst (λ n. AllByRecursion (λ (h : HeldPass). h.flushed ≤ count) (take n xs)) one (all-next (λ (h : HeldPass). h.flushed ≤ count) flushed xs i x at c.loop-i.invariant.4 few),
    )

pub returns-clause-kept : goal.returns-clause-kept
returns-clause-kept g c =
    let xs = c.args.passes.now in
    let count = event_count (core_in c.args.history.now) in
    let all : length xs ≤ c.loop-i.i = search rules in
    c.loop-i.invariant.3 c.loop-i.self (subst (λ l. TellAll count c.loop-i.self l c.loop-i.self) (sym (drop_all c.loop-i.i xs all)) refl)

pub returns-clause-rising : goal.returns-clause-rising
returns-clause-rising g c =
    let xs = c.args.passes.now in
    let count = event_count (core_in c.args.history.now) in
    let all : length xs ≤ c.loop-i.i = search rules in
    subst (AllByRecursion (λ (h : HeldPass). h.flushed ≤ count)) (take_all c.loop-i.i xs all) c.loop-i.invariant.4
