use Rattle.std.proofs.Common.{rules, arith, ◌≡◌, ◌+◌, ◌-◌, ◌<◌, ◌++◌, ◌∷◌, [], Some, None, subst, sym, ap, ◌∙◌, append_assoc, append-nil, length, refl}
use Rattle.std.specs.Prelude.{IsSome}
use Rattle.atomic_table.specs.Table.{rest, turned}
use Rattle.charmlet_locks.specs.Home.{HoldsFrom, vacancies, value_in}
use Rattle.charmlet_locks.specs.Locks.{AreInOrder, number_of}
use Rattle.charmlet_locks.proofs.Keeps.{HoldsFirst, all_vacancies, all_numbers, held_first, no_numbers}
use Rattle.charmlet_locks.proofs.locks.Locks.into_values.Goals as goal

pub exchange-requires : goal.exchange-requires
exchange-requires g c =
    let place = c.loop-place.place in
    let count = c.self.inside.count in
    let less : place < count = search rules in
    let holds = c.loop-place.invariant.holds in
    let it : HoldsFirst g.N.Numbering.number place (count - place) holds.0 = held_first g.N.Numbering.number place (count - place) holds.0 (omega (arith, less)) holds.2 in
    let front : c.loop-place.seat.me.1 ≡ (place, Some it.value) ∷ (rest holds.0 ++ vacancies 0 place) = holds.1 ∙ ap (λ l. l ++ vacancies 0 place) it.is in
    (search rules, (Some it.value, front ∙ ap (λ l. (place, Some it.value) ∷ rest l) (sym front)))

pub loop-place-preserved : goal.loop-place-preserved
loop-place-preserved g c =
    let place = c.loop-place.place in
    let count = c.self.inside.count in
    let less : place < count = search rules in
    let holds = c.loop-place.invariant.holds in
    let it : HoldsFirst g.N.Numbering.number place (count - place) holds.0 = held_first g.N.Numbering.number place (count - place) holds.0 (omega (arith, less)) holds.2 in
    let front : c.loop-place.seat.me.1 ≡ (place, Some it.value) ∷ (rest holds.0 ++ vacancies 0 place) = holds.1 ∙ ap (λ l. l ++ vacancies 0 place) it.is in
    let left = c.exchange.ensures.3 in
    let is : g.N.Numbering.number c.unwrap-value.result ≡ place = ap (number_of g.N.Numbering.number) (sym c.unwrap-value.ensures) ∙ ap (λ l. number_of g.N.Numbering.number (value_in l)) (sym c.exchange.ensures.2 ∙ front) ∙ it.named in
    let fewer : (count - place) - 1 ≡ count - (place + 1) = omega arith in
    record {
      table = search rules;
      begun = λ any. ap (λ m. m.0) c.turn.ensures.2 ∙ ap (λ m. m.0) left ∙ c.loop-place.invariant.begun any;
      holds = (
        rest holds.0,
        ap (λ m. m.1) c.turn.ensures.2 ∙ ap (λ m. turned m.1) left ∙ ap (λ l. rest l ++ (place, None) ∷ []) front ∙ append_assoc (rest holds.0) (vacancies 0 place) ((place, None) ∷ []) ∙ ap (λ l. rest holds.0 ++ l) (all_vacancies place),
        subst (λ n. HoldsFrom g.N.Numbering.number (place + 1) n (rest holds.0)) fewer it.others,
      );
      values = subst (AreInOrder g.N.Numbering.number (place + 1)) (sym c.push_reserved.ensures.items) (all_numbers g.N.Numbering.number c.loop-place.values.items c.unwrap-value.result place c.loop-place.invariant.values is);
      len = search rules;
      room = search rules;
    }

pub loop-place-init : goal.loop-place-init
loop-place-init g c =
    let me = c.seize_all.new.seat.me in
    let took = c.seize_all.ensures.took c.if-not-seize_all.false in
    let all : c.self.inside.count ≡ c.self.inside.count - 0 = omega arith in
    let none : length c.args.values.items ≡ 0 = search rules in
    record {
      table = search rules;
      begun = c.seize_all.ensures.begun c.if-not-seize_all.false;
      holds = (me.1, sym (append-nil me.1), subst (λ n. HoldsFrom g.N.Numbering.number 0 n me.1) all took);
      values = no_numbers g.N.Numbering.number c.args.values.items none;
      len = search rules;
      room = search rules;
    }

pub unwrap-value-requires : goal.unwrap-value-requires
unwrap-value-requires g c =
    let place = c.loop-place.place in
    let count = c.self.inside.count in
    let less : place < count = search rules in
    let holds = c.loop-place.invariant.holds in
    let it : HoldsFirst g.N.Numbering.number place (count - place) holds.0 = held_first g.N.Numbering.number place (count - place) holds.0 (omega (arith, less)) holds.2 in
    let front : c.loop-place.seat.me.1 ≡ (place, Some it.value) ∷ (rest holds.0 ++ vacancies 0 place) = holds.1 ∙ ap (λ l. l ++ vacancies 0 place) it.is in
    subst IsSome (sym (ap value_in (sym c.exchange.ensures.2 ∙ front))) refl
