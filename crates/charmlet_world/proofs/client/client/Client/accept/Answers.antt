use Rattle.std.proofs.Common.{◌≡◌, ◌++◌, ◌∷◌, [], refl, sym, ◌∙◌, subst}
use Rattle.std.specs.Prelude.{None}
use Rattle.charmlet_model.specs.Row.{with_request}
use Rattle.charmlet_world.specs.Client.Client.{Rows, durable_row}
use Rattle.charmlet_world.specs.declared.client.client.Client.TheInside.{Inside}
use Rattle.charmlet_world.proofs.ClientLemmas.RowsLemmas.{row, rows, rows-requested, place-full, place-other}
use Rattle.charmlet_world.proofs.client.client.Client.accept.Goals as goal
use Rattle.charmlet_world.proofs.client.client.Client.accept.Goals.{then-len-eq-MAX_UNANSWERED, else-len-eq-MAX_UNANSWERED}

pub returns : goal.returns
returns c =
    let own = c.self.inside in
    let window = c.push.new.self in
    let number = c.args.number in
    subst (λ (r : Rows).
    rows (row number window)
    (durable_row (row number window) c.if-len-eq-MAX_UNANSWERED.self-inside.durable_last c.if-len-eq-MAX_UNANSWERED.self-inside.dropped c.if-len-eq-MAX_UNANSWERED.self-inside.durable.items)
    ≡ rows (with_request r.present number) r.durable)
    c.self.view_is
    (elim c.if-len-eq-MAX_UNANSWERED.branch [
      | then-len-eq-MAX_UNANSWERED w ↦ subst (λ (s : Inside). window ≡ s.present.window ++ None ∷ [] →
          rows (row number window) (durable_row (row number window) s.durable_last s.dropped s.durable.items)
          ≡ rows (with_request own.present number) (durable_row own.present own.durable_last own.dropped own.durable.items))
          (sym w.self-inside-is)
          (λ is_window. rows-requested own.present number own.durable_last own.dropped w.drop_first.new.dropped own.durable.items w.drop_first.new.durable.items w.drop_first.new.window window
          (w.drop_first.ensures.window ∙ place-full own.present.window (sym c.len.ensures.count ∙ w.if-len-eq-MAX_UNANSWERED.true)) w.drop_first.ensures.durable w.drop_first.ensures.within.shared is_window)
          c.push.ensures
      | else-len-eq-MAX_UNANSWERED w ↦ subst (λ (s : Inside). window ≡ s.present.window ++ None ∷ [] →
          rows (row number window) (durable_row (row number window) s.durable_last s.dropped s.durable.items)
          ≡ rows (with_request own.present number) (durable_row own.present own.durable_last own.dropped own.durable.items))
          (sym w.self-inside-is)
          (λ is_window. rows-requested own.present number own.durable_last own.dropped own.dropped own.durable.items own.durable.items own.present.window window
          (place-other own.present.window c.self.invariant.few (λ e. w.if-len-eq-MAX_UNANSWERED.false (c.len.ensures.count ∙ e))) refl c.self.invariant.shared is_window)
          c.push.ensures
    ])
