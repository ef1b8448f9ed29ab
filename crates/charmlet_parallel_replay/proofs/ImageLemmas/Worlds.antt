-- The world of elements that came back, and of what waits.
use Rattle.std.proofs.Common.{◌≡◌, ℕ, Bool, true, false, List, [], ◌∷◌, refl, sym, ap, subst, ◌∙◌, if◌then◌else◌}
use Rattle.std.specs.Prelude.{Some, None, is_some}
use Rattle.charmlet_model.specs.declared.client.ClientRow.{ClientRow}
use Rattle.charmlet_model.specs.declared.message.Message.{Message}
use Rattle.charmlet_model.specs.declared.names.Elem.{Elem}
use Rattle.charmlet_model.specs.declared.state.Record.{Record}
use Rattle.charmlet_model.specs.Core.{home}
use Rattle.charmlet_model.specs.World.{record_at}
use Rattle.charmlet_record.specs.Reading.{Kinds}
use Rattle.charmlet_world.specs.declared.element.Element.{Element}
use Rattle.charmlet_world.specs.Seen.{IsCountedBy, Seen, Shows, element_at, present_rows}
use Rattle.charmlet_history.specs.Opened.{opened_clients, opened_element, opened_elements}
use Rattle.charmlet_replay.specs.Counted.{IsCountedWith}
use Rattle.charmlet_replay.proofs.Redelivered.{known_element}
use Rattle.charmlet_parallel_replay.specs.Image.ImageRestored.{world_with}

there_if : (n : ℕ) (x : Elem) (t : Bool) → is_some (if t then Some (home x n) else None) ≡ t
there_if n x true = refl
there_if n x false = refl

rows_are : (rows : List (ℕ × ClientRow)) → present_rows (opened_clients rows) ≡ rows
rows_are [] = refl
rows_are (e ∷ rows) = ap (λ (es : List (ℕ × ClientRow)). e ∷ es) (rows_are rows)

module _ (manifest : Kinds) (n : ℕ) (elements : List (Elem × Element)) (records : List (Elem × Record)) (pending : List Message) (rows : List (ℕ × ClientRow)) (are : elements ≡ opened_elements n records) where
  its : (x : Elem) → element_at elements x ≡ opened_element n x (record_at records x)
  its x = ap (λ es. element_at es x) are ∙ known_element n records x

  -- the counts are those of the records
  pub are_counted : IsCountedWith (world_with manifest records pending rows) elements rows
  are_counted = record {
    clients = refl;
    sent = λ x. ap (λ (e : Element). e.sent) (its x);
  }

  -- what is kept is that world
  pub shows_world : (k : Seen) → k ≡ record { manifest = manifest; processors = n; elements = elements; pending = pending; clients = opened_clients rows } → Shows k (world_with manifest records pending rows)
  shows_world k is = subst (λ j. Shows j (world_with manifest records pending rows)) (sym is) (record {
    manifest = refl;
    there = λ x. ap (λ (e : Element). is_some e.place) (its x) ∙ there_if n x (is_some (record_at records x).state);
    counts = λ x. record { sent = ap (λ (e : Element). e.sent) (its x); received = ap (λ (e : Element). e.received) (its x) };
    pending = refl;
    clients = rows_are rows;
  })
