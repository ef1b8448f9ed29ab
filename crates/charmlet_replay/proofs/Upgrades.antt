-- A store that goes on in the newest versions is what its half means.
use Rattle.std.proofs.Common.{◌≡◌, ℕ, ◌+◌, Bool, List, [], ◌∷◌, length, refl, sym, ap, subst, ◌∙◌}
use Rattle.std.specs.Prelude.{Option, Some, None, is_some, option_map, if◌then◌else◌}
use Rattle.charmlet_model.specs.declared.names.Elem.{Elem}
use Rattle.charmlet_model.specs.declared.state.State.{State}
use Rattle.charmlet_model.specs.declared.state.Record.{Record}
use Rattle.charmlet_model.specs.Core.{Blanks, Core, home}
use Rattle.charmlet_model.specs.KindVersion.{are_newest}
use Rattle.charmlet_model.specs.Sound.{homes, opened}
use Rattle.charmlet_model.specs.Upgrade.{up, up_records, up_world}
use Rattle.charmlet_model.specs.World.{World}
use Rattle.charmlet_image.specs.Images.{Saved}
use Rattle.charmlet_recovery.specs.Bases.{base, events_of, recovered_world}
use Rattle.charmlet_recovery.specs.Blanks.{made}
use Rattle.charmlet_recovery.specs.Faults.{Place, first_fault}
use Rattle.charmlet_recovery.specs.Meanings.{Whole, meaning, unless_faulty}
use Rattle.charmlet_recovery.specs.Recovered.{log_of, upgraded}
use Rattle.charmlet_recovery.proofs.Recovered.{manifest-world}
use Rattle.charmlet_history.specs.Kept.{core_in}
use Rattle.charmlet_history.specs.Opened.{upgraded_core}
use Rattle.charmlet_stock.specs.declared.by_kind.ByKind.{ByKind}
use Rattle.charmlet_stock.specs.declared.pile.Tally.{Tally}
use Rattle.charmlet_stock.specs.ByKind.{at}
use Rattle.charmlet_replay.specs.Ready.{IsOpened}
use Rattle.charmlet_replay.specs.Replayed.{IsRepeated, IsReplayed}
use Rattle.charmlet_store.specs.Store.{StoreShown}

-- ---- each element stands where it stood

is_some-up : (o : Option State) → is_some (option_map up o) ≡ is_some o
is_some-up None = refl
is_some-up (Some s) = refl

homes-up : (processors : ℕ) (rs : List (Elem × Record)) → homes processors (up_records rs) ≡ homes processors rs
homes-up processors [] = refl
homes-up processors (r ∷ rs) = λ i. if is_some-up r.1.state i then (r.0, home r.0 processors) ∷ homes-up processors rs i else homes-up processors rs i

opened-up : (core : Core) → IsOpened core → IsOpened (upgraded_core core)
opened-up core is =
    ap upgraded_core is
    ∙ (λ i. record (opened core.processors (up_world core.opening) core.before core.generation core.log_end) { places = sym (homes-up core.processors core.opening.records) i })

-- ---- the arrays are those of the image

whole-world : (o : Option Place) (v : World) (n : ℕ) (w : World) (count : ℕ) → unless_faulty o v n ≡ Whole w count → v ≡ w
whole-world None v n w count h = cc
whole-world (Some place) v n w count h = absurd (let no : ⊥ = cc in no)

gives-arrays : (s : Saved) (w : World) (count : ℕ) → meaning s.image s.header.events (log_of s) ≡ Whole w count → w.manifest ≡ s.image.manifest
gives-arrays s w count gives =
    ap (λ (v : World). v.manifest) (sym (whole-world (first_fault s.image s.header.events (log_of s)) (recovered_world s.image (log_of s)) (s.header.events + length (log_of s)) w count gives))
    ∙ manifest-world (base s.image) (events_of (log_of s))

-- ---- the store

module _ (C : Type 0) (processors : ℕ) (given : Blanks) (s : Saved) (old new : StoreShown) (current : Bool) (repeated : IsRepeated processors given s old)
    (core : core_in new.history ≡ upgraded_core (core_in old.history)) (census : new.census ≡ old.census) (newest : current ≡ are_newest (core_in old.history).opening.manifest) where
  pub is_upgraded : IsReplayed {C = C} processors given s (record { store = new; is_current = current })
  is_upgraded = record {
    ready = record { opened = subst IsOpened (sym core) (opened-up (core_in old.history) repeated.ready.opened) };
    on = ap (λ (k : Core). k.processors) core ∙ repeated.on;
    means = ap upgraded repeated.gives ∙ (λ i. Whole ((sym core i).opening) ((sym core i).before));
    current = newest ∙ ap are_newest (gives-arrays s (core_in old.history).opening (core_in old.history).before repeated.gives);
    generation = ap (λ (k : Core). k.generation) core ∙ repeated.generation;
    log_end = ap (λ (k : Core). k.log_end) core ∙ repeated.log_end;
    left = λ kind. subst (λ (its : ByKind Tally). (at its kind).in_stock + made s.image (log_of s) kind ≡ given kind) (sym census) (repeated.left kind);
  }
