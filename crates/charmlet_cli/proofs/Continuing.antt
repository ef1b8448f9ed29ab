-- Stores that go on, line by line.
use Rattle.std.proofs.Common.{List, [], ◌∷◌, ◌++◌, refl, sym, ap, subst, ◌∙◌, append_assoc}
use Rattle.std.proofs.lemmas.List.{append-nil}
use Rattle.charmlet_model.specs.Texts.{Text}
use Rattle.charmlet_disk.specs.declared.disk.Disk as disks
use Rattle.charmlet_script.specs.declared.script.Line.{Line}
use Rattle.charmlet_engine.specs.Advances.{Advances}
use Rattle.charmlet_engine.specs.Engine.{EngineShown}
use Rattle.charmlet_engine.proofs.Lawful.{leaves_more}
use Rattle.charmlet_engine.proofs.Onward.{onward_after}
use Rattle.charmlet_script_output.specs.Ledgers.{Ledger, ledger_in}
use Rattle.charmlet_script_output.specs.Named.{Names}
use Rattle.charmlet_cli.specs.Lines.{Continues, Follows, Prints}

module _ {D : Type 0} (G : disks.Ghosts D) where
  -- an engine that advances
  pub continued : (old new : EngineShown D) → Advances G old new → Continues G (ledger_in old) (ledger_in new)
  continued old new advances = record { onward = advances.onward; any_moment = advances.any_moment; honest = advances.honest }

  -- one after another
  pub continues_after : (first mid last : Ledger D) → Continues G first mid → Continues G mid last → Continues G first last
  continues_after first mid last a b = record {
    onward = onward_after first.store.core mid.store.core last.store.core a.onward b.onward;
    any_moment = λ honest.
        leaves_more G first.store.core mid.store.core last.store.core a.onward b.onward first.disk mid.disk last.disk (a.any_moment honest) (b.any_moment (a.honest.0 honest));
    honest = ((λ h. b.honest.0 (a.honest.0 h)), (λ h. a.honest.1 (b.honest.1 h)));
  }

module _ {D : Type 0} (G : disks.Ghosts D) (named : Names) where
  -- the run ends later
  pub prints_until : (end later first last : Ledger D) (lines : List Line) (texts : List Text) → Continues G end later → Prints G named end first lines texts last → Prints G named later first lines texts last
  prints_until end later first last [] texts on h = h
  prints_until end later first last (line ∷ lines) texts on h =
      (h.0, h.1, h.2, h.3, h.4, continues_after G h.0 end later h.5 on, prints_until end later h.0 last lines h.2 on h.6, h.7)

  -- one line more
  pub prints_more : (end first mid last : Ledger D) (lines : List Line) (line : Line) (texts more : List Text) → Prints G named end first lines texts mid → Follows G named mid line more last →
      Continues G mid last → Continues G last end → Prints G named end first (lines ++ line ∷ []) (texts ++ more) last
  prints_more end first mid last [] line texts more h follows here rest = (
    last,
    more,
    [],
    subst (λ (ledger : Ledger D). Follows G named ledger line more last) h.1 follows,
    subst (λ (ledger : Ledger D). Continues G ledger last) h.1 here,
    rest,
    (refl, refl),
    ap (λ ts. ts ++ more) h.0 ∙ sym (append-nil more),
  )
  prints_more end first mid last (l ∷ lines) line texts more h follows here rest =
      (h.0, h.1, h.2 ++ more, h.3, h.4, h.5, prints_more end h.0 mid last lines line h.2 more h.6 follows here rest, ap (λ ts. ts ++ more) h.7 ∙ append_assoc h.1 h.2 more)
