use Rattle.std.proofs.Common.{ℕ, ◌≡◌, ◌<◌, Bool, true, false, List, [], ◌∷◌, ap, sym, subst, ◌∙◌, if◌then◌else◌}
use Rattle.std.specs.Prelude.{Some, None, IfSome, is_some, unwrap_or}
use Rattle.std.specs.BTreeMap.{is_at}
use Rattle.std.specs.Map.{lookup}
use Rattle.charmlet_model.specs.declared.names.Elem.{Elem}
use Rattle.charmlet_model.specs.declared.state.Record.{Record}
use Rattle.charmlet_model.specs.Core.{home}
use Rattle.charmlet_model.specs.Names.{elem_cmp}
use Rattle.charmlet_world.proofs.Tying.{home_within}
use Rattle.charmlet_locate.specs.Locations.{is_processor_count}
use Rattle.charmlet_model.specs.Fit.{AreDistinct}
use Rattle.charmlet_model.specs.World.{World}
use Rattle.charmlet_world.specs.Seen.{Held, Seen, element_at, no_element, seen}
use Rattle.charmlet_history.specs.Opened.{opened_clients, opened_element, opened_elements, with_arrays}
use Rattle.charmlet_history.proofs.opening.Opening.with.Goals as goal

-- what is seen of a world at its opening
given : World → ℕ → Seen
given v n = record { manifest = v.manifest; processors = n; elements = opened_elements n v.records; pending = v.pending; clients = opened_clients v.clients }

pub of-requires-clause-distinct : goal.of-requires-clause-distinct
of-requires-clause-distinct c = subst AreDistinct (sym c.requires.pending) c.requires.fit.distinct

-- each element stands on its home
at_home : (n : ℕ) → is_processor_count n ≡ true → (rs : List (Elem × Record)) (x : Elem) → IfSome (element_at (opened_elements n rs) x).place (λ p. p < n)
at_home n some [] x = tt
at_home n some (e ∷ rs) x =
    let more = at_home n some rs x in
    elim (is_at (elem_cmp x) e.0) as (λ b. IfSome (unwrap_or (if b then Some (opened_element n e.0 e.1) else lookup (is_at (elem_cmp x)) (opened_elements n rs)) no_element).place (λ p. p < n)) [
      | true ↦ by (is_some e.1.state)
      | false ↦ more
    ]
  where
    by : (t : Bool) → IfSome (if t then Some (home e.0 n) else None) (λ p. p < n)
    by true = home_within n some e.0
    by false = tt

pub of-requires-clause-places : goal.of-requires-clause-places
of-requires-clause-places c = λ x. subst (λ es. IfSome (element_at es x).place (λ p. p < c.args.processors)) (sym c.requires.elements) (at_home c.args.processors c.requires.processors c.args.seen.world.records x)

pub returns-clause-opening : goal.returns-clause-opening
unfolding given
returns-clause-opening c =
    let w : World = c.args.seen.world in
    let n = c.args.processors in
    let p = c.in_ok-present.ensures in
    let r = c.requires in
    let manifest = ap (λ (s : Seen). s.manifest) p.seen ∙ sym r.manifest in
    let world : c.from_parts.result.world ≡ w = c.from_parts.ensures.world ∙ ap (λ m. with_arrays m w) manifest in
    let processors : c.from_parts.result.processors ≡ n = c.from_parts.ensures.processors ∙ ap (λ (s : Seen). s.processors) p.seen in
    record {
      processors = ap is_processor_count processors ∙ r.processors;
      seen = ap seen c.from_parts.ensures.held ∙ p.seen
          ∙ (λ i. record { manifest = sym r.manifest i; processors = n; elements = r.elements i; pending = r.pending i; clients = r.clients i })
          ∙ sym (λ i. given (world i) (processors i));
      promised = ap (λ (h : Held). h.promised) c.from_parts.ensures.held ∙ p.promised;
    }

pub returns-clause-world : goal.returns-clause-world
returns-clause-world c =
    let w : World = c.args.seen.world in
    c.from_parts.ensures.world ∙ ap (λ m. with_arrays m w) (ap (λ (s : Seen). s.manifest) c.in_ok-present.ensures.seen ∙ sym c.requires.manifest)

pub returns-clause-on : goal.returns-clause-on
returns-clause-on c = c.from_parts.ensures.processors ∙ ap (λ (s : Seen). s.processors) c.in_ok-present.ensures.seen
