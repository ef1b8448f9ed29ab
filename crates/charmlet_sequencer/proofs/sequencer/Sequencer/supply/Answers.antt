use Rattle.std.proofs.Common.{◌≡◌, ap, subst, ◌∙◌}
use Rattle.std.specs.Prelude.{IfErr}
use Rattle.charmlet_sequencer.specs.Sequencer.{SequencerShown}
use Rattle.charmlet_sequencer.specs.Together.{shown_by}
use Rattle.charmlet_sequencer.proofs.Calls.{supplied_blanks, supplied_authority, supplied_count, supplied_retired, unsupplied_same}
use Rattle.charmlet_sequencer.proofs.sequencer.Sequencer.supply.Goals as goal

pub invariant_of-self : goal.invariant_of-self
invariant_of-self g c =
    let h = c.self.inside in
    let tied = c.self.invariant.1 in (
      c.self.invariant.0,
      record {
        authority = supplied_authority h.history h.stock c.supply.new.self h.parts g.C.Chare.state c.args.blanks.items (λ back. back.items ≡ c.args.blanks.items) c.supply.result tied.authority c.supply.ensures.ok c.supply.ensures.err;
        dropping = c.supply.ensures.keeping ∙ tied.dropping;
        agrees = tied.agrees;
        keeps = tied.keeps;
        current = tied.current;
      },
    )

pub returns-clause-blanks : goal.returns-clause-blanks
returns-clause-blanks g c =
    let h = c.self.inside in
    supplied_blanks h.history h.stock c.supply.new.self h.parts g.C.Chare.state c.args.blanks.items c.supply.result c.args.self.now.census (ap (λ (v : SequencerShown _). v.census) c.self.view_is) c.supply.ensures.ok

pub returns-clause-supplied : goal.returns-clause-supplied
returns-clause-supplied g c =
    let h = c.self.inside in
    supplied_count h.history h.stock c.supply.new.self h.parts g.C.Chare.state c.args.blanks.items c.supply.result c.args.self.now.census (ap (λ (v : SequencerShown _). v.census) c.self.view_is) c.supply.ensures.ok

pub returns-clause-retired : goal.returns-clause-retired
returns-clause-retired g c =
    let h = c.self.inside in
    supplied_retired h.history h.stock c.supply.new.self h.parts g.C.Chare.state c.args.blanks.items c.supply.result c.args.self.now.census (ap (λ (v : SequencerShown _). v.census) c.self.view_is) c.supply.ensures.ok

pub returns-clause-err : goal.returns-clause-err
returns-clause-err g c =
    let h = c.self.inside in
    subst (λ (v : SequencerShown _). IfErr c.supply.result (λ back. (back.items ≡ c.args.blanks.items) × (shown_by h.history c.supply.new.self h.halves ≡ v))) c.self.view_is
    (unsupplied_same h.history h.stock c.supply.new.self h.halves (λ back. back.items ≡ c.args.blanks.items) c.supply.result c.supply.ensures.err)
