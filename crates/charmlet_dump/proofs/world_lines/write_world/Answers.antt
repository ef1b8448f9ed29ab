use Rattle.std.proofs.Common.{◌++◌, ◌∙◌, ℕ, List, [], ◌∷◌, refl, subst}
use Rattle.std.specs.Io.KnownBytes.{Appends}
use Rattle.std.specs.List.{flat_map}
use Rattle.charmlet_model.specs.declared.client.ClientRow.{ClientRow}
use Rattle.charmlet_model.specs.declared.kind_version.KindVersion.{KindVersion}
use Rattle.charmlet_model.specs.declared.message.Message.{Message}
use Rattle.charmlet_model.specs.declared.names.Elem.{Elem}
use Rattle.charmlet_model.specs.declared.state.Record.{Record}
use Rattle.charmlet_dump.specs.Constructing.{all_kinds}
use Rattle.charmlet_dump.specs.Facts.{Fact, Store, array_facts, client_facts, construction_facts, element_facts, pending_facts}
use Rattle.charmlet_dump.specs.Lines.{fact_line, lines_of}
use Rattle.charmlet_dump.specs.Writing.{AppendsBeginning, Writes}
use Rattle.charmlet_dump.proofs.Printing.{beginning_written, begun, breaks_off, ends_so, goes_on}
use Rattle.charmlet_dump.proofs.world_lines.write_world.Goals as goal

pub returns-in_err-write_fact : goal.returns-in_err-write_fact
returns-in_err-write_fact g c =
    let found = c.args.found.now in
    let line = fact_line c.args.form in
    let old = g.W.Write.contents c.args.writer.now in
    let new = g.W.Write.contents c.write_fact.new.writer in
    let first : List Fact = Store found.generation found.events ∷ [] in
    let arrays = flat_map array_facts found.world.manifest in
    let elements = flat_map (element_facts c.args.processors) found.world.records in
    let pending = flat_map pending_facts found.world.pending in
    let constructions = flat_map (construction_facts found.world) all_kinds in
    let clients = flat_map client_facts found.world.clients in
    let rest = arrays ++ (elements ++ (pending ++ (constructions ++ clients))) in
    beginning_written c.from_residual.result _ old new (lines_of c.args.form (first ++ rest)) c.from_residual.ensures.1
    (breaks_off line old old new (first ++ rest) (first ++ rest) first rest (begun line old (first ++ rest)) refl c.in_err-write_fact.ensures)

pub returns-in_err-write_arrays : goal.returns-in_err-write_arrays
returns-in_err-write_arrays g c =
    let found = c.args.found.now in
    let line = fact_line c.args.form in
    let old = g.W.Write.contents c.args.writer.now in
    let one = g.W.Write.contents c.write_fact.new.writer in
    let new = g.W.Write.contents c.write_arrays.new.writer in
    let first : List Fact = Store found.generation found.events ∷ [] in
    let arrays = flat_map array_facts found.world.manifest in
    let elements = flat_map (element_facts c.args.processors) found.world.records in
    let pending = flat_map pending_facts found.world.pending in
    let constructions = flat_map (construction_facts found.world) all_kinds in
    let clients = flat_map client_facts found.world.clients in
    let rest = arrays ++ (elements ++ (pending ++ (constructions ++ clients))) in
    let begins = subst (λ (es : List (ℕ × KindVersion)). AppendsBeginning one new (lines_of c.args.form (flat_map array_facts es))) (c.as_slice.ensures.value ∙ c.requires.arrays) c.in_err-write_arrays.ensures in
    beginning_written c.from_residual-in_err-write_arrays.result _ old new (lines_of c.args.form (first ++ rest)) c.from_residual-in_err-write_arrays.ensures.1
    (breaks_off line old one new (first ++ rest) rest arrays (elements ++ (pending ++ (constructions ++ clients)))
    (goes_on line old old one (first ++ rest) (first ++ rest) first rest (begun line old (first ++ rest)) refl c.in_ok-write_fact.ensures) refl begins)

pub returns-in_err-write_elements : goal.returns-in_err-write_elements
returns-in_err-write_elements g c =
    let found = c.args.found.now in
    let line = fact_line c.args.form in
    let old = g.W.Write.contents c.args.writer.now in
    let one = g.W.Write.contents c.write_fact.new.writer in
    let two = g.W.Write.contents c.write_arrays.new.writer in
    let new = g.W.Write.contents c.write_elements.new.writer in
    let first : List Fact = Store found.generation found.events ∷ [] in
    let arrays = flat_map array_facts found.world.manifest in
    let elements = flat_map (element_facts c.args.processors) found.world.records in
    let pending = flat_map pending_facts found.world.pending in
    let constructions = flat_map (construction_facts found.world) all_kinds in
    let clients = flat_map client_facts found.world.clients in
    let all = first ++ (arrays ++ (elements ++ (pending ++ (constructions ++ clients)))) in
    let listed = subst (λ (es : List (ℕ × KindVersion)). Appends one two (lines_of c.args.form (flat_map array_facts es))) (c.as_slice.ensures.value ∙ c.requires.arrays) c.in_ok-write_arrays.ensures in
    let begins = subst (λ (es : List (Elem × Record)). AppendsBeginning two new (lines_of c.args.form (flat_map (element_facts c.args.processors) es))) c.records.ensures c.in_err-write_elements.ensures in
    let at_one = goes_on line old old one all all first (arrays ++ (elements ++ (pending ++ (constructions ++ clients)))) (begun line old all) refl c.in_ok-write_fact.ensures in
    let at_two = goes_on line old one two all (arrays ++ (elements ++ (pending ++ (constructions ++ clients)))) arrays (elements ++ (pending ++ (constructions ++ clients))) at_one refl listed in
    beginning_written c.from_residual-in_err-write_elements.result _ old new (lines_of c.args.form all) c.from_residual-in_err-write_elements.ensures.1
    (breaks_off line old two new all (elements ++ (pending ++ (constructions ++ clients))) elements (pending ++ (constructions ++ clients)) at_two refl begins)

pub returns-in_err-write_pending : goal.returns-in_err-write_pending
returns-in_err-write_pending g c =
    let found = c.args.found.now in
    let line = fact_line c.args.form in
    let old = g.W.Write.contents c.args.writer.now in
    let one = g.W.Write.contents c.write_fact.new.writer in
    let two = g.W.Write.contents c.write_arrays.new.writer in
    let three = g.W.Write.contents c.write_elements.new.writer in
    let new = g.W.Write.contents c.write_pending.new.writer in
    let first : List Fact = Store found.generation found.events ∷ [] in
    let arrays = flat_map array_facts found.world.manifest in
    let elements = flat_map (element_facts c.args.processors) found.world.records in
    let pending = flat_map pending_facts found.world.pending in
    let constructions = flat_map (construction_facts found.world) all_kinds in
    let clients = flat_map client_facts found.world.clients in
    let all = first ++ (arrays ++ (elements ++ (pending ++ (constructions ++ clients)))) in
    let listed = subst (λ (es : List (ℕ × KindVersion)). Appends one two (lines_of c.args.form (flat_map array_facts es))) (c.as_slice.ensures.value ∙ c.requires.arrays) c.in_ok-write_arrays.ensures in
    let kept = subst (λ (es : List (Elem × Record)). Appends two three (lines_of c.args.form (flat_map (element_facts c.args.processors) es))) c.records.ensures c.in_ok-write_elements.ensures in
    let begins = subst (λ (ms : List Message). AppendsBeginning three new (lines_of c.args.form (flat_map pending_facts ms))) c.pending.ensures c.in_err-write_pending.ensures in
    let at_one = goes_on line old old one all all first (arrays ++ (elements ++ (pending ++ (constructions ++ clients)))) (begun line old all) refl c.in_ok-write_fact.ensures in
    let at_two = goes_on line old one two all (arrays ++ (elements ++ (pending ++ (constructions ++ clients)))) arrays (elements ++ (pending ++ (constructions ++ clients))) at_one refl listed in
    let at_three = goes_on line old two three all (elements ++ (pending ++ (constructions ++ clients))) elements (pending ++ (constructions ++ clients)) at_two refl kept in
    beginning_written c.from_residual-in_err-write_pending.result _ old new (lines_of c.args.form all) c.from_residual-in_err-write_pending.ensures.1
    (breaks_off line old three new all (pending ++ (constructions ++ clients)) pending (constructions ++ clients) at_three refl begins)

pub returns-in_err-write_constructions : goal.returns-in_err-write_constructions
returns-in_err-write_constructions g c =
    let found = c.args.found.now in
    let line = fact_line c.args.form in
    let old = g.W.Write.contents c.args.writer.now in
    let one = g.W.Write.contents c.write_fact.new.writer in
    let two = g.W.Write.contents c.write_arrays.new.writer in
    let three = g.W.Write.contents c.write_elements.new.writer in
    let four = g.W.Write.contents c.write_pending.new.writer in
    let new = g.W.Write.contents c.write_constructions.new.writer in
    let first : List Fact = Store found.generation found.events ∷ [] in
    let arrays = flat_map array_facts found.world.manifest in
    let elements = flat_map (element_facts c.args.processors) found.world.records in
    let pending = flat_map pending_facts found.world.pending in
    let constructions = flat_map (construction_facts found.world) all_kinds in
    let clients = flat_map client_facts found.world.clients in
    let all = first ++ (arrays ++ (elements ++ (pending ++ (constructions ++ clients)))) in
    let listed = subst (λ (es : List (ℕ × KindVersion)). Appends one two (lines_of c.args.form (flat_map array_facts es))) (c.as_slice.ensures.value ∙ c.requires.arrays) c.in_ok-write_arrays.ensures in
    let kept = subst (λ (es : List (Elem × Record)). Appends two three (lines_of c.args.form (flat_map (element_facts c.args.processors) es))) c.records.ensures c.in_ok-write_elements.ensures in
    let waiting = subst (λ (ms : List Message). Appends three four (lines_of c.args.form (flat_map pending_facts ms))) c.pending.ensures c.in_ok-write_pending.ensures in
    let at_one = goes_on line old old one all all first (arrays ++ (elements ++ (pending ++ (constructions ++ clients)))) (begun line old all) refl c.in_ok-write_fact.ensures in
    let at_two = goes_on line old one two all (arrays ++ (elements ++ (pending ++ (constructions ++ clients)))) arrays (elements ++ (pending ++ (constructions ++ clients))) at_one refl listed in
    let at_three = goes_on line old two three all (elements ++ (pending ++ (constructions ++ clients))) elements (pending ++ (constructions ++ clients)) at_two refl kept in
    let at_four = goes_on line old three four all (pending ++ (constructions ++ clients)) pending (constructions ++ clients) at_three refl waiting in
    beginning_written c.from_residual-in_err-write_constructions.result _ old new (lines_of c.args.form all) c.from_residual-in_err-write_constructions.ensures.1
    (breaks_off line old four new all (constructions ++ clients) constructions clients at_four refl c.in_err-write_constructions.ensures)

pub returns : goal.returns
returns g c =
    let found = c.args.found.now in
    let line = fact_line c.args.form in
    let old = g.W.Write.contents c.args.writer.now in
    let one = g.W.Write.contents c.write_fact.new.writer in
    let two = g.W.Write.contents c.write_arrays.new.writer in
    let three = g.W.Write.contents c.write_elements.new.writer in
    let four = g.W.Write.contents c.write_pending.new.writer in
    let five = g.W.Write.contents c.write_constructions.new.writer in
    let new = g.W.Write.contents c.write_clients.new.writer in
    let first : List Fact = Store found.generation found.events ∷ [] in
    let arrays = flat_map array_facts found.world.manifest in
    let elements = flat_map (element_facts c.args.processors) found.world.records in
    let pending = flat_map pending_facts found.world.pending in
    let constructions = flat_map (construction_facts found.world) all_kinds in
    let clients = flat_map client_facts found.world.clients in
    let all = first ++ (arrays ++ (elements ++ (pending ++ (constructions ++ clients)))) in
    let listed = subst (λ (es : List (ℕ × KindVersion)). Appends one two (lines_of c.args.form (flat_map array_facts es))) (c.as_slice.ensures.value ∙ c.requires.arrays) c.in_ok-write_arrays.ensures in
    let kept = subst (λ (es : List (Elem × Record)). Appends two three (lines_of c.args.form (flat_map (element_facts c.args.processors) es))) c.records.ensures c.in_ok-write_elements.ensures in
    let waiting = subst (λ (ms : List Message). Appends three four (lines_of c.args.form (flat_map pending_facts ms))) c.pending.ensures c.in_ok-write_pending.ensures in
    let last = subst (λ (es : List (ℕ × ClientRow)). Writes c.write_clients.result five new (lines_of c.args.form (flat_map client_facts es))) c.clients.ensures c.write_clients.ensures in
    let at_one = goes_on line old old one all all first (arrays ++ (elements ++ (pending ++ (constructions ++ clients)))) (begun line old all) refl c.in_ok-write_fact.ensures in
    let at_two = goes_on line old one two all (arrays ++ (elements ++ (pending ++ (constructions ++ clients)))) arrays (elements ++ (pending ++ (constructions ++ clients))) at_one refl listed in
    let at_three = goes_on line old two three all (elements ++ (pending ++ (constructions ++ clients))) elements (pending ++ (constructions ++ clients)) at_two refl kept in
    let at_four = goes_on line old three four all (pending ++ (constructions ++ clients)) pending (constructions ++ clients) at_three refl waiting in
    let at_five = goes_on line old four five all (constructions ++ clients) constructions clients at_four refl c.in_ok-write_constructions.ensures in
    ends_so line c.write_clients.result old five new all clients at_five last
