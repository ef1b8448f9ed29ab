use Rattle.std.proofs.Common.{◌≡◌, ◌+◌, ◌∷◌, ◌++◌, [], Some, sym, ap, ◌∙◌, take}
use Rattle.std.specs.Prelude.{if◌then◌else◌}
use Rattle.std.specs.Str.{bytes_eq}
use Rattle.std.proofs.lemmas.List.{take_more}
use Rattle.charmlet_requests.specs.Handlers.{handler_of}
use Rattle.charmlet_stock.proofs.Results.{when_ok}
use Rattle.charmlet_script_output.specs.Named.{named_by}
use Rattle.charmlet_script_output.proofs.Naming.{named_more}
use Rattle.charmlet_script_output.proofs.calls.handlers_of.Goals as goal

pub loop-line-preserved : goal.loop-line-preserved
loop-line-preserved c name =
    let lines = c.args.lines.now in
    let at = c.loop-line.line-index in
    let line = c.line-item.result in
    let before = handler_of c.loop-line.handlers name in
    let handler = Some (record { array = line.array; entry = line.entry }) in
    let registered = when_ok _ c.register.result (sym c.is_err.ensures.value ∙ c.if-is_err.false) c.register.ensures.ok name in
    let more : take (at + 1) lines ≡ take at lines ++ line ∷ [] = take_more lines at line c.loop-line-test.true ∙ ap (λ l. take at lines ++ l ∷ []) (sym c.line-item.is) in
    registered
    ∙ ap (λ bytes. if bytes_eq bytes name then handler else before) c.as_str.ensures
    ∙ ap (λ o. if bytes_eq line.name name then handler else o) (c.loop-line.invariant name)
    ∙ sym (named_more (take at lines) line name) ∙ sym (ap (λ ls. named_by ls name) more)
