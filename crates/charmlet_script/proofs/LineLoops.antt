-- Lines read one after the other, as a loop does.
use Rattle.std.proofs.Common.{◌≡◌, ◌+◌, ◌<◌, ◌≤◌, ◌∷◌, ◌++◌, [], ℕ, arith, length-append, if◌then◌else◌, List, Bool, true, false, map, drop, get_or, length, subst, sym, ◌∙◌, refl, Option, Some, None, Result, Ok, Err}
use Rattle.std.specs.List.{list_any}
use Rattle.std.proofs.lemmas.List.{drop_more, at_drop_all}
use Rattle.std.proofs.lemmas.List.Elements.{All-push}
use Rattle.charmlet_model.specs.Texts.{Text}
use Rattle.charmlet_script.specs.Script.{Contents}
use Rattle.charmlet_script.specs.Line.{◌>>=◌, is_empty, item_of}
use Rattle.charmlet_script.specs.Reading.{AreFor, is_array_line, may_add, may_declare, may_follow, with_array, with_handler, with_item, with_line, with_lines, with_processors}
use Rattle.charmlet_script.specs.declared.script.Line.{Line}
use Rattle.charmlet_script.specs.declared.draft.Purpose.{Purpose}
use Rattle.charmlet_script.specs.declared.line.Item.{Item}
use Rattle.charmlet_script.specs.declared.line.Item.TheVariants as items

-- an item adds one line at most
length-with_item : (purpose : Purpose) (script next : Contents) (item : Item) → with_item purpose script item ≡ Some next → length next.lines ≤ length script.lines + 1
unfolding with_item with_array with_handler with_processors
length-with_item purpose script next items.Skipped e =
    let same : script ≡ next = cc in
    rw (← same) (omega arith)
length-with_item purpose script next (items.Processors processors) e = if_declared (may_declare purpose script) e
  where
    if_declared : (may : Bool) → if may then Some (record script { declared_processors = Some processors }) else None ≡ Some next → length next.lines ≤ length script.lines + 1
    if_declared true declared =
        let same : record script { declared_processors = Some processors } ≡ next = cc in
        rw (← same) (omega arith)
    if_declared false none = absurd (cc)
length-with_item purpose script next (items.Array line) e = if_added (may_add purpose script line) e
  where
    if_added : (may : Bool) → if may then Some (record script { arrays = script.arrays ++ line ∷ [] }) else None ≡ Some next → length next.lines ≤ length script.lines + 1
    if_added true added =
        let same : record script { arrays = script.arrays ++ line ∷ [] } ≡ next = cc in
        rw (← same) (omega arith)
    if_added false none = absurd (cc)
length-with_item purpose script next (items.Handler line) e = if_added (is_empty script.lines) e
  where
    if_added : (may : Bool) → if may then Some (record script { handlers = script.handlers ++ line ∷ [] }) else None ≡ Some next → length next.lines ≤ length script.lines + 1
    if_added true added =
        let same : record script { handlers = script.handlers ++ line ∷ [] } ≡ next = cc in
        rw (← same) (omega arith)
    if_added false none = absurd (cc)
length-with_item purpose script next (items.Line line) e = if_added (may_follow purpose.runner line) e
  where
    if_added : (may : Bool) → if may then Some (record script { lines = script.lines ++ line ∷ [] }) else None ≡ Some next → length next.lines ≤ length script.lines + 1
    if_added true added =
        let same : record script { lines = script.lines ++ line ∷ [] } ≡ next = cc in
        rw (← same) (omega (arith, length-append script.lines (line ∷ [])))
    if_added false none = absurd (cc)

-- and so does a line of the text
pub length-with_line : (purpose : Purpose) (script next : Contents) (line : Text) → with_line purpose script line ≡ Some next → length next.lines ≤ length script.lines + 1
unfolding with_line
length-with_line purpose script next line e = if_spelled (item_of line) e
  where
    if_spelled : (spelled : Option Item) → (spelled >>= with_item purpose script) ≡ Some next → length next.lines ≤ length script.lines + 1
    if_spelled None none = absurd (cc)
    if_spelled (Some item) added = length-with_item purpose script next item added

-- an item adds no line that may not follow
AreFor-with_item : (purpose : Purpose) (script next : Contents) (item : Item) → AreFor purpose.runner script.lines → with_item purpose script item ≡ Some next → AreFor purpose.runner next.lines
unfolding with_item with_array with_handler with_processors
AreFor-with_item purpose script next items.Skipped so_far e =
    let same : script ≡ next = cc in
    subst (λ (s : Contents). AreFor purpose.runner s.lines) same so_far
AreFor-with_item purpose script next (items.Processors processors) so_far e = if_declared (may_declare purpose script) e
  where
    if_declared : (may : Bool) → if may then Some (record script { declared_processors = Some processors }) else None ≡ Some next → AreFor purpose.runner next.lines
    if_declared true declared =
        let same : record script { declared_processors = Some processors } ≡ next = cc in
        subst (λ (s : Contents). AreFor purpose.runner s.lines) same so_far
    if_declared false none = absurd (cc)
AreFor-with_item purpose script next (items.Array line) so_far e = if_added (may_add purpose script line) e
  where
    if_added : (may : Bool) → if may then Some (record script { arrays = script.arrays ++ line ∷ [] }) else None ≡ Some next → AreFor purpose.runner next.lines
    if_added true added =
        let same : record script { arrays = script.arrays ++ line ∷ [] } ≡ next = cc in
        subst (λ (s : Contents). AreFor purpose.runner s.lines) same so_far
    if_added false none = absurd (cc)
AreFor-with_item purpose script next (items.Handler line) so_far e = if_added (is_empty script.lines) e
  where
    if_added : (may : Bool) → if may then Some (record script { handlers = script.handlers ++ line ∷ [] }) else None ≡ Some next → AreFor purpose.runner next.lines
    if_added true added =
        let same : record script { handlers = script.handlers ++ line ∷ [] } ≡ next = cc in
        subst (λ (s : Contents). AreFor purpose.runner s.lines) same so_far
    if_added false none = absurd (cc)
AreFor-with_item purpose script next (items.Line line) so_far e = if_added (may_follow purpose.runner line) refl e
  where
    if_added : (may : Bool) → may_follow purpose.runner line ≡ may → if may then Some (record script { lines = script.lines ++ line ∷ [] }) else None ≡ Some next → AreFor purpose.runner next.lines
    if_added true fits added =
        let same : record script { lines = script.lines ++ line ∷ [] } ≡ next = cc in
        subst (λ (s : Contents). AreFor purpose.runner s.lines) same (All-push (λ (line : Line). may_follow purpose.runner line ≡ true) script.lines line so_far fits)
    if_added false fits none = absurd (cc)

-- and neither does a line of the text
pub AreFor-with_line : (purpose : Purpose) (script next : Contents) (line : Text) → AreFor purpose.runner script.lines → with_line purpose script line ≡ Some next → AreFor purpose.runner next.lines
unfolding with_line
AreFor-with_line purpose script next line so_far e = if_spelled (item_of line) e
  where
    if_spelled : (spelled : Option Item) → (spelled >>= with_item purpose script) ≡ Some next → AreFor purpose.runner next.lines
    if_spelled None none = absurd (cc)
    if_spelled (Some item) added = AreFor-with_item purpose script next item so_far added

module _ {W : Type 0} (text : W → Text) where
  pub any_goes_on : (lines : List W) (i : ℕ) (d : W) (found total : Bool) → i < length lines → found ≡ is_array_line (text (get_or lines i d)) → found ≡ false
      → list_any is_array_line (map text (drop i lines)) ≡ total → list_any is_array_line (map text (drop (i + 1) lines)) ≡ total
  any_goes_on lines i d found total lt is was so_far =
      let k : drop i lines ≡ get_or lines i d ∷ drop (i + 1) lines = drop_more lines i d lt in
      let e : is_array_line (text (get_or lines i d)) ≡ false = sym is ∙ was in
      let one : list_any is_array_line (map text (drop i lines)) ≡ list_any is_array_line (map text (drop (i + 1) lines)) = rw (k, e) refl in
      sym one ∙ so_far

  pub any_stops : (lines : List W) (i : ℕ) (d : W) (found total : Bool) → i < length lines → found ≡ is_array_line (text (get_or lines i d)) → found ≡ true
      → list_any is_array_line (map text (drop i lines)) ≡ total → true ≡ total
  any_stops lines i d found total lt is was so_far =
      let k : drop i lines ≡ get_or lines i d ∷ drop (i + 1) lines = drop_more lines i d lt in
      let e : is_array_line (text (get_or lines i d)) ≡ true = sym is ∙ was in
      let one : list_any is_array_line (map text (drop i lines)) ≡ true = rw (k, e) refl in
      sym one ∙ so_far

  pub any_done : (lines : List W) (i : ℕ) (total : Bool) → length lines ≤ i → list_any is_array_line (map text (drop i lines)) ≡ total → false ≡ total
  any_done lines i total le so_far = sym (at_drop_all (λ ls. list_any is_array_line (map text ls)) lines i le) ∙ so_far

module _ (purpose : Purpose) {W : Type 0} (text : W → Text) where
  pub lines_go_on : (lines : List W) (i : ℕ) (d : W) (script next : Contents) (total : Result Contents ℕ) → i < length lines → with_line purpose script (text (get_or lines i d)) ≡ Some next
      → with_lines purpose script (i + 1) (map text (drop i lines)) ≡ total → with_lines purpose next (i + 1 + 1) (map text (drop (i + 1) lines)) ≡ total
  unfolding with_lines
  lines_go_on lines i d script next total lt e so_far =
      let k : drop i lines ≡ get_or lines i d ∷ drop (i + 1) lines = drop_more lines i d lt in
      let one : with_lines purpose script (i + 1) (map text (drop i lines)) ≡ with_lines purpose next (i + 1 + 1) (map text (drop (i + 1) lines)) = rw (k, e) refl in
      sym one ∙ so_far

  pub lines_stop : (lines : List W) (i : ℕ) (d : W) (script : Contents) (total : Result Contents ℕ) → i < length lines → with_line purpose script (text (get_or lines i d)) ≡ None
      → with_lines purpose script (i + 1) (map text (drop i lines)) ≡ total → total ≡ Err (i + 1)
  unfolding with_lines
  lines_stop lines i d script total lt e so_far =
      let k : drop i lines ≡ get_or lines i d ∷ drop (i + 1) lines = drop_more lines i d lt in
      let one : with_lines purpose script (i + 1) (map text (drop i lines)) ≡ Err (i + 1) = rw (k, e) refl in
      sym so_far ∙ one

  pub lines_done : (lines : List W) (i : ℕ) (script : Contents) (total : Result Contents ℕ) → length lines ≤ i
      → with_lines purpose script (i + 1) (map text (drop i lines)) ≡ total → total ≡ Ok script
  unfolding with_lines
  lines_done lines i script total le so_far = sym so_far ∙ at_drop_all (λ ls. with_lines purpose script (i + 1) (map text ls)) lines i le
