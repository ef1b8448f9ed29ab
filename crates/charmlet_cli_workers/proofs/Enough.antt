-- Objects that suffice for lines.
use Rattle.std.proofs.Common.{◌≡◌, ◌+◌, ◌<◌, ◌≤◌, ℕ, List, ap, arith}
use Rattle.std.specs.Prelude.{drop, get_or, length}
use Rattle.std.proofs.lemmas.List.Sums.{sum_by-drop_more}
use Rattle.charmlet_model.specs.declared.kind.Kind.{Kind}
use Rattle.charmlet_script.specs.declared.script.Line.{Line}
use Rattle.charmlet_script.specs.Script.{blanks_in, blanks_of}

-- what is enough for lines is so for the first of them and the others
pub enough_for : (kind : Kind) (lines : List Line) (at : ℕ) (line : Line) (left : ℕ) → at < length lines → line ≡ get_or lines at line → blanks_of kind (drop at lines) ≤ left →
    blanks_in kind line + blanks_of kind (drop (at + 1) lines) ≤ left
enough_for kind lines at line left within is enough =
    let split : blanks_of kind (drop at lines) ≡ blanks_in kind (get_or lines at line) + blanks_of kind (drop (at + 1) lines) = sum_by-drop_more (blanks_in kind) lines at line within in
    let here : blanks_in kind line ≡ blanks_in kind (get_or lines at line) = ap (blanks_in kind) is in
    omega arith
