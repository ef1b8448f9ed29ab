-- Objects that suffice.
use Rattle.std.proofs.Common.{◌≡◌, ◌≤◌, ◌↔◌, List, false, true, Bool, sym, subst}
use Rattle.std.proofs.lemmas.Bool.{iff_false}
use Rattle.charmlet_model.specs.declared.kind.Kind.{Kind}
use Rattle.charmlet_model.specs.declared.kind.Kind.TheVariants as kinds
use Rattle.charmlet_model.specs.declared.state.State.{State}
use Rattle.charmlet_model.specs.Shelves.{count_of}
use Rattle.charmlet_engine.specs.wanted.Wanted.{Wanted}
use Rattle.charmlet_engine.specs.Wanted.{blanks_in}
use Rattle.charmlet_script.specs.declared.script.Line.{Line}
use Rattle.charmlet_script.specs.Script.{blanks_of}
use Rattle.charmlet_script_output.specs.Supplied.{AreEnough}

-- what is counted by lines, and of a list that is this one
module _ {C : Type 0} (state : C → State) (wanted : Wanted) (lines : List Line) (items objects : List C) (same : items ≡ objects) (counts : (kind : Kind) → blanks_in wanted kind ≡ blanks_of kind lines) where
  pub enough : ((kind : Kind) → blanks_in wanted kind ≤ count_of state items kind) → AreEnough state objects lines
  enough all = λ kind. subst (λ n. n ≤ count_of state objects kind) (counts kind) (subst (λ xs. blanks_in wanted kind ≤ count_of state xs kind) same (all kind))

  pub suffices : AreEnough state objects lines → (kind : Kind) → blanks_in wanted kind ≤ count_of state items kind
  suffices all kind = subst (λ n. n ≤ count_of state items kind) (sym (counts kind)) (subst (λ xs. blanks_of kind lines ≤ count_of state xs kind) (sym same) (all kind))

  -- the test says so
  pub is_enough : (b : Bool) → ((b ≡ true) ↔ ((kind : Kind) → blanks_in wanted kind ≤ count_of state items kind)) → b ≡ true → AreEnough state objects lines
  is_enough b test is = enough (test.0 is)

  pub is_too_few : (b : Bool) → ((b ≡ true) ↔ ((kind : Kind) → blanks_in wanted kind ≤ count_of state items kind)) → b ≡ false → ¬ AreEnough state objects lines
  is_too_few b test is = λ all. iff_false test is (suffices all)

-- what holds of each of the kinds holds of all
pub by_kind : (P : Kind → Type 0) → P kinds.Counter → P kinds.Ring → P kinds.Account → P kinds.Sum → P kinds.Tree → P kinds.Tape → (kind : Kind) → P kind
by_kind P counter ring account sum tree tape kinds.Counter = counter
by_kind P counter ring account sum tree tape kinds.Ring = ring
by_kind P counter ring account sum tree tape kinds.Account = account
by_kind P counter ring account sum tree tape kinds.Sum = sum
by_kind P counter ring account sum tree tape kinds.Tree = tree
by_kind P counter ring account sum tree tape kinds.Tape = tape
