-- What a script holds, and what its supply lines come to.
use Rattle.std.specs.Prelude.{◌≡◌, ◌≤◌, ℕ, true, is_some, length, map, ◌==◌, ◌-◌, ◌^◌, List, [], Option, None, unwrap_or, if◌then◌else◌, sum_by}
use Rattle.charmlet_model.specs.declared.kind.Kind.{Kind}
use Rattle.charmlet_model.specs.Kind.{kind_number}
use Rattle.charmlet_model.specs.Manifest.{manifest_of}
use Rattle.charmlet_script.specs.declared.script.ArrayLine.{ArrayLine}
use Rattle.charmlet_script.specs.declared.script.HandlerLine.{HandlerLine}
use Rattle.charmlet_script.specs.declared.script.Line.{Line}
use Rattle.charmlet_script.specs.declared.script.Line.TheVariants as lines

-- the header of a script: how many processors it declares, if it does, its arrays and its handlers;
-- and the lines after it
pub record Contents : Type 0 where
  pub declared_processors : Option ℕ
  pub arrays : List ArrayLine
  pub handlers : List HandlerLine
  pub lines : List Line

-- the script of a restart: its handlers, which are its header, and the lines after them
pub record RestartContents : Type 0 where
  pub handlers : List HandlerLine
  pub lines : List Line

-- an empty script
abbrev pub no_lines : Contents
no_lines = record { declared_processors = None; arrays = []; handlers = []; lines = [] }

-- what a script holds for a restart
abbrev pub for_restart : Contents → RestartContents
for_restart script = record { handlers = script.handlers; lines = script.lines }

-- how many processors a script has, 1 if it declares none
abbrev pub processors_of : Contents → ℕ
processors_of script = unwrap_or script.declared_processors 1

-- no script has more lines than this
abbrev pub most_lines : ℕ
most_lines = 2 ^ 32 - 1

-- the arrays with the numbers of their kinds
abbrev pub pairs_of : List ArrayLine → List (ℕ × ℕ)
pairs_of = map (λ line. (line.array, kind_number line.kind))

-- what holds of every script: its arrays make a manifest, and its lines are few enough to add up
-- their counts
pub record IsScript (arrays : List ArrayLine) (lines : List Line) : Type 0 where
  pub declared : is_some (manifest_of (pairs_of arrays)) ≡ true
  pub few : length lines ≤ most_lines

-- how many blanks of a kind a line supplies
abbrev pub blanks_in : Kind → Line → ℕ
blanks_in kind (lines.Supply other count) = if kind_number other == kind_number kind
    then count else 0
blanks_in kind _ = 0

-- how many of a kind all lines supply
abbrev pub blanks_of : Kind → List Line → ℕ
blanks_of kind = sum_by (blanks_in kind)
