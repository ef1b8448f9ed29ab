-- From clap's matches and faults to the run that a line asks for.
use Rattle.std.proofs.Common.{◌≡◌, ◌≢◌, ◌∙◌, ◌∷◌, [], List, Bool, true, false, Option, Some, None, ap, codes, refl, sym, inl, inr, option_and_then, option_map, unwrap_or, Result, Ok, Err, IfErr}
use Rattle.std.specs.Bool.{Decides}
use Rattle.std.specs.Option.{option_map_or}
use Rattle.std.proofs.lemmas.Slice.Eq.{bytes_eq-Decides}
use Rattle.std.specs.Str.{bytes_eq}
use Rattle.std.specs.Str.Parse.{ParsesBool}
use Rattle.clap.specs.Matches.{ReadsOne, first_value, one_text}
use Rattle.clap.specs.Walk.{Row, Text, rows_of}
use Rattle.std.specs.Prelude.{Box, IsErrAnd}
use Rattle.std.specs.Box.{box_value}
use Rattle.clap.specs.Simple.{App, is_simple, subcommand_of, subcommand_rows}
use Rattle.clap.specs.declared.parser.matches.SubCommand.{SubCommand}
use Rattle.clap.specs.declared.parser.matches.ArgMatches.TheViews.{out-SubCommand}
use Rattle.clap.specs.Faults.{fault_of, is_simple_and_free}
use Rattle.clap.specs.Kinds.{Kinds, HasKind, IsAmong, or_else}
use Rattle.clap.specs.Values.{kind_of}
use Rattle.clap.specs.declared.error.Error.{Error}
use Rattle.clap.specs.declared.error.kind.ErrorKind.{ErrorKind}
use Rattle.clap.specs.declared.error.kind.ErrorKind.TheVariants.{MissingSubcommand}
use Rattle.clap.specs.declared.parser.matches.Found.{Found}
use Rattle.clap.proofs.OnLiterals.{clap_on_literals}
use Rattle.clap.proofs.WalkLemmas.{first_value-rows, one_text-rows}
use Rattle.charmlet_cli.specs.Command.CommandLine.{AsksNothing, IsErrorOf, Runs, Shows, Tries, asked, asked_by, charmlet_line, is_on, lab_of, run_of, show_of}
use Rattle.charmlet_cli.specs.declared.command.CommandError.{CommandError}
use Rattle.charmlet_cli.specs.declared.command.CommandError.TheVariants.{Memory, Line}

-- clap's faults of our command are exact
charmlet_is_free : is_simple_and_free charmlet_line ≡ true
unfolding clap_on_literals
charmlet_is_free = refl

-- and so are its matches
charmlet_is_simple : is_simple charmlet_line ≡ true
unfolding clap_on_literals
charmlet_is_simple = refl

-- a flag, as the getter has it, is on where its word is `true`
flag_is : {E : Type 0} (gives : Text → Result Bool E → Type 0) → ((word : Text) (read : Result Bool E) → gives word read → ParsesBool word read)
    → (word : Option Text) (flag : Option Bool) → (word ≡ None → flag ≡ None) → ((t : Text) → word ≡ Some t → ReadsOne gives t flag)
    → unwrap_or flag false ≡ option_map_or (λ word. bytes_eq word (codes "true")) word false
flag_is gives parses None flag none value = rw (none refl) refl
flag_is gives parses (Some word) (Some true) none value =
    let is_true : word ≡ codes "true" = parses word (Ok true) (value word refl) in
    rw is_true refl
flag_is gives parses (Some word) (Some false) none value =
    let is_false : word ≡ codes "false" = parses word (Ok false) (value word refl) in
    rw is_false refl
flag_is gives parses (Some word) None none value =
    let refused = value word refl in
    let other = parses word (Err refused.0) refused.1 in
    sym (isnt_true (bytes_eq word (codes "true")) (bytes_eq-Decides word (codes "true")) other.0)
  where
    isnt_true : (same : Bool) → Decides same (word ≡ codes "true") → word ≢ codes "true" → same ≡ false
    isnt_true true decides other = absurd (other (decides.0 refl))
    isnt_true false decides other = refl

-- the flag, as the getter has it, is on where the line has it
pub flag_of_value : {E : Type 0} (gives : Text → Result Bool E → Type 0) → ((word : Text) (read : Result Bool E) → gives word read → ParsesBool word read)
    → (found : Found) (id : Text) (flag : Option Bool) → (one_text found id ≡ None → flag ≡ None) → ((t : Text) → one_text found id ≡ Some t → ReadsOne gives t flag)
    → unwrap_or flag false ≡ is_on id (rows_of found)
flag_of_value gives parses found id flag none value = flag_is gives parses (one_text found id) flag none value ∙ ap (λ word. option_map_or (λ word. bytes_eq word (codes "true")) word false) (one_text-rows found id)

-- the script, the folder and the flags, as the getters have them, make the run
pub run_of_values : (found : Found) (script dir : Option Text) (workers strict : Bool)
    → script ≡ first_value found (codes "script") → dir ≡ first_value found (codes "dir") → workers ≡ is_on (codes "workers") (rows_of found)
    → strict ≡ is_on (codes "strict") (rows_of found)
    → option_map (λ script. Runs script dir workers strict) script ≡ run_of (rows_of found)
run_of_values found script dir workers strict s d w t = rw (s ∙ first_value-rows found (codes "script"), d ∙ first_value-rows found (codes "dir"), w, t) refl

-- and where there is no script, there is no run
pub no_run_of : (found : Found) → None ≡ first_value found (codes "script") → None ≡ run_of (rows_of found)
no_run_of found s = rw (← first_value-rows found (codes "script"), ← s) refl

-- the folder, as the getter has it, makes the showing
pub show_of_value : (found : Found) (dir : Option Text) → dir ≡ first_value found (codes "folder") → option_map Shows dir ≡ show_of (rows_of found)
show_of_value found dir d = rw (d ∙ first_value-rows found (codes "folder")) refl

-- and where there is none, there is no showing
pub no_show_of : (found : Found) → None ≡ first_value found (codes "folder") → None ≡ show_of (rows_of found)
no_show_of found d = rw (← first_value-rows found (codes "folder"), ← d) refl

-- the script, as the getter has it, makes the trial
pub lab_of_value : (found : Found) (script : Option Text) → script ≡ first_value found (codes "script") → option_map Tries script ≡ lab_of (rows_of found)
lab_of_value found script s = rw (s ∙ first_value-rows found (codes "script")) refl

-- and where there is none, there is no trial
pub no_lab_of : (found : Found) → None ≡ first_value found (codes "script") → None ≡ lab_of (rows_of found)
no_lab_of found s = rw (← first_value-rows found (codes "script"), ← s) refl

-- the name and the values of the subcommand that was met
pub run_is : (found : Option (Text × List Row)) (name : Text) (rows : List Row)
    → Some name ≡ option_map (λ p. p.0) found → Some rows ≡ option_map (λ p. p.1) found → bytes_eq name (codes "run") ≡ true
    → run_of rows ≡ option_and_then asked_by found
run_is None name rows n r run = absurd (cc)
run_is (Some (met, values)) name rows n r run =
    let same_name : name ≡ met = cc in
    let same_rows : rows ≡ values = cc in
    rw (← same_name, ← same_rows, run) refl

module _ {Z : Type 0} where
  -- the name of the subcommand, as its getter and as the rows have it
  pub name_of_rows : (o : Option (Box SubCommand Z)) → option_map (λ b. (out-SubCommand (box_value b)).name.now) o ≡ option_map (λ p. p.0) (subcommand_rows o)
  name_of_rows None = refl
  name_of_rows (Some b) = refl

-- where clap finds no fault, the subcommand that it met decides
pub asked_is : (app : App) (words : List Text) (others : Type 0) (found : Option (Text × List Row)) → app ≡ charmlet_line
    → (is_simple_and_free app ≡ true → fault_of app words ≡ [])
    → (is_simple app ≡ true → others × (found ≡ subcommand_of app words))
    → asked words ≡ option_and_then asked_by found
unfolding asked
asked_is app words others found is none met =
    let no_fault : fault_of charmlet_line words ≡ [] = rw is at none charmlet_is_free in
    let same : found ≡ subcommand_of charmlet_line words = (rw is at met charmlet_is_simple).1 in
    rw (no_fault, same) refl

-- where it finds one, nothing is asked
nothing_asked : (words : List Text) (kind : ErrorKind) (faults : Kinds) → fault_of charmlet_line words ≡ faults → IsAmong kind faults → asked words ≡ None
unfolding asked
nothing_asked words kind [] e among = absurd among
nothing_asked words kind (k ∷ ks) e among = rw e refl

-- and one of its faults tells so
told_by : (kind : ErrorKind) (faults others : Kinds) → IsAmong kind faults → IsAmong kind (or_else faults others)
told_by kind [] others among = absurd among
told_by kind (k ∷ ks) others among = among

answered : (words : List Text) (error : Error) (answer : CommandError) → HasKind (fault_of charmlet_line words) error → IsErrorOf error answer
    → AsksNothing words answer
answered words error Memory kinds is = tt
answered words error (Line text) kinds is = elim kinds [
  | inl memory ↦ let never : Line text ≡ Memory = is.memory memory in absurd (cc)
  | inr among ↦
      let whole : Line text ≡ Line error = is.line (λ memory. let never : Line text ≡ Memory = is.memory memory in absurd (cc)) in
      let same : error ≡ text = cc in
      let told : IsAmong (kind_of text) (fault_of charmlet_line words) = rw (← same) among in
      (nothing_asked words (kind_of text) _ refl told, told_by (kind_of text) _ _ told)
]

-- where clap finds no fault, and no run is asked for, the error tells the want of a subcommand
pub missing_is : (words : List Text) (app : App) (others : Type 0) (found : Option (Text × List Row)) (error : Error) → app ≡ charmlet_line
    → (is_simple_and_free app ≡ true → fault_of app words ≡ [])
    → (is_simple app ≡ true → others × (found ≡ subcommand_of app words))
    → option_and_then asked_by found ≡ None → kind_of error ≡ MissingSubcommand
    → AsksNothing words (Line error)
missing_is words app others found error is none met no_run kind =
    let no_fault : fault_of charmlet_line words ≡ [] = rw is at none charmlet_is_free in
    (asked_is app words others found is none met ∙ no_run, rw no_fault (inl kind))

-- what clap's error becomes is an answer to words that ask for nothing
pub error_is : {T : Type 0} (app : App) (words : List Text) (error : Error) (r : Result T CommandError) → app ≡ charmlet_line
    → (is_simple_and_free app ≡ true → HasKind (fault_of app words) error) → IsErrAnd r (IsErrorOf error) → IfErr r (AsksNothing words)
error_is app words error (Ok value) is kinds is_error = tt
error_is app words error (Err answer) is kinds is_error = answered words error answer (rw is at kinds charmlet_is_free) is_error
