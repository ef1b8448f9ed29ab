use Rattle.std.proofs.Common.{◌≡◌, ◌≤◌, List, [], ◌∷◌, refl, sym, subst, arith}
use Rattle.std.specs.Prelude.{take, get_or}
use Rattle.std.specs.List.{AllByRecursion}
use Rattle.std.proofs.lemmas.List.{take_more, take_all}
use Rattle.charmlet_model.specs.declared.kind.Kind.{Kind}
use Rattle.charmlet_model.specs.declared.kind.Kind.TheVariants as kinds
use Rattle.charmlet_model.specs.Shelves.{count_of}
use Rattle.charmlet_model.proofs.Reactions.{AllByRecursion-append}
use Rattle.charmlet_engine.specs.Wanted.{blanks_in}
use Rattle.charmlet_script_output.proofs.supplies.has_enough.Goals as goal

abbrev all_kinds : List Kind
all_kinds = kinds.Counter ∷ kinds.Ring ∷ kinds.Account ∷ kinds.Sum ∷ kinds.Tree ∷ kinds.Tape ∷ []

pub loop-kind-preserved : goal.loop-kind-preserved
loop-kind-preserved g c =
    let P : Kind → Type 0 = λ kind. blanks_in c.args.wanted.now kind ≤ count_of g.C.Chare.state c.args.objects.now kind in
    let at = c.loop-kind.kind-index in
    let kind = get_or all_kinds at kinds.Counter in
    let wanted : c.of.result ≡ blanks_in c.args.wanted.now kind = c.of.ensures in
    let counted : c.count_of.result ≡ count_of g.C.Chare.state c.args.objects.now kind = c.count_of.ensures in
    let less = c.if-count_of-of.false in
    let enough : P kind = omega arith in
    subst (AllByRecursion P) (sym (take_more all_kinds at kinds.Counter c.loop-kind-test.true)) (AllByRecursion-append P (take at all_kinds) (kind ∷ []) c.loop-kind.invariant (enough, tt))

pub returns : goal.returns
returns g c =
    let P : Kind → Type 0 = λ kind. blanks_in c.args.wanted.now kind ≤ count_of g.C.Chare.state c.args.objects.now kind in
    let all : AllByRecursion P all_kinds = subst (AllByRecursion P) (take_all c.loop-kind.kind-index all_kinds c.loop-kind-test.false) c.loop-kind.invariant in
    ((λ _. each P all), λ _. refl)
  where
    each : (P : Kind → Type 0) → AllByRecursion P all_kinds → (kind : Kind) → P kind
    each P all kinds.Counter = all.0
    each P all kinds.Ring = all.1.0
    each P all kinds.Account = all.1.1.0
    each P all kinds.Sum = all.1.1.1.0
    each P all kinds.Tree = all.1.1.1.1.0
    each P all kinds.Tape = all.1.1.1.1.1.0
