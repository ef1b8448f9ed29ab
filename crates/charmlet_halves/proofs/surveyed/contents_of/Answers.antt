use Rattle.std.proofs.Common.{◌∙◌, arith, subst}
use Rattle.charmlet_image.specs.Views.{HalfIs}
use Rattle.charmlet_image.proofs.SpelledLemmas.{found_is_spelled}
use Rattle.charmlet_halves.proofs.Begun.{length-half}
use Rattle.charmlet_halves.proofs.surveyed.contents_of.Goals as goal

pub returns-in-Open-clause-contents : goal.returns-in-Open-clause-contents
returns-in-Open-clause-contents c =
    let says = subst (HalfIs c.args.bytes.now) c.in-Open.is c.in_ok-open.ensures in
    let spelled = found_is_spelled c.args.bytes.now says.0 (λ k. omega (arith, c.type_inv.bytes k)) says.1 in (
      says.0,
      record {
        good = spelled.0;
        found = says.1;
        spells = spelled.1;
        header = says.2.header;
        logged = says.2.log.events;
        log_end = says.2.log.ends ∙ length-half says.0 spelled.0;
      },
    )
