use Rattle.charmlet_pup.proofs.Visits.{visits, handed_on}
use Rattle.charmlet_pup_tests.proofs.tests.ParcelPup.pup.Goals as goal

pub returns : goal.returns
returns c = search (visits, c.in_ok-u32.ensures, c.in_ok-flag.ensures, c.bytes.ensures)

pub returns-in_err-u32 : goal.returns-in_err-u32
returns-in_err-u32 c = rw (handed_on _ c.from_residual.ensures.1) (search (visits, c.in_err-u32.ensures))

pub returns-in_err-flag : goal.returns-in_err-flag
returns-in_err-flag c = rw (handed_on _ c.from_residual-in_err-flag.ensures.1) (search (visits, c.in_ok-u32.ensures, c.in_err-flag.ensures))
