use Rattle.charmlet_pup.proofs.Visits.{visits, handed_on}
use Rattle.charmlet_pup_tests.proofs.tests.SamplePup.pup.Goals as goal

pub returns : goal.returns
returns c = search (visits, c.in_ok-u8.ensures, c.in_ok-u16.ensures, c.in_ok-u32.ensures, c.in_ok-u64.ensures, c.in_ok-flag.ensures, c.in_ok-words.ensures, c.bytes.ensures) depth 9

pub returns-in_err-u8 : goal.returns-in_err-u8
returns-in_err-u8 c = rw (handed_on _ c.from_residual.ensures.1) (search (visits, c.in_err-u8.ensures))

pub returns-in_err-u16 : goal.returns-in_err-u16
returns-in_err-u16 c = rw (handed_on _ c.from_residual-in_err-u16.ensures.1) (search (visits, c.in_ok-u8.ensures, c.in_err-u16.ensures))

pub returns-in_err-u32 : goal.returns-in_err-u32
returns-in_err-u32 c = rw (handed_on _ c.from_residual-in_err-u32.ensures.1) (search (visits, c.in_ok-u8.ensures, c.in_ok-u16.ensures, c.in_err-u32.ensures))

pub returns-in_err-u64 : goal.returns-in_err-u64
returns-in_err-u64 c =
    rw (handed_on _ c.from_residual-in_err-u64.ensures.1) (search (visits, c.in_ok-u8.ensures, c.in_ok-u16.ensures, c.in_ok-u32.ensures, c.in_err-u64.ensures))

pub returns-in_err-flag : goal.returns-in_err-flag
returns-in_err-flag c =
    rw (handed_on _ c.from_residual-in_err-flag.ensures.1)
    (search (visits, c.in_ok-u8.ensures, c.in_ok-u16.ensures, c.in_ok-u32.ensures, c.in_ok-u64.ensures, c.in_err-flag.ensures) depth 9)

pub returns-in_err-words : goal.returns-in_err-words
returns-in_err-words c =
    rw (handed_on _ c.from_residual-in_err-words.ensures.1)
    (search (visits, c.in_ok-u8.ensures, c.in_ok-u16.ensures, c.in_ok-u32.ensures, c.in_ok-u64.ensures, c.in_ok-flag.ensures, c.in_err-words.ensures) depth 9)
