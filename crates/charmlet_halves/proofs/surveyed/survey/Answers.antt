use Rattle.charmlet_halves.proofs.Quiet.{read_then}
use Rattle.charmlet_halves.proofs.surveyed.survey.Goals as goal

pub returns-in_err-bytes-clause-only_read : goal.returns-in_err-bytes-clause-only_read
returns-in_err-bytes-clause-only_read g c = λ honest.
    let old = c.args.disk.now in
    let second = c.look_at-2.new.disk in
    let still = c.look_at.ensures.disk.honest.0 honest in
    let again = c.look_at-2.ensures.disk.honest.0 still in
    let looked = read_then g.D.Disk old c.look_at.new.disk second (c.look_at.ensures.only_read honest) (c.look_at-2.ensures.only_read still) in
    read_then g.D.Disk old second c.read_whole.new.disk looked (c.read_whole.ensures.only_read again)

pub returns-in_err-contents-clause-only_read : goal.returns-in_err-contents-clause-only_read
returns-in_err-contents-clause-only_read g c = λ honest.
    let old = c.args.disk.now in
    let second = c.look_at-2.new.disk in
    let still = c.look_at.ensures.disk.honest.0 honest in
    let again = c.look_at-2.ensures.disk.honest.0 still in
    let looked = read_then g.D.Disk old c.look_at.new.disk second (c.look_at.ensures.only_read honest) (c.look_at-2.ensures.only_read still) in
    read_then g.D.Disk old second c.read_whole.new.disk looked (c.read_whole.ensures.only_read again)

pub returns-clause-only_read : goal.returns-clause-only_read
returns-clause-only_read g c = λ honest.
    let old = c.args.disk.now in
    let second = c.look_at-2.new.disk in
    let still = c.look_at.ensures.disk.honest.0 honest in
    let again = c.look_at-2.ensures.disk.honest.0 still in
    let looked = read_then g.D.Disk old c.look_at.new.disk second (c.look_at.ensures.only_read honest) (c.look_at-2.ensures.only_read still) in
    read_then g.D.Disk old second c.read_whole.new.disk looked (c.read_whole.ensures.only_read again)
