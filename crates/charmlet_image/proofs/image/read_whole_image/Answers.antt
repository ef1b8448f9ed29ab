use Rattle.std.proofs.Common.{◌≤◌, ◌-◌, length, arith, length-take}
use Rattle.charmlet_record.proofs.Reach.{fault_within, rest_within}
use Rattle.charmlet_image.specs.Positioned.{read_positioned_image}
use Rattle.charmlet_image.specs.Views.{placed_said}
use Rattle.charmlet_image.proofs.ReachLemmas.{placed_image_within}
use Rattle.charmlet_image.proofs.image.read_whole_image.Goals as goal

pub overflow_add-result : goal.overflow_add-result
overflow_add-result c =
    let following = c.left-all.result - c.args.size in
    let fault = rw c.in-Err-Damaged.field-0-is at c.in-Err-Damaged.ensures.gives in
    let few : c.in-Err-Damaged.fault.bytes_left ≤ length c.part-part.result =
    fault_within (read_positioned_image c.args.mark following) c.part-part.result c.in-Err-Damaged.fault.bytes_left (placed_image_within c.args.mark following) fault in
    let part : length c.part-part.result ≤ c.args.size = rw c.part-part.ensures.taken (omega (arith, length-take c.args.size c.args.reader.now)) in
    rw c.in-Err-Damaged.field-0-is (omega arith)

pub overflow_add-result-then-left-ne0 : goal.overflow_add-result-then-left-ne0
overflow_add-result-then-left-ne0 c =
    let following = c.left-all.result - c.args.size in
    let few : length c.read_image.new.reader ≤ length c.part-part.result =
    rest_within (read_positioned_image c.args.mark following) c.part-part.result (placed_said c.in-Ok.image, c.read_image.new.reader) (placed_image_within c.args.mark following) c.in-Ok.ensures.gives in
    let part : length c.part-part.result ≤ c.args.size = rw c.part-part.ensures.taken (omega (arith, length-take c.args.size c.args.reader.now)) in
    omega arith
