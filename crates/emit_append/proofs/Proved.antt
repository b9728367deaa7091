-- Laws of this crate, proved, and lemmas: all that the proofs of other crates cite of it.
use Rattle.emit_append.specs.Unpacking.{PackedFramesReadBack}
use Rattle.emit_append.specs.GoingOn.{PackingGoesOn}
use Rattle.emit_append.specs.Need.{NeedBehindFalls, NeedBehindGrows, NeedBehindIsEnough, NeedGrows, NeedIsEnough}
use Rattle.emit_append.specs.OutputBlocks.{OutputBlocksAreBytes, OutputBlocksAreWhole}
use Rattle.emit_append.specs.Packer.{LendingIsPutting}
pub use Rattle.emit_append.proofs.ByteLists.{AllBytes, FitsByte, by_place, by_recursion}
use Rattle.emit_append.proofs.Continuing as continuing
use Rattle.emit_append.proofs.Needs as needs
use Rattle.emit_append.proofs.NeedsBehind as behind
use Rattle.emit_append.proofs.Puts as puts
pub use Rattle.emit_append.proofs.Puts.{one_group_releases_none}
use Rattle.emit_append.proofs.ReadBack as read_back
use Rattle.emit_append.proofs.Wholes as wholes

pub output_blocks_are_whole : OutputBlocksAreWhole
output_blocks_are_whole = wholes.output_blocks_are_whole

pub output_blocks_are_bytes : OutputBlocksAreBytes
output_blocks_are_bytes = wholes.output_blocks_are_bytes

pub packing_goes_on : PackingGoesOn
packing_goes_on = continuing.packing_goes_on

pub lending_is_putting : LendingIsPutting
lending_is_putting = puts.lending_is_putting

pub need_is_enough : NeedIsEnough
need_is_enough = needs.need_is_enough

pub need_grows : NeedGrows
need_grows = needs.need_grows

pub need_behind_is_enough : NeedBehindIsEnough
need_behind_is_enough = behind.need_behind_is_enough

pub need_behind_grows : NeedBehindGrows
need_behind_grows = behind.need_behind_grows

pub need_behind_falls : NeedBehindFalls
need_behind_falls = behind.need_behind_falls

pub packed_frames_read_back : PackedFramesReadBack
packed_frames_read_back = read_back.packed_frames_read_back
