use Rattle.image_store.proofs.Shapes.{shape_is, shape_passes}
use Rattle.image_store.proofs.laws.shapes_are_tested.Goals as goal

pub returns : goal.returns
returns c s = (shape_passes s, shape_is s s)
