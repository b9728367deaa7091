-- Laws of the tests of a shape.
use Rattle.std.specs.Prelude.{◌≡◌, ◌↔◌, Ok}
use Rattle.image_store.specs.Geometry.{Shape, IsShape, tested}

-- the tests of a namespace's numbers pass each shape that there is, and no other
abbrev pub ShapesAreTested : Type 0
ShapesAreTested = (s : Shape) → IsShape s ↔ (tested s ≡ Ok s)
