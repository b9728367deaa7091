-- What lies in memory of a base that was read.
use Rattle.durable_machine.specs.Batches.{bytes_of}
use Rattle.image_base.specs.Base.{Told}
use Rattle.image_base.specs.declared.base.Base.{Base}

-- what it tells
abbrev pub told_by : Base → Told
told_by base = record { namespace = base.image; sections = bytes_of base.sections.items }
