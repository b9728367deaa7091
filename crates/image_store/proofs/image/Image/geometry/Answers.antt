use Rattle.image_store.proofs.ImageFields.{shape_seen}
use Rattle.image_store.proofs.SoundImages.{sound}
use Rattle.image_store.proofs.image.Image.geometry.Goals as goal

pub returns-clause-value : goal.returns-clause-value
returns-clause-value c = shape_seen c.self.inside.geometry c.self.inside.zones.items c.self.inside.blocks.items c.args.self.now c.self.view_is c.self.invariant.flat

pub returns-clause-sound : goal.returns-clause-sound
returns-clause-sound c = sound c.self.inside.geometry c.self.inside.zones.items c.self.inside.counts c.self.inside.blocks.items c.args.self.now c.self.view_is c.self.invariant
