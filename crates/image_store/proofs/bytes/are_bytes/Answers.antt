use Rattle.image_store.proofs.bytes.are_bytes.Goals as goal

pub returns : goal.returns
returns c = λ k. (c.type_inv.bytes k).fits
