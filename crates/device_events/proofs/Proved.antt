-- What others cite of this crate: what is printed fits the laws of an `Out`.
use Rattle.std.proofs.Common.{◌≡◌, ℕ, List, [], sym, subst, arith}
use Rattle.std.specs.Prelude.{flat_map}
use Rattle.std.specs.Io.KnownBytes.{Appends}
use Rattle.std.proofs.KnownBytes.{Appends-nil, Appends-trans}
use Rattle.std.proofs.lemmas.List.Concat.{flat_map-append}
use Rattle.device_events.specs.Printed.{Printed, Prints}
use Rattle.device_events.specs.Replies.{Joins, ReplyWithData}

module _ (text : ReplyWithData → List ℕ) where
  -- as long as nothing is printed, it is the texts of no replies
  pub prints_none : (printed : Printed) → Prints text printed printed []
  prints_none printed = record { no_fewer = omega arith; texts = λ same. Appends-nil printed.bytes }

  -- what is printed in two parts is printed in order
  pub prints_in_parts : Joins (Prints text)
  prints_in_parts a b c first later early late = record {
    no_fewer = omega (arith, early.no_fewer, late.no_fewer);
    texts = λ same.
        let none : b.refusals ≡ a.refusals = omega (arith, same, early.no_fewer, late.no_fewer) in
        let fewer : c.refusals ≡ b.refusals = omega (arith, same, none) in
        subst (Appends a.bytes c.bytes) (sym (flat_map-append text first later))
        (Appends-trans a.bytes b.bytes c.bytes (flat_map text first) (flat_map text later) (early.texts none) (late.texts fewer));
  }
