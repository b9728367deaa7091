-- The assembler's map of labels, seen as a map from names to slots.
use Rattle.std.specs.Prelude.{ℕ, List, Option, Some, None, if◌then◌else◌}
use Rattle.std.specs.Borrow.{Bor}
use Rattle.std.specs.Ordering.{nat_cmp}
use Rattle.std.specs.Cmp.Lexicographic.{slice_cmp}
use Rattle.std.specs.Str.{bytes_eq}
use Rattle.std.specs.BTreeMap.{BTreeMap, get_by}
use Rattle.ebpf_asm.specs.Assembly.{LabelMap}

-- the slot that the map has for a name
abbrev pub label_in : BTreeMap (Bor (List ℕ)) ℕ → LabelMap
label_in labels name = get_by (λ key. slice_cmp nat_cmp name key.now) labels

-- a map after a label, if there is one, was put in
abbrev pub with_label : LabelMap → Option (List ℕ) → ℕ → LabelMap
with_label labels None slot name = labels name
with_label labels (Some label) slot name = if bytes_eq label name then Some slot else labels name
