-- What is known where the checks of a header, of sections, of symbols and of relocations find no fault.
use Rattle.std.proofs.Common.{◌≡◌, ℕ, ◌+◌, ◌<◌, ◌≤◌, Bool, true, false, cond, not, ◌&&◌, ◌||◌, nat_lt, List, length, Option, None, Some, refl, arith}
use Rattle.std.proofs.lemmas.Bool.{leb-true, ltb-true, le-ltb}
use Rattle.std.specs.Option.{option_or}
use Rattle.common_definitions.proofs.Proved.{demanded, passed}
use Rattle.ebpf_object.specs.declared.fault.HeaderFault.TheVariants.{Short}
use Rattle.ebpf_object.specs.declared.fault.SectionFault.{SectionFault}
use Rattle.ebpf_object.specs.declared.section.Section.{Section}
use Rattle.ebpf_object.specs.declared.section.SectionKind.{SectionKind}
use Rattle.ebpf_object.specs.declared.section.SectionKind.TheVariants.{SymbolTable, Relocations}
use Rattle.ebpf_object.specs.Faults.{any_section_checks, any_section_fault, file_fault, header_fault, identification_fault, kind_fault, relocations_checks, section_fault, symbol_table_checks, table_checks, table_fault, told_overlap}
use Rattle.ebpf_object.specs.Header.{section_table}
use Rattle.ebpf_object.specs.Sections.{HeadersAre, first_overlap, has_contents, lies_inside, section_at}

-- where neither of two is there, each is not
pub neither : {F : Type 0} (a b : Option F) → option_or a b ≡ None → (a ≡ None) × (b ≡ None)
neither None b e = (refl, e)
neither (Some fault) b e = absurd cc

-- where both of two tests pass, each does
pub both : (a b : Bool) → (a && b) ≡ true → (a ≡ true) × (b ≡ true)
both true b e = (refl, e)
both false b e = absurd cc

-- what is told unless a test passes is not told where nothing is
untold : {F : Type 0} (test : Bool) (fault : F) (others : Option F) → cond test (Some fault) others ≡ None → (test ≡ false) × (others ≡ None)
untold true fault others e = absurd cc
untold false fault others e = (refl, e)

-- an implication whose premise holds
pub holds_then : (a b : Bool) → (not a || b) ≡ true → a ≡ true → b ≡ true
holds_then true b e h = e
holds_then false b e h = absurd cc

at_least : (a b : ℕ) → nat_lt a b ≡ false → b ≤ a
at_least a b e = grind (arith, le-ltb)

module _ (bytes : List ℕ) (none : header_fault bytes ≡ None) where
  long : (nat_lt (length bytes) 64 ≡ false) × (option_or (option_or (identification_fault bytes) (file_fault bytes)) (table_fault bytes) ≡ None)
  long = untold (nat_lt (length bytes) 64) Short (option_or (option_or (identification_fault bytes) (file_fault bytes)) (table_fault bytes)) none

  -- a header without a fault has all its bytes,
  pub is_long : 64 ≤ length bytes
  is_long = at_least (length bytes) 64 long.0

  table_none : table_fault bytes ≡ None
  table_none = (neither (option_or (identification_fault bytes) (file_fault bytes)) (table_fault bytes) long.1).1

  -- the section headers lie in the file,
  pub headers_are : HeadersAre bytes (section_table bytes)
  headers_are = record { are = refl; inside = leb-true _ _ (demanded _ _ (passed (table_checks bytes) 1 table_none)) }

  -- and that with their names is among them
  pub names_there : (section_table bytes).names < (section_table bytes).count
  names_there = ltb-true _ _ (both _ _ (demanded _ _ (passed (table_checks bytes) 2 table_none))).0

untold_overlap : (found : Option ℕ) → told_overlap found ≡ None → found ≡ None
untold_overlap None e = refl
untold_overlap (Some other) e = absurd cc

module _ (bytes : List ℕ) (symbols number : ℕ) (none : section_fault bytes symbols number ≡ None) where
  abbrev at : Section
  at = section_at bytes number

  abbrev others : Option SectionFault
  others = option_or (told_overlap (first_overlap bytes at number)) (kind_fault bytes symbols at at.kind)

  parts : (any_section_fault bytes at ≡ None) × (others ≡ None)
  parts = neither (any_section_fault bytes at) others none

  -- nothing of what depends on the kind is told of a section without a fault,
  of_kind : (told_overlap (first_overlap bytes at number) ≡ None) × (kind_fault bytes symbols at at.kind ≡ None)
  of_kind = neither (told_overlap (first_overlap bytes at number)) (kind_fault bytes symbols at at.kind) parts.1

  -- no section of a lower number has a byte in common with it,
  pub none_overlaps : first_overlap bytes at number ≡ None
  none_overlaps = untold_overlap (first_overlap bytes at number) of_kind.0

  -- the bytes of a section without a fault lie in the file,
  pub lies : lies_inside bytes at ≡ true
  lies = demanded _ _ (passed (any_section_checks bytes at) 0 parts.0)

  -- where it has any
  pub ends_inside : has_contents at.kind ≡ true → at.offset + at.size ≤ length bytes
  ends_inside has = leb-true _ _ (holds_then (has_contents at.kind) _ lies has)

  strings_of : (kind : SectionKind) → kind_fault bytes symbols at kind ≡ None → kind ≡ SymbolTable → at.link < (section_table bytes).count
  strings_of SymbolTable e is = ltb-true _ _ (both _ _ (demanded _ _ (passed (symbol_table_checks bytes at) 1 e))).0
  strings_of _ e is = absurd cc

  -- the names of a symbol table are in a section that is there,
  pub strings_there : at.kind ≡ SymbolTable → at.link < (section_table bytes).count
  strings_there = strings_of at.kind of_kind.1

  target_of : (kind : SectionKind) → kind_fault bytes symbols at kind ≡ None → kind ≡ Relocations → at.info < (section_table bytes).count
  target_of Relocations e is = ltb-true _ _ (both _ _ (demanded _ _ (passed (relocations_checks bytes symbols at) 2 e))).0
  target_of _ e is = absurd cc

  -- and what relocations are of is a section that is there
  pub target_there : at.kind ≡ Relocations → at.info < (section_table bytes).count
  target_there = target_of at.kind of_kind.1
