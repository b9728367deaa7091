-- The ELF header (gABI, chapter 4, ELF Header), of 64 bytes.
use Rattle.std.specs.Prelude.{ℕ, List}
use Rattle.common_definitions.specs.Bytes.{field}
use Rattle.ebpf_object.specs.declared.header.SectionTable.{SectionTable}

-- where the section headers are: e_shoff, e_shnum and e_shstrndx
abbrev pub section_table : List ℕ → SectionTable
section_table bytes = record { offset = field bytes 40 8; count = field bytes 60 2; names = field bytes 62 2 }
