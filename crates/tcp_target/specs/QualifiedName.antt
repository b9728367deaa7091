-- NVMe Qualified Names (NVMe Base 2.0, 4.5).
use Rattle.std.specs.Prelude.{ℕ, ◌==◌, List}
use Rattle.std.specs.List.{before_first}

-- the name in a field: the bytes before the first 00h, or all of them where there is none
abbrev pub name_in : List ℕ → List ℕ
name_in bytes = before_first (λ byte. byte == 0) bytes
