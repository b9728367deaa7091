-- Files in memory, and one behind them.
use Rattle.std.proofs.Common.{◌≡◌, ℕ, Bool, true, false, cond, List, [], ◌∷◌, ◌++◌, reverse, Option, Some, None, IfSome, refl, sym, ap, subst}
use Rattle.std.specs.Prelude.{find, option_map, string_bytes, bytes_eq, unwrap_or}
use Rattle.std.proofs.lemmas.Bool.{false_from_ne_true}
use Rattle.std.proofs.lemmas.List.{reverse-append}
use Rattle.std.proofs.lemmas.Slice.Eq.{bytes_eq-Decides}
use Rattle.command_files.specs.Made.{HasReplaced, KeepsModes}
use Rattle.command_files.specs.MemoryFiles.{bytes_named, mode_named}
use Rattle.command_files.specs.declared.memory_files.NamedFile.{NamedFile}

-- it is the first that is looked at
looked_at_first : (files : List NamedFile) (file : NamedFile) (name : List ℕ) → bytes_named (files ++ file ∷ []) name
    ≡ option_map (λ (file : NamedFile). file.bytes.items) (find (λ (file : NamedFile). bytes_eq (string_bytes file.path) name) (file ∷ reverse files))
looked_at_first files file name =
    ap (λ (found : List NamedFile). option_map (λ (file : NamedFile). file.bytes.items) (find (λ (file : NamedFile). bytes_eq (string_bytes file.path) name) found))
    (reverse-append files (file ∷ []))

-- it hides those of its name alone
pub replaced_behind : (files : List NamedFile) (file : NamedFile) → HasReplaced (string_bytes file.path) file.bytes.items (bytes_named files) (bytes_named (files ++ file ∷ []))
replaced_behind files file = record {
  same = rw (looked_at_first files file (string_bytes file.path), (bytes_eq-Decides (string_bytes file.path) (string_bytes file.path)).1 refl) refl;
  others = λ name differs. rw
      (looked_at_first files file name, false_from_ne_true _ (λ e. differs (sym ((bytes_eq-Decides (string_bytes file.path) name).0 e)))) refl;
}

-- the mode of a name, by the same
mode_looked_at : (files : List NamedFile) (file : NamedFile) (name : List ℕ) → mode_named (files ++ file ∷ []) name
    ≡ option_map (λ (file : NamedFile). file.mode) (find (λ (file : NamedFile). bytes_eq (string_bytes file.path) name) (file ∷ reverse files))
mode_looked_at files file name =
    ap (λ (found : List NamedFile). option_map (λ (file : NamedFile). file.mode) (find (λ (file : NamedFile). bytes_eq (string_bytes file.path) name) found))
    (reverse-append files (file ∷ []))

-- what is there stays
stays : (mode : Option ℕ) → IfSome mode (λ m. mode ≡ Some m)
stays None = tt
stays (Some m) = refl

-- what was there is taken
taken : (mode : Option ℕ) (other had : ℕ) → had ≡ unwrap_or mode other → IfSome mode (λ m. Some had ≡ Some m)
taken None other had is = tt
taken (Some m) other had is = ap (λ (n : ℕ). Some n) is

-- the file is found by its own name alone
found_by : (files : List NamedFile) (file : NamedFile) (other : ℕ) → file.mode ≡ unwrap_or (mode_named files (string_bytes file.path)) other → (name : List ℕ)
    → (test : Bool) → (test ≡ true → string_bytes file.path ≡ name) × (string_bytes file.path ≡ name → test ≡ true)
    → IfSome (mode_named files name) (λ mode. option_map (λ (file : NamedFile). file.mode)
    (cond test (Some file) (find (λ (file : NamedFile). bytes_eq (string_bytes file.path) name) (reverse files))) ≡ Some mode)
found_by files file other is name true decides =
    subst (λ (n : List ℕ). IfSome (mode_named files n) (λ mode. Some file.mode ≡ Some mode)) (decides.0 refl) (taken (mode_named files (string_bytes file.path)) other file.mode is)
found_by files file other is name false decides = stays (mode_named files name)

-- a file with the mode that its name had leaves all modes
pub modes_behind : (files : List NamedFile) (file : NamedFile) (other : ℕ) → file.mode ≡ unwrap_or (mode_named files (string_bytes file.path)) other
    → KeepsModes (mode_named files) (mode_named (files ++ file ∷ []))
modes_behind files file other is name =
    rw (mode_looked_at files file name) (found_by files file other is name (bytes_eq (string_bytes file.path) name) (bytes_eq-Decides (string_bytes file.path) name))
