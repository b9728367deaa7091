-- A file is replaced after what left all files as they were.
use Rattle.std.proofs.Common.{◌≡◌, ℕ, List, refl, subst}
use Rattle.command_files.specs.Made.{MakesAtMost, MakesOne}
use Rattle.command_files.specs.Surroundings.{MayReplace, Replaces}
use Rattle.command_files.specs.declared.files.Files.{Ghosts}
use Rattle.command_files.proofs.Proved.{modes_kept, others_kept}

pub replaces_after : {F R W : Type 0} (files : Ghosts F R W) (path : List ℕ) (a b c : F) → files.made b ≡ files.made a → files.contents b ≡ files.contents a
    → files.modes b ≡ files.modes a → Replaces files path b c → Replaces files path a c
replaces_after files path a b c made contents modes replaced = (
  subst (λ before. MakesOne path before (files.made c)) made replaced.0,
  others_kept path path (files.contents a) (files.contents b) (files.contents c) refl contents replaced.1,
  modes_kept (files.modes a) (files.modes b) (files.modes c) modes replaced.2,
)

pub may_replace_after : {F R W : Type 0} (files : Ghosts F R W) (path : List ℕ) (a b c : F) → files.made b ≡ files.made a
    → files.contents b ≡ files.contents a → files.modes b ≡ files.modes a → MayReplace files path b c → MayReplace files path a c
may_replace_after files path a b c made contents modes replaced = (
  subst (λ before. MakesAtMost path before (files.made c)) made replaced.0,
  others_kept path path (files.contents a) (files.contents b) (files.contents c) refl contents replaced.1,
  modes_kept (files.modes a) (files.modes b) (files.modes c) modes replaced.2,
)
