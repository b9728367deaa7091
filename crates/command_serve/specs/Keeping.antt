-- What saves the images that a stream asks for.
use Rattle.std.specs.Prelude.{◌≡◌, None, Some, IfSome}
use Rattle.image_store.specs.Namespace.{ZonedNamespace}
use Rattle.image_text.specs.Text.{text}
use Rattle.command_files.specs.Surroundings.{ChangesOnly, around}
use Rattle.command_files.specs.declared.files.Files.{Ghosts}
use Rattle.command_images.specs.Images.{HasText}
use Rattle.command_images.specs.UserTold.{IsUnheld}
use Rattle.command_serve.specs.declared.image_keeper.ImageKeeper.{ImageKeeper}

-- as long as no image failed to be saved, the file's name is held; why one wasn't is told of this file
pub record HoldsName {F R W : Type 0} (files : Ghosts F R W) (keeper : ImageKeeper F) : Type 0 where
  pub held : keeper.failure ≡ None → files.held keeper.files.now ≡ Some keeper.path.now
  pub failed : IfSome keeper.failure (IsUnheld keeper.path)

-- the same files, of which those with the name were saved
pub record KeepsIn {F R W : Type 0} (files : Ghosts F R W) (writes : Type 0) (old new : ImageKeeper F) : Type 0 where
  pub same_files : new.files.ghost_name ≡ old.files.ghost_name
  pub same_path : new.path ≡ old.path
  pub changes : ChangesOnly files writes old.path.now old.files.now new.files.now

-- the file has the text of a namespace
pub record HasKept {F R W : Type 0} (files : Ghosts F R W) (reads writes : Type 0) (old new : ImageKeeper F) (namespace : ZonedNamespace) : Type 0 where
  pub same_path : new.path ≡ old.path
  pub saved : HasText (around files reads writes old.files.now new.files.now) old.path.now (text namespace)
