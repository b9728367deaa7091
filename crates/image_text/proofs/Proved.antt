-- What the proofs of other crates cite of this one: laws.
use Rattle.image_text.specs.Laws.{LoadedTextsAreNamespaces, SavedTextsLoad}
use Rattle.image_text.proofs.LoadedNamespaces as loaded
use Rattle.image_text.proofs.TextsReadBack as read_back

pub saved_texts_load : SavedTextsLoad
saved_texts_load = read_back.saved_texts_load

pub loaded_texts_are_namespaces : LoadedTextsAreNamespaces
loaded_texts_are_namespaces = loaded.loaded_texts_are_namespaces
