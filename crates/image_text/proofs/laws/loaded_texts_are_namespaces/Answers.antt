use Rattle.image_text.proofs.LoadedNamespaces.{loaded_texts_are_namespaces}
use Rattle.image_text.proofs.laws.loaded_texts_are_namespaces.Goals as goal

pub returns : goal.returns
returns c = loaded_texts_are_namespaces
