-- What is saved of an image that was loaded.
use Rattle.std.proofs.Common.{◌≡◌, ℕ, List, Result, Ok, ap, subst}
use Rattle.image_text.specs.declared.fault.LoadFault.{LoadFault}
use Rattle.image_text.specs.Laws.{UpgradedStandsForTheSame, UpgradingTwiceIsOnce, upgraded}
use Rattle.image_store.specs.Namespace.{ZonedNamespace}
use Rattle.common_definitions.specs.Readings.{◌>>=◌}
use Rattle.image_text.specs.Reading.{namespace_in}
use Rattle.image_text.specs.Text.{text}
use Rattle.image_text.proofs.TextsReadBack.{saved_texts_load}
use Rattle.image_text.proofs.ReadingCalls.{bind_ok, ok_is}
use Rattle.image_text.proofs.LoadedNamespaces.{loaded_texts_are_namespaces}

pub upgraded_is_same : UpgradedStandsForTheSame
upgraded_is_same bytes ns fit e = saved_texts_load ns (loaded_texts_are_namespaces bytes ns fit e)

pub twice_is_once : UpgradingTwiceIsOnce
twice_is_once bytes new fit e =
    let a = bind_ok (namespace_in bytes) (λ ns. Ok (text ns)) new e in
    let same = ok_is (text a.0) new a.2 in
    let again : namespace_in (text a.0) ≡ Ok a.0 = upgraded_is_same bytes a.0 fit a.1 in
    let saved : upgraded (text a.0) ≡ Ok (text a.0) =
    ap (λ (r : Result ZonedNamespace LoadFault). r >>= λ ns. let r : Result (List ℕ) LoadFault = Ok (text ns) in r) again in
    subst (λ (xs : List ℕ). upgraded xs ≡ Ok xs) same saved
