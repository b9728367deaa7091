-- The base of a device's journal: who made it, the image that the device began with, and sections for what it had beside it.
use Rattle.std.specs.Prelude.{◌≡◌, ◌≢◌, ◌⊎◌, ◌<◌, ◌^◌, ℕ, List, [], ◌∷◌, ◌++◌, length, codes, Ok}
use Rattle.durable_machine.specs.Events.{AreSized, number_bytes, spelled}
use Rattle.image_store.specs.Namespace.{ZonedNamespace}
use Rattle.image_text.specs.Reading.{namespace_in}
use Rattle.image_base.specs.declared.front.Maker.{Maker}
use Rattle.image_base.specs.declared.sections.TheConstants.{SECTIONS}

-- ---- who made it

-- the first bytes of a base
abbrev pub magic : List ℕ
magic = codes "ZNSJRN01"

-- the label after them: a 2, and of who made the base the version of the meaning and the profile
abbrev pub label_of : Maker → List ℕ
label_of maker = 2 ∷ number_bytes maker.version ++ number_bytes maker.profile

-- this device
abbrev pub this_device : Maker
this_device = record { version = 1; profile = 2 }

-- and its label
unfoldable pub our_label : List ℕ
our_label = label_of this_device

-- bytes begin with no label
abbrev pub BeginsNoLabel : List ℕ → Type 0
BeginsNoLabel bytes = (maker : Maker) (rest : List ℕ) → bytes ≡ label_of maker ++ rest → ⊥

-- the front of a file says that this device made it
pub record IsMadeBy (maker : Maker) (file : List ℕ) : Type 0 where
  pub version_fits : maker.version < 2 ^ 64
  pub profile_fits : maker.profile < 2 ^ 64
  pub rest : List ℕ
  pub begins : file ≡ magic ++ (label_of maker ++ rest)

-- a device with another meaning or profile than this one made it
pub record IsMadeByOther (maker : Maker) (file : List ℕ) : Type 0 where
  pub made : IsMadeBy maker file
  pub other : maker ≢ this_device

-- no such device made it
abbrev pub IsMadeByNoOther : List ℕ → Type 0
IsMadeByNoOther file = (maker : Maker) → IsMadeByOther maker file → ⊥

-- ---- bases

-- a base of this device has its label; those of before there were labels have none
abbrev pub IsLabel : List ℕ → Type 0
IsLabel label = (label ≡ our_label) ⊎ (label ≡ [])

-- a base: the magic and a label, then a text and sections of bytes, each spelled as an event of a journal is
abbrev pub base_with : List ℕ → List ℕ → List (List ℕ) → List ℕ
base_with label text sections = magic ++ (label ++ spelled (text ∷ sections))

-- what a base tells
pub record Told : Type 0 where
  pub namespace : ZonedNamespace
  pub sections : List (List ℕ)

-- so many sections, of lengths that can be told
pub record AreSections (sections : List (List ℕ)) : Type 0 where
  pub number : length sections ≡ SECTIONS
  pub sized : AreSized sections

-- the base tells this: its text is that of an image, of either version of images
pub record IsBaseOf (base : List ℕ) (told : Told) : Type 0 where
  pub label : List ℕ
  pub ours : IsLabel label
  pub text : List ℕ
  pub sized : length text < 2 ^ 64
  pub sections : AreSections told.sections
  pub parts : base ≡ base_with label text told.sections
  pub read : namespace_in text ≡ Ok told.namespace

-- the bytes are no text of an image
abbrev pub IsNoText : List ℕ → Type 0
IsNoText bytes = (ns : ZonedNamespace) → namespace_in bytes ≡ Ok ns → ⊥

-- this is what a file has after the magic and this device's label; or after the magic, where no label is there
abbrev pub IsAfterLabel : List ℕ → List ℕ → Type 0
IsAfterLabel file after = (file ≡ magic ++ (our_label ++ after)) ⊎ ((file ≡ magic ++ after) × BeginsNoLabel after)

-- ---- sections at the front of bytes

-- all of them stand there, and so many bytes behind them
pub record BeginSections (sections : List (List ℕ)) (behind : ℕ) (bytes : List ℕ) : Type 0 where
  pub are : AreSections sections
  pub rest : List ℕ
  pub parts : bytes ≡ spelled sections ++ rest
  pub counted : behind ≡ length rest

-- no such sections stand there
abbrev pub BeginNoSections : List ℕ → Type 0
BeginNoSections bytes = (sections : List (List ℕ)) (rest : List ℕ) → AreSections sections → bytes ≡ spelled sections ++ rest → ⊥
