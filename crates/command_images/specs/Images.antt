-- The images that commands make.
use Rattle.std.specs.Prelude.{◌≡◌, ◌≢◌, ◌⊎◌, ◌||◌, ℕ, Bool, true, false, List, [], take, bytes_eq, codes, Option, Some, Ok, IfSome}
use Rattle.clap.specs.declared.parser.matches.ArgMatches.{ArgMatches}
use Rattle.image_store.specs.Geometry.{Shape, tested}
use Rattle.image_store.specs.Namespace.{ZonedNamespace, all_empty}
use Rattle.image_text.specs.Reading.{namespace_in}
use Rattle.image_text.specs.Text.{text}
use Rattle.image_text.specs.Version.{numbers_of_version}
use Rattle.image_text.specs.declared.version.Version.TheVariants.{One, Two}
use Rattle.command_files.specs.Arguments.{number_of, value_of}
use Rattle.command_files.specs.Crash.{AreWritten}
use Rattle.command_files.specs.Made.{Made, then_made}
use Rattle.command_files.specs.Surroundings.{Surroundings}
use Rattle.command_images.specs.Devices.{TellNamespace}
use Rattle.command_images.specs.declared.image_file.TheConstants.{IMAGE}

-- the numbers of a shape are those that the options of a command line spell
pub record IsAskedFor (matches : ArgMatches) (s : Shape) : Type 0 where
  pub block : number_of matches (codes "block") ≡ Some s.block
  pub zones : number_of matches (codes "zones") ≡ Some s.zones
  pub size : number_of matches (codes "size") ≡ Some s.size
  pub capacity : number_of matches (codes "capacity") ≡ Some s.capacity
  pub open_limit : number_of matches (codes "open") ≡ Some s.limits.open_limit
  pub active_limit : number_of matches (codes "active") ≡ Some s.limits.active_limit

-- the name of the image file that a command line gives
abbrev pub image_of : ArgMatches → List ℕ
image_of matches = value_of matches IMAGE.now

-- it is asked for by force
abbrev pub IsForced : ArgMatches → Type 0
IsForced matches = value_of matches (codes "force") ≡ codes "true"

-- may the file of these bytes be replaced by a new image? It has none, or begins as an image of one of the versions does
abbrev pub is_replaceable : List ℕ → Bool
is_replaceable bytes =
    bytes_eq bytes [] || bytes_eq (take 8 bytes) (numbers_of_version One).magic || bytes_eq (take 8 bytes) (numbers_of_version Two).magic

-- the file is made anew of a namespace of the shape that is asked for, which passes the tests, and of which nothing is
-- written, where what is written of it is told
pub record MakesEmpty (writes : Type 0) (matches : ArgMatches) (path : List ℕ) (before after : Option (List Made)) : Type 0 where
  pub shape : Shape
  pub asked : IsAskedFor matches shape
  pub passes : tested shape ≡ Ok shape
  pub made : writes → after ≡ then_made before path (text (all_empty shape))

-- these bytes are an image of such a namespace, where what is written of it is told
pub record AreEmpty (writes : Type 0) (matches : ArgMatches) (bytes : List ℕ) : Type 0 where
  pub shape : Shape
  pub asked : IsAskedFor matches shape
  pub passes : tested shape ≡ Ok shape
  pub written : AreWritten writes (text (all_empty shape)) bytes

-- the bytes of a file, where they are told, stand for this namespace
abbrev pub StandFor : Option (List ℕ) → ZonedNamespace → Type 0
StandFor bytes namespace = IfSome bytes (λ bytes. namespace_in bytes ≡ Ok namespace)

-- the file is made anew of a namespace, where what is written of it is told: of that of the device that its bytes stand for, which has
-- nothing else, where these and what is read of them are told
pub record MakesAnew (here : Surroundings) (path : List ℕ) : Type 0 where
  pub namespace : ZonedNamespace
  pub held : here.reads → TellNamespace (here.contents path) namespace
  pub made : here.writes → here.after ≡ then_made here.before path (text namespace)

-- these bytes are an image of the namespace of the device that a file's bytes stand for, where these, what is read of them and what is written are told
pub record AreAnew (reads writes : Type 0) (held : Option (List ℕ)) (bytes : List ℕ) : Type 0 where
  pub namespace : ZonedNamespace
  pub held_is : reads → TellNamespace held namespace
  pub written : AreWritten writes (text namespace) bytes

-- a file has a text afterwards, where its bytes, what is read of them and what is written are told: none is made, since it had
-- this text; or it is made anew, since it had another
abbrev pub HasText : Surroundings → List ℕ → List ℕ → Type 0
HasText here path text =
    ((here.after ≡ here.before) × (here.reads → IfSome (here.contents path) (λ bytes. bytes ≡ text)))
    ⊎ ((here.writes → here.after ≡ then_made here.before path text) × (here.reads → IfSome (here.contents path) (λ bytes. bytes ≢ text)))

-- where a file's bytes are told, they are none or begin as an image does
abbrev pub IsReplaceable : Option (List ℕ) → Type 0
IsReplaceable bytes = IfSome bytes (λ bytes. is_replaceable bytes ≡ true)

-- where they are told, they are others
abbrev pub IsAnother : Option (List ℕ) → Type 0
IsAnother bytes = IfSome bytes (λ bytes. is_replaceable bytes ≡ false)
