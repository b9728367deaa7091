-- What notes say of a program, wherever their texts lie (profile).
use Rattle.std.specs.Prelude.{ℕ, List, Option, map}
use Rattle.link_notes.specs.declared.notes.GuardNote.{GuardNote}
use Rattle.link_notes.specs.declared.notes.LinkNotes.{LinkNotes}

-- a guard that may end a run: its number, its slot, its line in the source, and what doesn't hold where it ends a run
pub record ToldGuard : Type 0 where
  pub number : ℕ
  pub slot : ℕ
  pub place : List ℕ
  pub text : List ℕ

-- the sum of the program's bytes, the bytes of a block, the limit of what may be emitted, the profile, where in scratch guards write, and
-- the guards
pub record ToldNotes : Type 0 where
  pub sum : Option ℕ
  pub block : ℕ
  pub emit : Option ℕ
  pub profile : ℕ
  pub guard_at : Option ℕ
  pub guards : List ToldGuard

abbrev pub told_guard : GuardNote → ToldGuard
told_guard note = record { number = note.number; slot = note.slot; place = note.place.now; text = note.text.now }

abbrev pub told_notes : LinkNotes → ToldNotes
told_notes notes = record {
  sum = notes.sum;
  block = notes.block;
  emit = notes.emit;
  profile = notes.profile;
  guard_at = notes.guard_at;
  guards = map told_guard notes.guards.items;
}
